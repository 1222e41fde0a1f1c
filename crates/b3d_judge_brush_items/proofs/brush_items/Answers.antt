-- `brush_items` answers the brushes that `read_brush` finds, counted. The loop has passed whole brushes with good colours and ids; its
-- measure is what is left.
use Prim.Native.Nat.{◌-◌}
use borrow.Author.Rules.{rules}
use Rattle.b3d_chunk_cursor.proofs.NamedLaws.{named-rows}
use Rattle.b3d_judge_brush_items.proofs.BrushLaws.{brushes, brushes_done, brushes-room, ids-room, ids_inside, ids-fit, id-fits, id-before, brushes-bad, brushes-one}
use Rattle.b3d_judge_brush_items.proofs.brush_items.Goals as goal

pub loop-c-init : goal.loop-c-init
loop-c-init c = search (brushes, rules)

pub first_bad_colour-passed-requires : goal.first_bad_colour-passed-requires
first_bad_colour-passed-requires c = search (brushes, rules)

pub overflow_add-result : goal.overflow_add-result
overflow_add-result c = search (brushes, rules)

pub returns-then-passed-colours : goal.returns-then-passed-colours
returns-then-passed-colours c = search (brushes, rules)

pub overflow_add-ids : goal.overflow_add-ids
overflow_add-ids c = search (ids-fit, rules)

pub first_invalid-good-requires : goal.first_invalid-good-requires
first_invalid-good-requires c = (search (ids_inside, rules), search (ids-room, rules), search rules)

pub overflow_add-result-then-good-slots : goal.overflow_add-result-then-good-slots
overflow_add-result-then-good-slots c = search (id-fits, rules)

pub returns-then-good-slots : goal.returns-then-good-slots
returns-then-good-slots c = (search (brushes-bad, rules), search (id-before, rules))

pub loop-c-smaller : goal.loop-c-smaller
loop-c-smaller c = search (named-rows, rules)

pub loop-c-preserved : goal.loop-c-preserved
loop-c-preserved c = search (brushes-one, rules)

pub returns : goal.returns
returns c = search (brushes_done, brushes-room, rules)

pub returns-in_default : goal.returns-in_default
returns-in_default c = search (brushes, rules)
