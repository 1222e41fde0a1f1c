-- `brushes_valid` looks at each row. The loop has passed those before i.
use Rattle.b3d_check_rows.proofs.LoopLaws.{all_laws}
use borrow.Author.Rules.{rules}
use Rattle.b3d_check_materials.proofs.brushes_valid.Goals as goal

pub loop-i-init : goal.loop-i-init
loop-i-init c = search (all_laws, rules)

pub brush_valid-requires : goal.brush_valid-requires
brush_valid-requires c = search (all_laws, rules)

pub returns-then-not-brush_valid : goal.returns-then-not-brush_valid
returns-then-not-brush_valid c = search (all_laws, rules)

pub loop-i-preserved : goal.loop-i-preserved
loop-i-preserved c = search (all_laws, rules)

pub returns : goal.returns
returns c = search (all_laws, rules)
