-- `id_items` answers the items that `id_items` finds, counted. The loop has passed whole items with good ids; its measure is what is left.
use Prim.Native.Nat.{◌-◌}
use Rattle.wire.specs.Cursors.{left}
use borrow.Author.Rules.{rules}
use Rattle.b3d_judge_items.proofs.ItemLaws.{id-counting}
use Rattle.b3d_judge_items.proofs.id_items.Goals as goal

pub overflow_mul-size : goal.overflow_mul-size
unfolding left
overflow_mul-size c = search rules

pub loop-at-init : goal.loop-at-init
unfolding left
loop-at-init c = search (id-counting, rules)

pub overflow_sub-end : goal.overflow_sub-end
unfolding left
overflow_sub-end c = search rules

pub returns-then-end-at : goal.returns-then-end-at
unfolding left
returns-then-end-at c = search (id-counting, rules)

pub first_invalid-good-requires : goal.first_invalid-good-requires
unfolding left
first_invalid-good-requires c = search rules

pub overflow_mul-result : goal.overflow_mul-result
unfolding left
overflow_mul-result c = search rules

pub overflow_add-result : goal.overflow_add-result
unfolding left
overflow_add-result c = search rules

pub returns-then-good-ids : goal.returns-then-good-ids
unfolding left
returns-then-good-ids c = search (id-counting, rules)

pub overflow_add-at : goal.overflow_add-at
unfolding left
overflow_add-at c = search rules

pub overflow_add-count : goal.overflow_add-count
unfolding left
overflow_add-count c = search rules

pub loop-at-smaller : goal.loop-at-smaller
unfolding left
loop-at-smaller c = search rules

pub loop-at-preserved : goal.loop-at-preserved
unfolding left
loop-at-preserved c = search (id-counting, rules)

pub returns : goal.returns
unfolding left
returns c = search (id-counting, rules)
