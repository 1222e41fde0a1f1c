-- `colour_items` answers the items that `colour_items` finds, counted. The loop has passed whole items with good colours; its measure is
-- what is left.
use Prim.Native.Nat.{◌-◌}
use Rattle.wire.specs.Cursors.{left}
use borrow.Author.Rules.{rules}
use Rattle.b3d_judge_items.proofs.ItemLaws.{colour-counting}
use Rattle.b3d_judge_colour_items.proofs.colour_items.Goals as goal

pub overflow_mul-item : goal.overflow_mul-item
unfolding left
overflow_mul-item c = search rules

pub loop-at-init : goal.loop-at-init
unfolding left
loop-at-init c = search (colour-counting, rules)

pub overflow_sub-end : goal.overflow_sub-end
unfolding left
overflow_sub-end c = search rules

pub returns-then-end-at : goal.returns-then-end-at
unfolding left
returns-then-end-at c = search (colour-counting, rules)

pub overflow_mul-first : goal.overflow_mul-first
unfolding left
overflow_mul-first c = search rules

pub overflow_add-first : goal.overflow_add-first
unfolding left
overflow_add-first c = search rules

pub first_bad_colour-good-requires : goal.first_bad_colour-good-requires
unfolding left
first_bad_colour-good-requires c = search rules

pub overflow_mul-result : goal.overflow_mul-result
unfolding left
overflow_mul-result c = search rules

pub overflow_add-result : goal.overflow_add-result
unfolding left
overflow_add-result c = search rules

pub returns-then-good-n : goal.returns-then-good-n
unfolding left
returns-then-good-n c = search (colour-counting, rules)

pub overflow_add-at : goal.overflow_add-at
unfolding left
overflow_add-at c = search rules

pub overflow_add-count : goal.overflow_add-count
unfolding left
overflow_add-count c = search rules

pub loop-at-smaller : goal.loop-at-smaller
unfolding left
loop-at-smaller c = search rules

pub loop-at-preserved : goal.loop-at-preserved
unfolding left
loop-at-preserved c = search (colour-counting, rules)

pub returns : goal.returns
unfolding left
returns c = search (colour-counting, rules)
