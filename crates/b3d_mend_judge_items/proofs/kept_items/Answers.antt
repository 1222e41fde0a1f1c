-- `kept_items` counts the items that `lax_items` leaves. The loop has passed whole items; its measure is what is left.
use Prim.Native.Nat.{◌-◌}
use Rattle.wire.specs.Cursors.{left}
use Rattle.b3d_mend_judge_items.proofs.KeepLaws.{keeping}
use borrow.Author.Rules.{rules}
use Rattle.b3d_mend_judge_items.proofs.kept_items.Goals as goal

pub overflow_mul-size : goal.overflow_mul-size
unfolding left
overflow_mul-size c = search (keeping, rules)

pub loop-at-init : goal.loop-at-init
unfolding left
loop-at-init c = search (keeping, rules)

pub overflow_sub-end : goal.overflow_sub-end
unfolding left
overflow_sub-end c = search (keeping, rules)

pub returns-then-end-at : goal.returns-then-end-at
unfolding left
returns-then-end-at c = search (keeping, rules)

pub kept_one-one-requires : goal.kept_one-one-requires
unfolding left
kept_one-one-requires c = search (keeping, rules)

pub overflow_add-at : goal.overflow_add-at
unfolding left
overflow_add-at c = search (keeping, rules)

pub overflow_add-count : goal.overflow_add-count
unfolding left
overflow_add-count c = search (keeping, rules)

pub loop-at-smaller : goal.loop-at-smaller
unfolding left
loop-at-smaller c = search (keeping, rules)

pub loop-at-preserved : goal.loop-at-preserved
unfolding left
loop-at-preserved c = search (keeping, rules)

pub returns : goal.returns
unfolding left
returns c = search (keeping, rules)
