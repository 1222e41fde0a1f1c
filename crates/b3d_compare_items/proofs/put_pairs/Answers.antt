-- `put_pairs` puts the entries of one pair a turn: the items from p and q on are left.
use Prim.Native.Nat.{◌-◌}
use Rattle.b3d_compare_items.proofs.PairLaws.{step_small, pairs_start, pairs_done, pairs_stop, pairs_first, pairs_second, pairs_wide, pairs_most, pairs_fit, pairs_next, pairs_less}
use borrow.Author.Rules.{rules}
use Rattle.b3d_compare_items.proofs.put_pairs.Goals as goal

pub overflow_mul-step : goal.overflow_mul-step
overflow_mul-step c = let h = step_small _ _ _ _ _ _ c.requires.0 in search rules

pub loop-p-init : goal.loop-p-init
loop-p-init c = let v = c.requires in pairs_start _ _ _ _ _ _ _ _ _ _ v.0 v.1 v.2

pub overflow_sub-i : goal.overflow_sub-i
overflow_sub-i c = c.loop-p.invariant.first_high

pub overflow_sub-j : goal.overflow_sub-j
overflow_sub-j c = c.loop-p.invariant.second_high

pub overflow_sub-result : goal.overflow_sub-result
overflow_sub-result c = c.loop-p.invariant.row_low

pub overflow_sub-result-then-j-q : goal.overflow_sub-result-then-j-q
overflow_sub-result-then-j-q c = c.loop-p.invariant.first_low

pub shape_of-out-then-j-q : goal.shape_of-out-then-j-q
shape_of-out-then-j-q c = c.loop-p.invariant.put.long

pub returns-then-j-q : goal.returns-then-j-q
returns-then-j-q c = pairs_stop _ _ _ _ _ _ _ _ _ _ _ _ _ _ _ _ c.loop-p.invariant c.if-j-q.true

pub put_item_words-next-requires : goal.put_item_words-next-requires
put_item_words-next-requires c = let g = c.loop-p.invariant in let h = c.loop-p-test.true in let l = c.if-j-q.false in (pairs_first _ _ _ _ _ _ _ _ _ _ _ _ _ _ _ _ g h l, pairs_second _ _ _ _ _ _ _ _ _ _ _ _ _ _ _ _ g h l, pairs_wide _ _ _ _ _ _ _ _ _ _ _ _ _ _ _ _ g h l, pairs_fit _ _ _ _ _ _ _ _ _ _ _ _ _ _ _ _ g h l)

pub overflow_add-p : goal.overflow_add-p
overflow_add-p c = let h = pairs_first _ _ _ _ _ _ _ _ _ _ _ _ _ _ _ _ c.loop-p.invariant c.loop-p-test.true c.if-j-q.false in search rules

pub overflow_add-q : goal.overflow_add-q
overflow_add-q c = let h = pairs_second _ _ _ _ _ _ _ _ _ _ _ _ _ _ _ _ c.loop-p.invariant c.loop-p-test.true c.if-j-q.false in search rules

pub overflow_add-row : goal.overflow_add-row
overflow_add-row c = let h = pairs_most _ _ _ _ _ _ _ _ _ _ _ _ _ _ _ _ c.loop-p.invariant c.loop-p-test.true c.if-j-q.false in search rules

pub loop-p-smaller : goal.loop-p-smaller
loop-p-smaller c = pairs_less _ _ _ _ _ _ _ _ _ _ _ _ _ _ _ _ c.loop-p.invariant c.loop-p-test.true c.if-j-q.false

pub loop-p-preserved : goal.loop-p-preserved
loop-p-preserved c = pairs_next _ _ _ _ _ _ _ _ _ _ _ _ _ _ _ _ c.loop-p.invariant c.loop-p-test.true c.if-j-q.false _ _ c.put_item_words-next.ensures

pub overflow_sub-result-2 : goal.overflow_sub-result-2
overflow_sub-result-2 c = c.loop-p.invariant.row_low

pub overflow_sub-result-3 : goal.overflow_sub-result-3
overflow_sub-result-3 c = c.loop-p.invariant.first_low

pub shape_of-out : goal.shape_of-out
shape_of-out c = c.loop-p.invariant.put.long

pub returns : goal.returns
returns c = pairs_done _ _ _ _ _ _ _ _ _ _ _ _ _ _ _ _ c.loop-p.invariant c.loop-p-test.false
