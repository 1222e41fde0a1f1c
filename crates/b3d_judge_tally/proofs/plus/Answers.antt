-- `plus` answers the sum: no part of it passes twice the bytes of a file.
use native.Mathlib.Omega.{arith}
use mathlib.Core.Path.{refl}
use borrow.Author.Rules.{rules}
use Rattle.b3d_judge_tally.specs.Tally.{plus}
use Rattle.b3d_judge_tally.proofs.plus.Goals as goal

pub overflow_add-result : goal.overflow_add-result
unfolding plus
overflow_add-result c = search rules

pub overflow_add-result-2 : goal.overflow_add-result-2
unfolding plus
overflow_add-result-2 c = search rules

pub overflow_add-result-3 : goal.overflow_add-result-3
unfolding plus
overflow_add-result-3 c = search rules

pub overflow_add-result-4 : goal.overflow_add-result-4
unfolding plus
overflow_add-result-4 c = search rules

pub overflow_add-result-5 : goal.overflow_add-result-5
unfolding plus
overflow_add-result-5 c = let h = c.requires in omega arith

pub overflow_add-result-6 : goal.overflow_add-result-6
unfolding plus
overflow_add-result-6 c = let h = c.requires in omega arith

pub overflow_add-result-7 : goal.overflow_add-result-7
unfolding plus
overflow_add-result-7 c = let h = c.requires in omega arith

pub overflow_add-result-8 : goal.overflow_add-result-8
unfolding plus
overflow_add-result-8 c = let h = c.requires in omega arith

pub overflow_add-result-9 : goal.overflow_add-result-9
unfolding plus
overflow_add-result-9 c = let h = c.requires in omega arith

pub overflow_add-result-10 : goal.overflow_add-result-10
unfolding plus
overflow_add-result-10 c = let h = c.requires in omega arith

pub overflow_add-result-11 : goal.overflow_add-result-11
unfolding plus
overflow_add-result-11 c = let h = c.requires in omega arith

pub returns : goal.returns
unfolding plus
returns c = refl
