-- `whole_items` answers what `divided_at` finds.
use native.Mathlib.Omega.{arith}
use borrow.Author.Rules.{rules}
use Rattle.b3d_judge_items.proofs.DividedLaws.{divided_room, dividing}
use Rattle.b3d_judge_items.proofs.whole_items.Goals as goal

pub returns-then-end-at-eq0 : goal.returns-then-end-at-eq0
returns-then-end-at-eq0 c = search (dividing, rules)

pub overflow_mul-result : goal.overflow_mul-result
overflow_mul-result c = omega (arith, divided_room c.args.c c.args.words)

pub overflow_add-result : goal.overflow_add-result
overflow_add-result c = omega (arith, divided_room c.args.c c.args.words)

pub returns : goal.returns
returns c = search (dividing, rules)
