-- `judge` answers what the definition says of a file.
use Rattle.std.proofs.lemmas.Result.{err_from_is_err_and}
use Rattle.b3d_judge.proofs.JudgeLaws.{judge_laws}
use borrow.Author.Rules.{rules}
use Rattle.b3d_judge.proofs.judge.Goals as goal

pub returns-then-n-lt-FEWEST_BYTES : goal.returns-then-n-lt-FEWEST_BYTES
returns-then-n-lt-FEWEST_BYTES c = search (judge_laws, rules)

pub returns-then-n-gt-MOST_BYTES : goal.returns-then-n-gt-MOST_BYTES
returns-then-n-gt-MOST_BYTES c = search (judge_laws, rules)

pub number_at-requires : goal.number_at-requires
number_at-requires c = search (judge_laws, rules)

pub returns-then-number_at-ne-BB3D : goal.returns-then-number_at-ne-BB3D
returns-then-number_at-ne-BB3D c = search (judge_laws, rules)

pub number_at-requires-2 : goal.number_at-requires-2
number_at-requires-2 c = search (judge_laws, rules)

pub size-requires : goal.size-requires
size-requires c = search (judge_laws, rules)

pub overflow_sub-n : goal.overflow_sub-n
overflow_sub-n c = search (judge_laws, rules)

pub returns-then-size-n : goal.returns-then-size-n
returns-then-size-n c = search (judge_laws, rules)

pub judge_body-requires : goal.judge_body-requires
judge_body-requires c = search (judge_laws, rules)

pub enum_known-x : goal.enum_known-x
enum_known-x c = search (judge_laws, rules)

pub are_bytes-requires : goal.are_bytes-requires
are_bytes-requires c = search (judge_laws, rules)

pub over_limit-over-requires : goal.over_limit-over-requires
over_limit-over-requires c = search (judge_laws, rules)

pub returns-then-over-ne0 : goal.returns-then-over-ne0
returns-then-over-ne0 c = search (judge_laws, rules)

pub returns-in_err-x : goal.returns-in_err-x
returns-in_err-x c = let h = c.in_err-x.was in let p = err_from_is_err_and c.from_residual.result c.from_residual.ensures.1 in rw (p.1, p.2) (search (judge_laws, rules))

pub returns : goal.returns
returns c = let h = c.in_ok-x.was in search (judge_laws, rules)
