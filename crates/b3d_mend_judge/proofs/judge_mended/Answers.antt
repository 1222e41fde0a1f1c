-- `judge_mended` answers what the mending read says of a file.
use Rattle.std.proofs.lemmas.Result.{err_from_is_err_and}
use Rattle.b3d_mend_judge.proofs.JudgeLaws.{mended_laws}
use borrow.Author.Rules.{rules}
use Rattle.b3d_mend_judge.proofs.judge_mended.Goals as goal

pub returns-then-n-lt-FEWEST_BYTES : goal.returns-then-n-lt-FEWEST_BYTES
returns-then-n-lt-FEWEST_BYTES c = search (mended_laws, rules)

pub returns-then-n-gt-MOST_BYTES : goal.returns-then-n-gt-MOST_BYTES
returns-then-n-gt-MOST_BYTES c = search (mended_laws, rules)

pub number_at-requires : goal.number_at-requires
number_at-requires c = search (mended_laws, rules)

pub returns-then-number_at-ne-BB3D : goal.returns-then-number_at-ne-BB3D
returns-then-number_at-ne-BB3D c = search (mended_laws, rules)

pub are_bytes-requires : goal.are_bytes-requires
are_bytes-requires c = search (mended_laws, rules)

pub lax_body-requires : goal.lax_body-requires
lax_body-requires c = search (mended_laws, rules)

pub enum_known-x : goal.enum_known-x
enum_known-x c = search (mended_laws, rules)

pub over_limit-over-requires : goal.over_limit-over-requires
over_limit-over-requires c = search (mended_laws, rules)

pub returns-then-over-ne0 : goal.returns-then-over-ne0
returns-then-over-ne0 c = search (mended_laws, rules)

pub returns-in_err-x-clause-value : goal.returns-in_err-x-clause-value
returns-in_err-x-clause-value c = let h = c.in_err-x.was in let p = err_from_is_err_and c.from_residual.result c.from_residual.ensures.1 in rw (p.1, p.2) (search (mended_laws, rules))

pub returns-clause-value : goal.returns-clause-value
returns-clause-value c = let h = c.in_ok-x.was in search (mended_laws, rules)
