-- `limited` answers what the definition says of a skeleton file, up to 10.
use Rattle.std.proofs.lemmas.Result.{err_from_is_err_and}
use borrow.Author.Rules.{rules}
use Rattle.cal3d_skeleton_limits.proofs.FileLaws.{file}
use Rattle.cal3d_skeleton_limits.proofs.limited.Goals as goal

pub judge_bones-requires : goal.judge_bones-requires
judge_bones-requires c = search (file, rules)

pub returns-then-c-n : goal.returns-then-c-n
returns-then-c-n c = search (file, rules)

pub returns-then-bones-gt16383 : goal.returns-then-bones-gt16383
returns-then-bones-gt16383 c = let h₁ = c.in_ok-bones.was in let h₂ = c.in_ok-children.was in search (file, rules)

pub returns-then-children-gt16383 : goal.returns-then-children-gt16383
returns-then-children-gt16383 c = let h₁ = c.in_ok-bones.was in let h₂ = c.in_ok-children.was in search (file, rules)

pub number_at-requires : goal.number_at-requires
number_at-requires c = search (file, rules)

pub returns-in_err-bones-clause-value : goal.returns-in_err-bones-clause-value
returns-in_err-bones-clause-value c = let h = c.in_err-bones.was in let p = err_from_is_err_and c.from_residual.result c.from_residual.ensures.1 in rw (p.1, p.2) (search (file, rules))

pub returns-in_err-children-clause-value : goal.returns-in_err-children-clause-value
returns-in_err-children-clause-value c = let h = c.in_err-children.was in let p = err_from_is_err_and c.from_residual-in_err-children.result c.from_residual-in_err-children.ensures.1 in rw (p.1, p.2) (search (file, rules))

pub returns-in_err-children-clause-place_fits : goal.returns-in_err-children-clause-place_fits
returns-in_err-children-clause-place_fits c = search (file, rules)

pub returns-clause-value : goal.returns-clause-value
returns-clause-value c = let h₁ = c.in_ok-bones.was in let h₂ = c.in_ok-children.was in search (file, rules)
