-- `judged` answers what the definition says of a skeleton file, 16 too.
use Rattle.std.proofs.lemmas.Result.{err_from_is_err_and}
use borrow.Author.Rules.{rules}
use Rattle.cal3d_skeleton.proofs.JudgeLaws.{judges}
use Rattle.cal3d_skeleton.proofs.judged.Goals as goal

pub same_trees-requires : goal.same_trees-requires
same_trees-requires c = let h = c.in_ok-x.was in search (judges, rules)

pub returns-in_err-x-clause-value : goal.returns-in_err-x-clause-value
returns-in_err-x-clause-value c = let h = c.in_err-x.was in let p = err_from_is_err_and c.from_residual.result c.from_residual.ensures.1 in rw (p.1, p.2) (search (judges, rules))

pub returns-in_err-same_trees-clause-value : goal.returns-in_err-same_trees-clause-value
returns-in_err-same_trees-clause-value c = let h₁ = c.in_ok-x.was in let h₂ = c.in_err-same_trees.was in let p = err_from_is_err_and c.from_residual-in_err-same_trees.result c.from_residual-in_err-same_trees.ensures.1 in rw (p.1, p.2) (search (judges, rules))

pub returns-clause-value : goal.returns-clause-value
returns-clause-value c = let h = c.in_ok-same_trees.was in search (judges, rules)
