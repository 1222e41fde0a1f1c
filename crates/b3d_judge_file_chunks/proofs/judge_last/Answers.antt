-- `judge_last` judges the nodes, and that nothing known comes after them.
use Rattle.std.proofs.lemmas.Result.{err_from_is_err_and}
use Rattle.b3d_judge_file_chunks.proofs.RestLaws.{last_laws}
use borrow.Author.Rules.{rules}
use Rattle.b3d_judge_file_chunks.proofs.judge_last.Goals as goal

pub judge_root-requires : goal.judge_root-requires
judge_root-requires c = search (last_laws, rules)

pub next_chunk-found-requires : goal.next_chunk-found-requires
next_chunk-found-requires c = search (last_laws, rules)

pub next_inside-requires : goal.next_inside-requires
next_inside-requires c = search (last_laws, rules)

pub returns-in_err-t : goal.returns-in_err-t
returns-in_err-t c = let h = c.in_err-t.was in let p = err_from_is_err_and c.from_residual.result c.from_residual.ensures.1 in rw (p.1, p.2) (search (last_laws, rules))

pub returns-in_err-next_inside : goal.returns-in_err-next_inside
returns-in_err-next_inside c = let h₁ = c.in_ok-t.was in let h₂ = c.in_err-next_inside.was in let p = err_from_is_err_and c.from_residual-in_err-next_inside.result c.from_residual-in_err-next_inside.ensures.1 in rw (p.1, p.2) (search (last_laws, rules))

pub returns : goal.returns
returns c = let h₁ = c.in_ok-t.was in let h₂ = c.in_ok-next_inside.was in search (last_laws, rules)
