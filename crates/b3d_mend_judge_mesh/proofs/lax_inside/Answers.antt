-- `lax_inside` judges the chunks inside a mesh.
use Rattle.std.proofs.lemmas.Result.{err_from_is_err_and}
use Rattle.b3d_mend_judge_mesh.proofs.SetLaws.{inside_laws}
use borrow.Author.Rules.{rules}
use Rattle.b3d_mend_judge_mesh.proofs.lax_inside.Goals as goal

pub next_chunk-found-requires : goal.next_chunk-found-requires
next_chunk-found-requires c = search (inside_laws, rules)

pub first_inside-requires : goal.first_inside-requires
first_inside-requires c = search (inside_laws, rules)

pub none-requires : goal.none-requires
none-requires c = search (inside_laws, rules)

pub lax_shape-requires : goal.lax_shape-requires
lax_shape-requires c = search (inside_laws, rules)

pub returns-in_err-p : goal.returns-in_err-p
returns-in_err-p c = let h = c.in_err-p.was in let p = err_from_is_err_and c.from_residual.result c.from_residual.ensures.1 in rw (p.1, p.2) (search (inside_laws, rules))

pub returns-in_default : goal.returns-in_default
returns-in_default c = let h = c.in_ok-p.was in let w = rw c.in_default.is at h in search (inside_laws, rules)

pub returns : goal.returns
returns c = let h = c.in_ok-p.was in search (inside_laws, rules)
