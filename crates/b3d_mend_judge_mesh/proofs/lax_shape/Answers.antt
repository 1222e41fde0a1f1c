-- `lax_shape` judges a VRTS and the TRIS after it.
use Rattle.std.proofs.lemmas.Result.{err_from_is_err_and}
use Rattle.b3d_mend_judge_mesh.proofs.SetLaws.{shape_laws}
use borrow.Author.Rules.{rules}
use Rattle.b3d_mend_judge_mesh.proofs.lax_shape.Goals as goal

pub judge_vertices-requires : goal.judge_vertices-requires
judge_vertices-requires c = search (shape_laws, rules)

pub enum_known-n : goal.enum_known-n
enum_known-n c = search (shape_laws, rules)

pub lax_sets-requires : goal.lax_sets-requires
lax_sets-requires c = search (shape_laws, rules)

pub enum_known-t : goal.enum_known-t
enum_known-t c = search (shape_laws, rules)

pub mesh_rows-requires : goal.mesh_rows-requires
mesh_rows-requires c = let h₁ = c.in_ok-n.was in let h₂ = c.in_ok-t.was in search (shape_laws, rules)

pub returns-in_err-n : goal.returns-in_err-n
returns-in_err-n c = let h = c.in_err-n.was in let p = err_from_is_err_and c.from_residual.result c.from_residual.ensures.1 in rw (p.1, p.2) (search (shape_laws, rules))

pub returns-in_err-t : goal.returns-in_err-t
returns-in_err-t c = let h₁ = c.in_ok-n.was in let h₂ = c.in_err-t.was in let p = err_from_is_err_and c.from_residual-in_err-t.result c.from_residual-in_err-t.ensures.1 in rw (p.1, p.2) (search (shape_laws, rules))

pub returns : goal.returns
returns c = let h₁ = c.in_ok-n.was in let h₂ = c.in_ok-t.was in search (shape_laws, rules)
