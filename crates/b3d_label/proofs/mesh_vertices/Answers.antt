-- `mesh_vertices` counts the vertices of a MESH.
use Rattle.b3d_label.proofs.VertexLaws.{mesh_laws}
use borrow.Author.Rules.{rules}
use Rattle.b3d_label.proofs.mesh_vertices.Goals as goal

pub seek-requires : goal.seek-requires
seek-requires c = let h = c.in_ok-inside.was in search (mesh_laws, rules)

pub vrts_vertices-requires : goal.vrts_vertices-requires
vrts_vertices-requires c = let h₁ = c.in_ok-inside.was in let h₂ = c.in_ok-chunk.was in search (mesh_laws, rules)

pub returns : goal.returns
returns c = let h₁ = c.in_ok-inside.was in let h₂ = c.in_ok-chunk.was in search (mesh_laws, rules)

pub returns-in_err-inside : goal.returns-in_err-inside
returns-in_err-inside c = let h = c.in_err-inside.was in rw c.from_residual.ensures (search (mesh_laws, rules))

pub returns-in_err-chunk : goal.returns-in_err-chunk
returns-in_err-chunk c = let h₁ = c.in_ok-inside.was in let h₂ = c.in_err-chunk.was in rw c.from_residual-in_err-chunk.ensures (search (mesh_laws, rules))
