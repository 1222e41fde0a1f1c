-- `root_vertices` looks at the first known chunk of a root.
use Rattle.b3d_label.proofs.VertexLaws.{root_laws}
use borrow.Author.Rules.{rules}
use Rattle.b3d_label.proofs.root_vertices.Goals as goal

pub mesh_vertices-requires : goal.mesh_vertices-requires
mesh_vertices-requires c = search (root_laws, rules)

pub returns-then-letters-eq-MESH : goal.returns-then-letters-eq-MESH
returns-then-letters-eq-MESH c = search (root_laws, rules)

pub returns-in-Done : goal.returns-in-Done
returns-in-Done c = search (root_laws, rules)

pub returns-in-Cut : goal.returns-in-Cut
returns-in-Cut c = search (root_laws, rules)

pub returns-else-letters-eq-MESH : goal.returns-else-letters-eq-MESH
returns-else-letters-eq-MESH c = search (root_laws, rules)
