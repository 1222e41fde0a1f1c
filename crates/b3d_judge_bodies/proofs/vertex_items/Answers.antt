-- `vertex_items` answers the vertices with the colours that the mode looks at, counted.
use borrow.Author.Rules.{rules}
use Rattle.b3d_judge_bodies.proofs.VertexLaws.{colour_laws}
use Rattle.b3d_judge_bodies.proofs.vertex_items.Goals as goal

pub returns-then-n-eq0 : goal.returns-then-n-eq0
returns-then-n-eq0 c = search (colour_laws, rules)

pub returns : goal.returns
returns c = search (colour_laws, rules)
