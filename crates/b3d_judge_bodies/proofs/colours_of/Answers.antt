-- `colours_of` answers the colours that the mode looks at.
use borrow.Author.Rules.{rules}
use Rattle.b3d_judge_bodies.proofs.VertexLaws.{colour_laws}
use Rattle.b3d_judge_bodies.proofs.colours_of.Goals as goal

pub returns-in-Strict : goal.returns-in-Strict
returns-in-Strict c = search (colour_laws, rules)

pub returns-in-Lenient : goal.returns-in-Lenient
returns-in-Lenient c = search (colour_laws, rules)
