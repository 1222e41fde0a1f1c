-- `pass_counts` answers a submesh's numbers.
use borrow.Author.Rules.{rules}
use Rattle.cal3d_mesh_submeshes.proofs.CountsLaws.{counts}
use Rattle.cal3d_mesh_submeshes.proofs.pass_counts.Goals as goal

pub returns-then-end-at-lt24 : goal.returns-then-end-at-lt24
returns-then-end-at-lt24 c = search (counts, rules)

pub returns-then-good-lt5 : goal.returns-then-good-lt5
returns-then-good-lt5 c = search (counts, rules)

pub returns : goal.returns
returns c = search (counts, rules)
