-- `pass_cloth` answers `read_cloth`.
use borrow.Author.Rules.{rules}
use Rattle.cal3d_mesh_vertices.proofs.PartLaws.{parts}
use Rattle.cal3d_mesh_vertices.proofs.pass_cloth.Goals as goal

pub returns : goal.returns
returns c = search (parts, rules)

pub returns-in_default : goal.returns-in_default
returns-in_default c = search (parts, rules)

pub returns-then-springs-gt0 : goal.returns-then-springs-gt0
returns-then-springs-gt0 c = search (parts, rules)
