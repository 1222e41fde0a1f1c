-- `limited` answers a file by its row counts.
use borrow.Author.Rules.{rules}
use Rattle.cal3d_mesh_judge.proofs.LimitLaws.{limited}
use Rattle.cal3d_mesh_judge.proofs.limited.Goals as goal

pub returns-then-over-ne0 : goal.returns-then-over-ne0
returns-then-over-ne0 c = search (limited, rules)

pub accepted-requires : goal.accepted-requires
accepted-requires c = search (limited, rules)

pub returns : goal.returns
returns c = search (limited, rules)
