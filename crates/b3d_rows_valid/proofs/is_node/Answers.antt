-- `is_node` tests number by number.
use Rattle.b3d_rows_valid.proofs.TestLaws.{node-yes}
use borrow.Author.Rules.{rules}
use Rattle.b3d_rows_valid.proofs.is_node.Goals as goal

pub returns : goal.returns
returns c = let p = c.requires in search (node-yes, rules)
