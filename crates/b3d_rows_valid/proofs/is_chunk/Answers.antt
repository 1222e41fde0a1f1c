-- `is_chunk` tests number by number.
use Rattle.b3d_rows_valid.proofs.TestLaws.{chunk-yes}
use borrow.Author.Rules.{rules}
use Rattle.b3d_rows_valid.proofs.is_chunk.Goals as goal

pub returns : goal.returns
returns c = let p = c.requires in search (chunk-yes, rules)
