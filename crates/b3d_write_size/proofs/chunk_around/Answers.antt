-- `chunk_around` gives the bytes of a chunk where it has rows.
use Rattle.b3d_write_size.proofs.TotalLaws.{around_laws}
use borrow.Author.Rules.{rules}
use Rattle.b3d_write_size.proofs.chunk_around.Goals as goal

pub returns-then-rows-eq0 : goal.returns-then-rows-eq0
returns-then-rows-eq0 c = search (around_laws, rules)

pub returns : goal.returns
returns c = search (around_laws, rules)
