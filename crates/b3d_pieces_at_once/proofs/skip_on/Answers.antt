-- `skip_on` takes bytes of a chunk that is passed over.
use borrow.Author.Rules.{rules}
use Rattle.b3d_pieces_at_once.proofs.OnceLaws.{skip_laws}
use Rattle.b3d_pieces_at_once.proofs.skip_on.Goals as goal

pub advanced-requires : goal.advanced-requires
advanced-requires c = search (skip_laws, rules)

pub returns : goal.returns
returns c = search (skip_laws, rules)
