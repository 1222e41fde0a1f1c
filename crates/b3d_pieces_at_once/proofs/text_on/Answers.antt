-- `text_on` takes bytes of a text.
use borrow.Author.Rules.{rules}
use Rattle.b3d_pieces_at_once.proofs.OnceLaws.{text_laws}
use Rattle.b3d_pieces_at_once.proofs.text_on.Goals as goal

pub until_zero-k-requires : goal.until_zero-k-requires
until_zero-k-requires c = search (text_laws, rules)

pub advanced-requires : goal.advanced-requires
advanced-requires c = search (text_laws, rules)

pub returns : goal.returns
returns c = search (text_laws, rules)
