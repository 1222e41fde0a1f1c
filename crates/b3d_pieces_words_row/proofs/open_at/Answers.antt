-- `open_at` is the record's words, and nothing else of the row.
use Rattle.b3d_pieces_words_row.proofs.RecordLaws.{open_is}
use borrow.Author.Rules.{rules}
use Rattle.b3d_pieces_words_row.proofs.open_at.Goals as goal

pub returns : goal.returns
returns c = search (open_is, rules)
