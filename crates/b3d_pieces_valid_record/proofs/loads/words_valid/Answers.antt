-- `words_valid` holds just where the statement does.
use Rattle.b3d_pieces_valid_record.proofs.OpenChunkTestLaws.{small_laws}
use borrow.Author.Rules.{rules}
use Rattle.b3d_pieces_valid_record.proofs.loads.words_valid.Goals as goal

pub returns-then-k-gt4294967295 : goal.returns-then-k-gt4294967295
returns-then-k-gt4294967295 c = search (small_laws, rules)

pub returns-then-k-gt4294967295-2 : goal.returns-then-k-gt4294967295-2
returns-then-k-gt4294967295-2 c = search (small_laws, rules)

pub returns : goal.returns
returns c = search (small_laws, rules)
