-- `node_bound` holds just where the statement does.
use Rattle.b3d_pieces_valid_record.proofs.OpenChunkTestLaws.{small_laws}
use borrow.Author.Rules.{rules}
use Rattle.b3d_pieces_valid_record.proofs.loads.node_bound.Goals as goal

pub returns-then-n-gt-LEVELS : goal.returns-then-n-gt-LEVELS
returns-then-n-gt-LEVELS c = search (small_laws, rules)

pub returns : goal.returns
returns c = search (small_laws, rules)
