-- `rows_to_add` holds just where the statement does.
use Rattle.b3d_pieces_valid_record.proofs.OpenChunkTestLaws.{load_laws}
use borrow.Author.Rules.{rules}
use Rattle.b3d_pieces_valid_record.proofs.loads.rows_to_add.Goals as goal

pub returns-then-count-gt-MOST_COUNTED : goal.returns-then-count-gt-MOST_COUNTED
returns-then-count-gt-MOST_COUNTED c = search (load_laws, rules)

pub returns-then-words_valid : goal.returns-then-words_valid
returns-then-words_valid c = search (load_laws, rules)

pub returns-then-bound_valid : goal.returns-then-bound_valid
returns-then-bound_valid c = search (load_laws, rules)

pub returns : goal.returns
returns c = search (load_laws, rules)
