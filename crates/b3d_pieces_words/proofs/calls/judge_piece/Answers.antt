-- `judge_piece` answers and leaves what its promise says, on every input.
use Rattle.b3d_pieces_words.proofs.CallLaws.{piece_laws}
use borrow.Author.Rules.{rules}
use Rattle.b3d_pieces_words.proofs.calls.judge_piece.Goals as goal

pub returns-then-row-lt-LENT_WORDS : goal.returns-then-row-lt-LENT_WORDS
returns-then-row-lt-LENT_WORDS c = search (piece_laws, rules)

pub returns-then-state : goal.returns-then-state
returns-then-state c = search (piece_laws, rules)

pub run-x-requires : goal.run-x-requires
run-x-requires c = search (piece_laws, rules)

pub returns-then-judge_valid : goal.returns-then-judge_valid
returns-then-judge_valid c = search (piece_laws, rules)

pub returns : goal.returns
returns c = search (piece_laws, rules)
