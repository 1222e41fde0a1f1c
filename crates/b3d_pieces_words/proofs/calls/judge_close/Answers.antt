-- `judge_close` answers and leaves what its promise says, on every input.
use Rattle.b3d_pieces_words.proofs.CallLaws.{close_laws}
use borrow.Author.Rules.{rules}
use Rattle.b3d_pieces_words.proofs.calls.judge_close.Goals as goal

pub refused-few-requires : goal.refused-few-requires
refused-few-requires c = search (close_laws, rules)

pub returns-then-row-lt-LENT_WORDS : goal.returns-then-row-lt-LENT_WORDS
returns-then-row-lt-LENT_WORDS c = search (close_laws, rules)

pub refused-late-requires : goal.refused-late-requires
refused-late-requires c = search (close_laws, rules)

pub returns-then-shut : goal.returns-then-shut
returns-then-shut c = search (close_laws, rules)

pub judge_valid-requires : goal.judge_valid-requires
judge_valid-requires c = search (close_laws, rules)

pub closing_of-verdict-requires : goal.closing_of-verdict-requires
closing_of-verdict-requires c = search (close_laws, rules)

pub closing_answer-said-requires : goal.closing_answer-said-requires
closing_answer-said-requires c = search (close_laws, rules)

pub returns-then-judge_valid : goal.returns-then-judge_valid
returns-then-judge_valid c = search (close_laws, rules)

pub returns : goal.returns
returns c = search (close_laws, rules)
