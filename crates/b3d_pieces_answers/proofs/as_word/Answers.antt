-- `as_word` comes to what the definition's close does.
use Rattle.b3d_pieces_answers.proofs.ClosingLaws.{word_laws}
use borrow.Author.Rules.{rules}
use Rattle.b3d_pieces_answers.proofs.as_word.Goals as goal

pub returns-then-n-le4294967295 : goal.returns-then-n-le4294967295
returns-then-n-le4294967295 c = search (word_laws, rules)

pub returns : goal.returns
returns c = search (word_laws, rules)
