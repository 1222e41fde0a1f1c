-- `number_at` gives the number that four bytes make, the lowest first.
use borrow.Author.Rules.{rules}
use Rattle.wire.specs.Bytes.{word, word_at}
use Rattle.wire.proofs.number_at.Goals as goal

pub returns : goal.returns
unfolding word_at word
returns c = search rules
