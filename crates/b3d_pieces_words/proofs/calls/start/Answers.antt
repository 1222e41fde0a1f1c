-- `start` answers and leaves what its promise says, on every input.
use Rattle.b3d_pieces_words.proofs.CallLaws.{fresh-is}
use borrow.Author.Rules.{rules}
use Rattle.b3d_pieces_words.proofs.calls.start.Goals as goal

pub returns : goal.returns
returns c = search (fresh-is, rules)
