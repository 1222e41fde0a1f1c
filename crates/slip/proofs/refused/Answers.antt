-- `refused` answers the place.
use borrow.Author.Rules.{rules}
use Rattle.slip.specs.Slips.{slip_of}
use Rattle.slip.proofs.refused.Goals as goal

pub returns : goal.returns
unfolding slip_of
returns c = search rules
