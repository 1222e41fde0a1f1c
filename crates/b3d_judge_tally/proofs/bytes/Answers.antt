-- `bytes` answers `bytes_tally`.
use borrow.Author.Rules.{rules}
use Rattle.b3d_judge_tally.specs.Tally.{no_tally, bytes_tally}
use Rattle.b3d_judge_tally.proofs.bytes.Goals as goal

pub none-t-requires : goal.none-t-requires
unfolding no_tally bytes_tally
none-t-requires c = search rules

pub returns : goal.returns
unfolding no_tally bytes_tally
returns c = rw c.none-t.ensures
