-- `head` answers `head_tally`.
use borrow.Author.Rules.{rules}
use Rattle.b3d_judge_tally.specs.Tally.{bytes_tally, head_tally}
use Rattle.b3d_judge_tally.proofs.head.Goals as goal

pub bytes-t-requires : goal.bytes-t-requires
unfolding bytes_tally head_tally
bytes-t-requires c = search rules

pub returns : goal.returns
unfolding bytes_tally head_tally
returns c = rw c.bytes-t.ensures
