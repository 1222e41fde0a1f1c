-- `weights` answers `weights_tally`.
use borrow.Author.Rules.{rules}
use Rattle.b3d_judge_tally.specs.Tally.{bytes_tally, weights_tally}
use Rattle.b3d_judge_tally.proofs.weights.Goals as goal

pub overflow_mul-n : goal.overflow_mul-n
unfolding bytes_tally weights_tally
overflow_mul-n c = search rules

pub overflow_add-n : goal.overflow_add-n
unfolding bytes_tally weights_tally
overflow_add-n c = search rules

pub bytes-t-requires : goal.bytes-t-requires
unfolding bytes_tally weights_tally
bytes-t-requires c = search rules

pub returns : goal.returns
unfolding bytes_tally weights_tally
returns c = rw c.bytes-t.ensures
