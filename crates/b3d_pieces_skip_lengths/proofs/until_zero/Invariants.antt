-- `until_zero` goes to the first zero.
use Rattle.b3d_pieces_skip_lengths.specs.Ahead.{UntilZero}
use Rattle.b3d_pieces_skip_lengths.proofs.until_zero.Given as goal

abbrev pub invariant-loop-at : goal.invariant-loop-at
invariant-loop-at l = UntilZero l.piece l.from l.last l.at
