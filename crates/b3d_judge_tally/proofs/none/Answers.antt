-- `none` answers `no_tally`.
use mathlib.Core.Path.{refl}
use Rattle.b3d_judge_tally.specs.Tally.{no_tally}
use Rattle.b3d_judge_tally.proofs.none.Goals as goal

pub returns : goal.returns
unfolding no_tally
returns c = refl
