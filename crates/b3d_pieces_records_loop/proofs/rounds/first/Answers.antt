-- `first` does what its promise says.
use mathlib.Core.Path.{refl}
use Rattle.b3d_pieces_records_loop.proofs.RoundLaws.{first_is}
use Rattle.b3d_pieces_records_loop.proofs.rounds.first.Goals as goal

pub returns : goal.returns
returns c = first_is _ _ _ c.judge_of-j.ensures _ c.slot-get.ensures _ c.fresh-blank.ensures _ _ refl
