-- `numbers` takes one number after the other.
use Prim.Native.Nat.{◌-◌}
use Rattle.b3d_pieces_skip_numbers.proofs.NumberLaws.{Numbering}
use Rattle.b3d_pieces_skip_numbers.proofs.numbers.numbers.Given as goal

abbrev pub invariant-loop-y : goal.invariant-loop-y
invariant-loop-y l = Numbering l.piece l.last l.q l.initial.y l.y

abbrev pub decreases-loop-y : goal.decreases-loop-y
decreases-loop-y l = l.last - l.y.from
