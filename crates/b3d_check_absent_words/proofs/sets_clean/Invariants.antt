-- `sets_clean` looks at every set. The loop has looked at the first i.
use Prim.Native.Nat.{◌+◌, ◌-◌}
use Rattle.b3d_check_absent_words.specs.Zeros.{zeros_at}
use Rattle.b3d_check_absent_words.proofs.CleanRowLaws.{EveryFrom}
use Rattle.b3d_check_absent_words.proofs.sets_clean.Given as goal

abbrev pub invariant-loop-i : goal.invariant-loop-i
invariant-loop-i l = EveryFrom (λ j. zeros_at (4 - l.size) l.t (j + l.size)) 4 l.sets l.at l.ok l.i
