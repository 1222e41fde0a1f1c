-- Words stored from the start of a table on.
use Prim.Native.Nat.{ℕ, ◌+◌, ◌≤◌}
use native.Mathlib.Omega.{arith}
use mathlib.Core.Path.{◌≡◌, ◌∙◌}
use mathlib.Core.List.{List}
use lib.ListN.{length}
use lib.Seq.{sets, sets-eq}
use Rattle.wire.specs.Bytes.{over}

pub over-all : (out all : List ℕ) → length all ≤ length out → sets out 0 all ≡ over all out
unfolding over
over-all out all h = let z : 0 + length all ≡ length all = omega arith in sets-eq all out 0 (omega arith) ∙ rw z
