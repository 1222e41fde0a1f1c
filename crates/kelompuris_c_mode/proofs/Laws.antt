-- A mode that is given by a number.
use mathlib.Core.Path.{◌≡◌}
use Prim.Native.Nat.{ℕ}
use borrow.Author.Tests.{ne_eqb}
use Rattle.wire.specs.Test.{if}
use Rattle.b3d_spec.specs.declared.Mode.TheVariants.{Strict, Lenient}
use Rattle.kelompuris_c_mode.specs.Modes.{mode_of}

pub one_lenient : (n : ℕ) → n ≡ 1 → Lenient ≡ mode_of n
unfolding mode_of if
one_lenient n e = rw e

pub other_strict : (n : ℕ) → (n ≡ 1 → ⊥) → Strict ≡ mode_of n
unfolding mode_of if
other_strict n e = rw (ne_eqb n 1 e)

pub ruleset mode_laws = (one_lenient, other_strict)
