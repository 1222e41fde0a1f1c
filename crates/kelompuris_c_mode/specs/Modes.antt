-- A mode that is given by a number.
use Rattle.std.specs.Prelude.{ℕ, eqb}
use Rattle.wire.specs.Test.{if}
use Rattle.b3d_spec.specs.declared.Mode.{Mode}
use Rattle.b3d_spec.specs.declared.Mode.TheVariants.{Strict, Lenient}

-- the mode with the number n: KELOMPURIS_LENIENT is 1; any other number means strict
unfoldable pub mode_of : ℕ → Mode
mode_of n = if (eqb n 1) Lenient Strict
