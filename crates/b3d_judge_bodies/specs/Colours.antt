-- The colours of a vertex that a mode looks at.
use Rattle.std.specs.Prelude.{ℕ, ◌+◌, ◌*◌, ◌/◌, ◌%◌}
use Rattle.b3d_spec.specs.declared.Mode.{Mode}
use Rattle.b3d_spec.specs.declared.Mode.TheVariants.{Strict, Lenient}

-- how many words of a vertex with these flags stand before its colour
abbrev pub before_colour : ℕ → ℕ
before_colour flags = 3 + flags / 1 % 2 * 3

-- how many words of a vertex with these flags are colours that a mode looks at
unfoldable pub colours_of : Mode → ℕ → ℕ
colours_of Strict flags = flags / 2 % 2 * 4
colours_of Lenient flags = 0
