-- The answer on the items of a BRUS as a value of the definition: how many.
use Rattle.layout.specs.Refused.{refusal_at}
use Rattle.std.specs.Prelude as std
use Rattle.layout.specs.declared.Refusal.{Refusal}
use Rattle.std.specs.Prelude.{ℕ, ◌≤◌, ◌+◌, ◌-◌, ◌*◌, List, length, Ok, Err}
use Rattle.wire.specs.declared.Cursor.{Cursor}
use Rattle.layout.specs.Result.{Result, accept, reject}
use Rattle.b3d_spec.specs.Scene.{Brush}
use Rattle.b3d_spec.specs.declared.Mode.{Mode}
use Rattle.b3d_spec.specs.declared.Mode.TheVariants.{Strict, Lenient}

-- how many of the first words of a brush are colours that a mode looks at
abbrev pub brush_colours : Mode → ℕ
brush_colours Strict = 4
brush_colours Lenient = 0

-- how many brushes were read, or the refusal
abbrev pub counted_brushes : Result (List Brush) → std.Result ℕ Refusal
counted_brushes (accept l) = Ok (length l)
counted_brushes (reject n p) = Err (refusal_at n p)

-- k brushes have room in what c has left, each the zero of a text, seven words and `slots` ids at least; a refusal's place is not past its end
abbrev pub BrushesIn : Cursor → ℕ → std.Result ℕ Refusal → Type 0
BrushesIn c slots (Ok k) = k * (29 + 4 * slots) ≤ c.end - c.at
BrushesIn c slots (Err e) = e.place ≤ c.end
