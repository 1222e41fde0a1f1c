-- Colours in tables: words 2 to 5 of a brush, 6 to 9 of a vertex, 0 where the vertex has none.
use Rattle.std.specs.Prelude.{ℕ, Bool, true, ◌&&◌, List, take, drop}
use Rattle.layout.specs.WellFormed.{all}
use Rattle.layout.specs.Rules.{unit, holds}
use Rattle.b3d_spec.specs.declared.Mode.{Mode}
use Rattle.b3d_spec.specs.declared.Mode.TheVariants.{Strict, Lenient}
use Rattle.b3d_spec.specs.Columns as columns

-- the four words of row r from word w on are colours from 0 to 1
unfoldable pub coloured : ℕ → List ℕ → Bool
coloured w r = all (holds unit) (take 4 (drop w r))

-- what a mode asks of the colours in the rows R k of each table k (E8): Strict that each is from 0 to 1, Lenient nothing
unfoldable pub passes : Mode → (ℕ → List (List ℕ)) → Bool
passes Strict R = all (coloured columns.brush_colour) (R 2) && all (coloured columns.vertex_colour) (R 5)
passes Lenient R = true
