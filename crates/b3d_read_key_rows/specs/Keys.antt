-- A key row as groups of cells: frame, position, scale and rotation.
use Rattle.std.specs.Prelude.{ℕ, ◌-◌, List}
use Rattle.b3d_read_row_runs.specs.Pieces.{piece_at, parts_at}

-- a key row: the frame, a words of a position, b of a scale, c of a rotation
abbrev pub key_at : ℕ → ℕ → ℕ → List ℕ → ℕ → List ℕ
key_at a b c = parts_at 1 a 3 b (piece_at c (4 - c))
