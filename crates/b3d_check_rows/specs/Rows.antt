-- Rows of a table by their number, each of w words.
use Rattle.std.specs.Prelude.{ℕ, ◌*◌, List, take, drop}
use Rattle.b3d_spec.specs.Rebuild.{cut}

-- row i of the table ws, whose rows have w words
unfoldable pub row_at : ℕ → ℕ → List ℕ → List ℕ
row_at w i ws = take w (drop (w * i) ws)

-- the c rows of the table ws from row i on, of w words each
unfoldable pub rows_at : ℕ → ℕ → ℕ → List ℕ → List (List ℕ)
rows_at w i c ws = cut w c (drop (w * i) ws)
