-- Rows by the words that they stand in.
use mathlib.Core.Path.{◌≡◌}
use Prim.Native.Nat.{ℕ, suc, ◌+◌, ◌*◌, ◌/◌, ◌<◌, ◌≤◌}
use native.Mathlib.Omega.{arith}
use mathlib.Core.List.{List, [], ◌∷◌}
use lib.ListN.{length, take, drop, get_or}
use lib.Seq.{drop-cons}
use Rattle.layout.proofs.AllLaws.{cons_head}
use Rattle.layout.proofs.ListLaws.{cell_take}
use Rattle.b3d_spec.specs.Rebuild.{cut}
use Rattle.b3d_write_row_runs.specs.Lent.{rows_in}
use Rattle.b3d_write_row_runs.proofs.CutRowLaws.{rows-from, rows-length}

-- row i
pub rows_row : (w : ℕ) (ws : List ℕ) (i : ℕ) → i < length ws / w → get_or (rows_in w ws) i [] ≡ take w (drop (w * i) ws)
unfolding cut
rows_row w ws i h =
    let le : i + 1 ≤ length ws / w = omega arith in
    let l : i < length (rows_in w ws) = rw (rows-length w ws) h in
    cons_head (rw (drop-cons (rows_in w ws) i [] l) at (rows-from w ws i 1 le))

pub rows_cell : (w : ℕ) (ws : List ℕ) (i j : ℕ) → i < length ws / w → j < w → get_or (get_or (rows_in w ws) i []) j 0 ≡ get_or ws (w * i + j) 0
rows_cell w ws i j h k = rw (rows_row w ws i h) (cell_take w (w * i) j ws k)

pub three-words : (l : List ℕ) (i : ℕ) → i + 3 ≤ length l → take 3 (drop i l) ≡ get_or l i 0 ∷ get_or l (i + 1) 0 ∷ get_or l (i + 2) 0 ∷ []
three-words l i h =
    let a : i + 1 ≡ suc i = omega arith in
    let b : i + 2 ≡ suc (suc i) = omega arith in
    rw (a, b, drop-cons l i 0 (omega arith), drop-cons l (suc i) 0 (omega arith), drop-cons l (suc (suc i)) 0 (omega arith))
