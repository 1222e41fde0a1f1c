-- The colours of a row by its cells.
use mathlib.Core.Path.{◌≡◌, ap, sym, ◌∙◌}
use Prim.Native.Nat.{ℕ, suc, ◌+◌, ◌*◌, ◌≤◌, ◌<◌}
use native.Mathlib.Omega.{arith}
use mathlib.Core.Bool.{Bool, ◌&&◌}
use mathlib.Core.List.{List}
use lib.ListN.{length, take, drop, get_or}
use lib.Seq.{drop-cons}
use Rattle.layout.specs.WellFormed.{all}
use Rattle.layout.specs.Rules.{unit, holds}
use Rattle.layout.proofs.TestLaws.{and_true}
use Rattle.b3d_spec.specs.Colours.{coloured}
use Rattle.b3d_check_rows.specs.Rows.{row_at}
use Rattle.b3d_check_rows.proofs.RowCellLaws.{row_cell, row-length, row_room}

-- four words of a list
four : (P : ℕ → Bool) (k : ℕ) (l : List ℕ) → k + 4 ≤ length l
    → all P (take 4 (drop k l)) ≡ (P (get_or l k 0) && (P (get_or l (suc k) 0) && (P (get_or l (suc (suc k)) 0) && P (get_or l (suc (suc (suc k))) 0))))
four P k l h =
    rw (drop-cons l k 0 (omega arith), drop-cons l (suc k) 0 (omega arith), drop-cons l (suc (suc k)) 0 (omega arith), drop-cons l (suc (suc (suc k))) 0 (omega arith))
    (ap (λ (b : Bool). P (get_or l k 0) && (P (get_or l (suc k) 0) && (P (get_or l (suc (suc k)) 0) && b))) (and_true (P (get_or l (suc (suc (suc k))) 0))))

module _ (w k i : ℕ) (ws : List ℕ) (h : k + 4 ≤ w) (room : w * i + w ≤ length ws) where
  cell : (j n : ℕ) → j < w → n ≡ w * i + j → get_or (row_at w i ws) j 0 ≡ get_or ws n 0
  cell j n q e = row_cell w i j ws q ∙ ap (λ (m : ℕ). get_or ws m 0) (sym e)

  pub coloured-row : (a b c d : Bool) → a ≡ holds unit (get_or ws (w * i + k) 0) → b ≡ holds unit (get_or ws (w * i + k + 1) 0) → c ≡ holds unit (get_or ws (w * i + k + 2) 0)
      → d ≡ holds unit (get_or ws (w * i + k + 3) 0) → (a && (b && (c && d))) ≡ coloured k (row_at w i ws)
  unfolding coloured
  coloured-row a b c d ea eb ec ed =
      rw (
        four (holds unit) k (row_at w i ws) (omega (arith, row-length w i ws room)),
        cell k (w * i + k) (omega arith) (omega arith),
        cell (suc k) (w * i + k + 1) (omega arith) (omega arith),
        cell (suc (suc k)) (w * i + k + 2) (omega arith) (omega arith),
        cell (suc (suc (suc k))) (w * i + k + 3) (omega arith) (omega arith),
        ea,
        eb,
        ec,
        ed,
      )

-- one of the first rows
pub row-among : (w count i n : ℕ) → i < count → w * count ≤ n → w * i + w ≤ n
row-among w count i n h r = let e : 0 + count ≡ count = omega arith in row_room w 0 count count i n h (sym e) (rw e r)
