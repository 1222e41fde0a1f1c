-- A loop over single words that stops at the first that a test refuses: rows of one word.
use mathlib.Core.Path.{◌≡◌, ap, ap₂, sym, ◌∙◌}
use Prim.Native.Nat.{ℕ, zero, suc, ◌+◌, ◌*◌, ◌≤◌, ◌<◌}
use native.Mathlib.Omega.{arith}
use mathlib.Core.Bool.{Bool, true, false, not, ◌&&◌}
use mathlib.Core.List.{List}
use lib.ListN.{length, take, drop, get_or}
use lib.Seq.{drop-cons}
use Rattle.layout.specs.WellFormed.{all}
use Rattle.b3d_check_rows.specs.Cells.{of_cell}
use Rattle.b3d_check_rows.specs.Rows.{row_at, rows_at}
use Rattle.b3d_check_rows.proofs.LoopLaws.{AllFrom, all_none, all_done, all_stop, all_next}
use Rattle.b3d_check_rows.proofs.RowCellLaws.{row_first, rows_none, rows_next}

module _ (g : ℕ → Bool) where
  cell_is : (i : ℕ) (ws : List ℕ) → g (get_or ws i 0) ≡ of_cell g (row_at 1 i ws)
  unfolding of_cell
  cell_is i ws = let e : 1 * i ≡ i = omega arith in ap g (ap (λ (k : ℕ). get_or ws k 0) (sym e) ∙ sym (row_first 1 i ws (omega arith)))

  pub cells-rows : (p n : ℕ) (ws : List ℕ) → p + n ≤ length ws → all (of_cell g) (rows_at 1 p n ws) ≡ all g (take n (drop p ws))
  cells-rows p zero ws h = ap (all (of_cell g)) (rows_none 1 p ws)
  cells-rows p (suc n) ws h =
      let e : p + 1 ≡ suc p = omega arith in
      rw (rows_next 1 p n ws, drop-cons ws p 0 (omega arith))
      (ap₂ ◌&&◌ (sym (cell_is p ws)) (rw e (cells-rows (suc p) n ws (omega arith))))

  module _ (first count : ℕ) (ws : List ℕ) (room : first + count ≤ length ws) (end i : ℕ) (a : AllFrom (of_cell g) 1 first count ws end i) where
    pub cell_done : end ≤ i → true ≡ all g (take count (drop first ws))
    cell_done h = all_done (of_cell g) 1 first count ws end i a h ∙ cells-rows first count ws room

    module _ (h : i < end) where
      pub cell_stop : not (g (get_or ws i 0)) ≡ true → false ≡ all g (take count (drop first ws))
      cell_stop n = all_stop (of_cell g) 1 first count ws end i a h (g (get_or ws i 0)) (cell_is i ws) n ∙ cells-rows first count ws room

      pub cell_next : not (g (get_or ws i 0)) ≡ false → AllFrom (of_cell g) 1 first count ws end (i + 1)
      cell_next n = all_next (of_cell g) 1 first count ws end i a h (g (get_or ws i 0)) (cell_is i ws) n

pub ruleset cell_laws = (all_none, cell_done, cell_stop, cell_next)
