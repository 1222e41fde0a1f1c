-- The number after the last item of rows that say in cell 3 how many they have.
use mathlib.Core.Path.{◌≡◌, refl, sym}
use Prim.Native.Nat.{ℕ, suc, ◌+◌, ◌-◌, ◌*◌, ◌≤◌, ◌<◌}
use native.Mathlib.Omega.{arith}
use mathlib.Core.List.{List, ◌∷◌}
use lib.ListN.{get_or}
use mir.Syntax.{w64}
use mir.Val.{Fits}
use Rattle.b3d_check_spec.specs.CellCounts.{end_of}
use Rattle.b3d_check_spec.proofs.BelowLaws.{end_rises}
use Rattle.b3d_check_rows.specs.Rows.{rows_at}
use Rattle.b3d_check_rows.proofs.RowCellLaws.{row_cell, rows_none, rows_next}

end-cons : (r : ℕ) (x : List ℕ) (xs : List (List ℕ)) → end_of r (x ∷ xs) ≡ end_of (r + get_or x 3 0) xs
unfolding end_of
end-cons r x xs = refl

-- the rows before i have been counted up to r
pub record EndFrom (from first count : ℕ) (xs : List ℕ) (end r i : ℕ) : Type 0 where
  pub last : end ≡ first + count
  pub before : i ≤ end
  pub same : end_of r (rows_at 4 i (end - i) xs) ≡ end_of from (rows_at 4 first count xs)

module _ (from first count : ℕ) (xs : List ℕ) where
  pub end_none : EndFrom from first count xs (first + count) from first
  end_none = let e : first + count - first ≡ count = omega arith in record { last = refl; before = omega arith; same = rw e }

  module _ (end r i : ℕ) (a : EndFrom from first count xs end r i) where
    pub end_done : end ≤ i → r ≡ end_of from (rows_at 4 first count xs)
    unfolding end_of
    end_done h = let e : end - i ≡ 0 = omega arith in rw (← a.same, e, rows_none 4 i xs)

    module _ (h : i < end) (c : ℕ) (e : c ≡ get_or xs (4 * i + 3) 0) where
      step : end_of from (rows_at 4 first count xs) ≡ end_of (r + c) (rows_at 4 (i + 1) (end - (i + 1)) xs)
      step = let n : end - i ≡ suc (end - (i + 1)) = omega arith in rw (← a.same, n, rows_next 4 i (end - (i + 1)) xs, end-cons, row_cell 4 i 3 xs (omega arith), ← e)

      pub end_next : EndFrom from first count xs end (r + c) (i + 1)
      end_next = record { last = a.last; before = omega arith; same = sym step }

      pub end_fits : end_of from (rows_at 4 first count xs) ≤ 0xFFFFFFFF → Fits w64 (r + c)
      end_fits l = record { fits = omega (arith, step, end_rises (r + c) (rows_at 4 (i + 1) (end - (i + 1)) xs)) }

pub ruleset end_laws = (end_none, end_done, end_next, end_fits)
