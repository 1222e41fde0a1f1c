-- A loop over rows whose items stand in another table one run after the other.
use mathlib.Core.Path.{◌≡◌, refl, sym, ◌∙◌}
use Prim.Native.Nat.{ℕ, suc, ◌+◌, ◌-◌, ◌*◌, ◌≤◌, ◌<◌}
use native.Mathlib.Nat.{mul-le-mul_left}
use native.Mathlib.Omega.{arith}
use mathlib.Core.Bool.{Bool, true, false, not, ◌&&◌}
use mathlib.Core.List.{List}
use lib.ListN.{take, drop, get_or}
use lib.Dec.{leb, eqb}
use borrow.Author.Tests.{lt-leb, le-leb}
use Rattle.b3d_check_spec.specs.Check.{groups_valid}
use Rattle.b3d_check_rows.specs.Rows.{row_at, rows_at}
use Rattle.b3d_check_rows.proofs.AndLaws.{and_stop, and_go}
use Rattle.b3d_check_rows.proofs.RowCellLaws.{row_cell, rows_none, rows_next, rows-length, rows_take, rows_drop}

-- f said yes to the rows before i, whose items end before number r: what the rest says is what all say. w: the words of an item; all: how many items there are
pub record RunsFrom (f : List ℕ → List (List ℕ) → Bool) (w from first count : ℕ) (xs : List ℕ) (all : ℕ) (is : List ℕ) (end r i : ℕ) : Type 0 where
  pub last : end ≡ first + count
  pub before : i ≤ end
  pub inside : r ≤ all
  pub same : groups_valid f r (rows_at 4 i (end - i) xs) (rows_at w r (all - r) is) ≡ groups_valid f from (rows_at 4 first count xs) (rows_at w from (all - from) is)

module _ (f : List ℕ → List (List ℕ) → Bool) (w from first count : ℕ) (xs : List ℕ) (all : ℕ) (is : List ℕ) where
  abbrev whole : Bool
  whole = groups_valid f from (rows_at 4 first count xs) (rows_at w from (all - from) is)

  pub runs_none : from ≤ all → RunsFrom f w from first count xs all is (first + count) from first
  runs_none h = let e : first + count - first ≡ count = omega arith in record { last = refl; before = omega arith; inside = h; same = rw e }

  module _ (end r i : ℕ) (a : RunsFrom f w from first count xs all is end r i) where
    pub runs_done : end ≤ i → true ≡ groups_valid f from (rows_at 4 first count xs) (rows_at w from (all - from) is)
    unfolding groups_valid
    runs_done h = let e : end - i ≡ 0 = omega arith in rw (← a.same, e, rows_none 4 i xs)

    -- the items of the next row are there
    pub runs_room : (c n : ℕ) → c ≤ all - r → w * all ≤ n → w * (r + c) ≤ n
    runs_room c n l h =
        let k : w * (r + c) ≤ w * all = mul-le-mul_left w (omega (arith, a.inside)) in
        omega arith

    module _ (h : i < end) (b c : ℕ) (eb : b ≡ get_or xs (4 * i + 2) 0) (ec : c ≡ get_or xs (4 * i + 3) 0) where
      abbrev rest : Bool
      rest = groups_valid f (r + c) (rows_at 4 (i + 1) (end - (i + 1)) xs) (drop c (rows_at w r (all - r) is))

      step : whole ≡ (eqb b r && (leb c (all - r) && (f (row_at 4 i xs) (take c (rows_at w r (all - r) is)) && rest)))
      unfolding groups_valid
      step =
          let n : end - i ≡ suc (end - (i + 1)) = omega arith in
          let x₂ = row_cell 4 i 2 xs (omega arith) in
          let x₃ = row_cell 4 i 3 xs (omega arith) in
          rw (← a.same, n, rows_next 4 i (end - (i + 1)) xs, x₂, x₃, ← eb, ← ec, rows-length w r (all - r) is)

      pub runs_wrong : not (eqb b r) ≡ true → false ≡ groups_valid f from (rows_at 4 first count xs) (rows_at w from (all - from) is)
      runs_wrong k = and_stop (eqb b r) (eqb b r) _ refl k ∙ sym step

      module _ (k : not (eqb b r) ≡ false) where
        pub runs_past : all - r < c → false ≡ groups_valid f from (rows_at 4 first count xs) (rows_at w from (all - from) is)
        runs_past l = and_go (eqb b r) (eqb b r) _ false refl k (rw (lt-leb c (all - r) l)) ∙ sym step

        module _ (l : c ≤ all - r) (s : Bool) (e : s ≡ f (row_at 4 i xs) (rows_at w r c is)) where
          turn : whole ≡ (f (row_at 4 i xs) (rows_at w r c is) && groups_valid f (r + c) (rows_at 4 (i + 1) (end - (i + 1)) xs) (rows_at w (r + c) (all - (r + c)) is))
          turn =
              let d : all - r - c ≡ all - (r + c) = omega arith in
              step ∙ sym (and_go (eqb b r) (eqb b r) _ _ refl k refl)
              ∙ rw (le-leb c (all - r) l, rows_take w r c (all - r) is l, rows_drop w r c (all - r) is l, d)

          pub runs_stop : not s ≡ true → false ≡ groups_valid f from (rows_at 4 first count xs) (rows_at w from (all - from) is)
          runs_stop n = and_stop s (f (row_at 4 i xs) (rows_at w r c is)) _ e n ∙ sym turn

          pub runs_next : not s ≡ false → RunsFrom f w from first count xs all is end (r + c) (i + 1)
          runs_next n = record { last = a.last; before = omega arith; inside = omega (arith, a.inside); same = and_go s (f (row_at 4 i xs) (rows_at w r c is)) _ _ e n refl ∙ sym turn }

pub ruleset runs_laws = (runs_none, runs_done, runs_room, runs_wrong, runs_past, runs_stop, runs_next)
