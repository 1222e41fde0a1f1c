-- A loop over rows that stops at the first that a test refuses.
use mathlib.Core.Path.{◌≡◌, refl, sym, ◌∙◌}
use Prim.Native.Nat.{ℕ, suc, ◌+◌, ◌-◌, ◌≤◌, ◌<◌}
use native.Mathlib.Omega.{arith}
use mathlib.Core.Bool.{Bool, true, false, not, ◌&&◌}
use mathlib.Core.List.{List}
use Rattle.layout.specs.WellFormed.{all}
use Rattle.b3d_check_rows.specs.Rows.{row_at, rows_at}
use Rattle.b3d_check_rows.proofs.AndLaws.{and_stop, and_go}
use Rattle.b3d_check_rows.proofs.RowCellLaws.{rows_none, rows_next}

-- the test held of the rows before i: what the rest says is what all say
pub record AllFrom (f : List ℕ → Bool) (w first count : ℕ) (ws : List ℕ) (end i : ℕ) : Type 0 where
  pub last : end ≡ first + count
  pub before : i ≤ end
  pub same : all f (rows_at w i (end - i) ws) ≡ all f (rows_at w first count ws)

module _ (f : List ℕ → Bool) (w first count : ℕ) (ws : List ℕ) where
  pub all_none : AllFrom f w first count ws (first + count) first
  all_none = let e : first + count - first ≡ count = omega arith in record { last = refl; before = omega arith; same = rw e }

  pub all_start : first ≡ 0 → AllFrom f w first count ws count first
  all_start z =
      let n : count ≡ first + count = omega arith in
      let e : count - first ≡ count = omega arith in
      record { last = n; before = omega arith; same = rw e }

  module _ (end i : ℕ) (a : AllFrom f w first count ws end i) where
    pub all_done : end ≤ i → true ≡ all f (rows_at w first count ws)
    all_done h = let e : end - i ≡ 0 = omega arith in rw (← a.same, e, rows_none w i ws)

    module _ (h : i < end) (r : Bool) (e : r ≡ f (row_at w i ws)) where
      step : all f (rows_at w first count ws) ≡ (f (row_at w i ws) && all f (rows_at w (i + 1) (end - (i + 1)) ws))
      step = let n : end - i ≡ suc (end - (i + 1)) = omega arith in rw (← a.same, n, rows_next w i (end - (i + 1)) ws)

      pub all_stop : not r ≡ true → false ≡ all f (rows_at w first count ws)
      all_stop n = and_stop r (f (row_at w i ws)) _ e n ∙ sym step

      pub all_next : not r ≡ false → AllFrom f w first count ws end (i + 1)
      all_next n = record { last = a.last; before = omega arith; same = and_go r (f (row_at w i ws)) _ _ e n refl ∙ sym step }

pub ruleset all_laws = (all_none, all_start, all_done, all_stop, all_next)
