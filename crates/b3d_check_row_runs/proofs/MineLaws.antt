-- The key lists that are a node's: those from `first` on up to the first that names another.
use mathlib.Core.Path.{◌≡◌, ap, sym, ◌∙◌}
use Prim.Native.Nat.{ℕ, zero, suc, ◌+◌, ◌-◌, ◌*◌, ◌≤◌, ◌<◌}
use native.Mathlib.Omega.{arith}
use mathlib.Core.Bool.{true, false, not}
use mathlib.Core.List.{List, [], ◌∷◌, ◌++◌, append-nil, append_assoc}
use lib.ListN.{get_or}
use lib.Dec.{eqb}
use borrow.Author.Tests.{not-true, not-false}
use Rattle.wire.specs.Test.{if}
use Rattle.b3d_spec.specs.Rebuild.{owned_by}
use Rattle.b3d_check_rows.specs.Rows.{row_at, rows_at}
use Rattle.b3d_check_rows.proofs.RowCellLaws.{row_first, rows_none, rows_next}
use Rattle.b3d_check_row_runs.specs.Mine.{MineTo}

-- the rows before i are the node's
pub record MineFrom (node first all : ℕ) (t : List ℕ) (i : ℕ) : Type 0 where
  pub low : first ≤ i
  pub high : i ≤ all
  pub same : owned_by node (rows_at 4 first (all - first) t) ≡ rows_at 4 first (i - first) t ++ owned_by node (rows_at 4 i (all - i) t)

-- one row more at the end
rows_more : (w i c : ℕ) (ws : List ℕ) → rows_at w i c ws ++ (row_at w (i + c) ws ∷ []) ≡ rows_at w i (suc c) ws
rows_more w i zero ws = let e : i + 0 ≡ i = omega arith in rw (e, rows_none w i ws, rows_next w i 0 ws, rows_none w (i + 1) ws)
rows_more w i (suc c) ws =
    let e : i + suc c ≡ i + 1 + c = omega arith in
    rw (e, rows_next w i c ws, rows_next w i (suc c) ws) (ap (λ (l : List (List ℕ)). row_at w i ws ∷ l) (rows_more w (i + 1) c ws))

module _ (node first all : ℕ) (t : List ℕ) where
  pub mine_none : first ≤ all → MineFrom node first all t first
  mine_none h = let e : first - first ≡ 0 = omega arith in record { low = omega arith; high = h; same = rw (e, rows_none 4 first t) }

  module _ (i : ℕ) (a : MineFrom node first all t i) where
    pub mine_done : all ≤ i → MineTo node first all t i
    unfolding owned_by
    mine_done h =
        let e : all - i ≡ 0 = omega arith in
        record { low = a.low; high = a.high; is = a.same ∙ rw (e, rows_none 4 i t) (append-nil (rows_at 4 first (i - first) t)) }

    module _ (h : i < all) (b : ℕ) (eb : b ≡ get_or t (4 * i) 0) where
      left : owned_by node (rows_at 4 i (all - i) t) ≡ if (eqb b node) (row_at 4 i t ∷ owned_by node (rows_at 4 (i + 1) (all - (i + 1)) t)) []
      unfolding owned_by
      left = let n : all - i ≡ suc (all - (i + 1)) = omega arith in rw (n, rows_next 4 i (all - (i + 1)) t, row_first 4 i t (omega arith), ← eb)

      pub mine_other : not (eqb b node) ≡ true → MineTo node first all t i
      unfolding if
      mine_other k =
          record { low = a.low; high = a.high; is = a.same ∙ rw (left, not-true (eqb b node) k) (append-nil (rows_at 4 first (i - first) t)) }

      pub mine_next : not (eqb b node) ≡ false → MineFrom node first all t (i + 1)
      unfolding if
      mine_next k =
          let d : i ≡ first + (i - first) = omega (arith, a.low) in
          let s : suc (i - first) ≡ i + 1 - first = omega (arith, a.low) in
          let m = owned_by node (rows_at 4 (i + 1) (all - (i + 1)) t) in
          let g : rows_at 4 first (i - first) t ++ (row_at 4 i t ∷ []) ≡ rows_at 4 first (i + 1 - first) t =
          ap (λ (j : ℕ). rows_at 4 first (i - first) t ++ (row_at 4 j t ∷ [])) d ∙ rows_more 4 first (i - first) t ∙ ap (λ (c : ℕ). rows_at 4 first c t) s in
          record {
            low = omega (arith, a.low);
            high = omega arith;
            same = a.same ∙ rw (left, not-false (eqb b node) k) (sym (append_assoc (rows_at 4 first (i - first) t) (row_at 4 i t ∷ []) m) ∙ ap (λ (l : List (List ℕ)). l ++ m) g);
          }

pub ruleset mine_laws = (mine_none, mine_done, mine_other, mine_next)
