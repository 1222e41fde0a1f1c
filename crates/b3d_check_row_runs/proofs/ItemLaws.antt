-- A key list and a triangle set by their cells, and either as a row with its run of items.
use mathlib.Core.Path.{◌≡◌}
use Prim.Native.Nat.{ℕ, ◌+◌, ◌*◌, ◌≤◌}
use native.Mathlib.Omega.{arith}
use mathlib.Core.Bool.{Bool, ◌&&◌, ◌||◌}
use mathlib.Core.List.{List}
use lib.ListN.{get_or}
use lib.Dec.{leb, ltb, eqb}
use Rattle.layout.specs.WellFormed.{all}
use Rattle.layout.specs.Rules.{NONE}
use Rattle.b3d_spec.specs.Mask.{key_mask}
use Rattle.b3d_spec.specs.Rules.{triangle_row}
use Rattle.b3d_check_spec.specs.Check.{keeps, clean, set_valid, key_list_valid}
use Rattle.b3d_check_rows.specs.Rows.{row_at, rows_at}
use Rattle.b3d_check_rows.proofs.RowCellLaws.{row_cell, row_first}
use Rattle.b3d_check_row_runs.specs.declared.Run.{Run}
use Rattle.b3d_check_row_runs.specs.declared.Run.TheVariants.{Keys, Triangles}
use Rattle.b3d_check_row_runs.specs.Items.{run_width, run_test}

pub list-parts : (i : ℕ) (t : List ℕ) (ks : List (List ℕ)) (r : Bool)
    → r ≡ (leb (get_or t (4 * i + 1) 0) 7 && all (clean (key_mask (get_or t (4 * i + 1) 0))) ks)
    → r ≡ key_list_valid (row_at 4 i t) ks
unfolding key_list_valid
list-parts i t ks r h = rw (row_cell 4 i 1 t (omega arith)) h

pub set-parts : (brushes v mesh i own : ℕ) (t : List ℕ) (ts : List (List ℕ)) → own ≡ get_or t (4 * i) 0 → (r : Bool)
    → r ≡ (eqb own mesh && ((eqb (get_or t (4 * i + 1) 0) NONE || ltb (get_or t (4 * i + 1) 0) brushes) && all (keeps (triangle_row v)) ts))
    → r ≡ set_valid brushes v mesh (row_at 4 i t) ts
unfolding set_valid
set-parts brushes v mesh i own t ts e r h = rw (row_first 4 i t (omega arith), row_cell 4 i 1 t (omega arith), ← e) h

-- ---- the ways of `group_valid`

module _ (run : Run) (first count : ℕ) (is : List ℕ) where
  module _ (e : run ≡ Keys) where
    pub keys-room : (n l : ℕ) → run_width run * n ≤ l → 11 * n ≤ l
    keys-room n l h = rw e at h

    pub keys_test : (x : List ℕ) (r : Bool) → r ≡ key_list_valid x (rows_at 11 first count is) → r ≡ run_test run x (rows_at (run_width run) first count is)
    keys_test x r h = rw e h

  module _ (brushes v mesh : ℕ) (e : run ≡ Triangles brushes v mesh) where
    pub triangles-room : (n l : ℕ) → run_width run * n ≤ l → 3 * n ≤ l
    triangles-room n l h = rw e at h

    pub triangles_test : (x : List ℕ) (r : Bool) → r ≡ set_valid brushes v mesh x (rows_at 3 first count is) → r ≡ run_test run x (rows_at (run_width run) first count is)
    triangles_test x r h = rw e h

pub ruleset run_laws = (keys-room, keys_test, triangles-room, triangles_test)
