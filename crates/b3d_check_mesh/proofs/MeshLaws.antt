-- A mesh by its row's cells and its parts.
use mathlib.Core.Path.{◌≡◌, refl, sym, ◌∙◌}
use Prim.Native.Nat.{ℕ, ◌+◌, ◌-◌, ◌*◌, ◌≤◌, ◌<◌}
use native.Mathlib.Omega.{arith}
use mathlib.Core.Bool.{Bool, true, false, not, ◌&&◌, ◌||◌}
use mathlib.Core.List.{List}
use lib.ListN.{take, get_or}
use lib.Dec.{leb, ltb, eqb}
use borrow.Author.Tests.{lt-ltb, le-ltb, lt-leb, le-leb}
use Rattle.layout.specs.WellFormed.{all}
use Rattle.layout.specs.Rules.{NONE}
use Rattle.layout.proofs.TestLaws.{and_assoc}
use Rattle.b3d_spec.specs.Mask.{vertex_mask}
use Rattle.b3d_spec.specs.declared.Counts.{Counts}
use Rattle.b3d_check_spec.specs.Check.{clean, rows_valid, groups_valid, set_valid, mesh_valid}
use Rattle.b3d_check_rows.specs.Rows.{row_at, rows_at}
use Rattle.b3d_check_rows.proofs.AndLaws.{and_stop, and_go}
use Rattle.b3d_check_rows.proofs.RowCellLaws.{row_cell, row_first, rows-length, rows_take}
use Rattle.b3d_check_mesh.specs.Parts.{mesh_row_here, mesh_sets}

pub head-cells : (brushes node first i own from : ℕ) (t : List ℕ) → own ≡ get_or t (9 * i) 0 → from ≡ get_or t (9 * i + 5) 0
    → (eqb own node && ((eqb (get_or t (9 * i + 1) 0) NONE || ltb (get_or t (9 * i + 1) 0) brushes)
    && (leb (get_or t (9 * i + 2) 0) 3 && (leb (get_or t (9 * i + 3) 0) 8 && (leb (get_or t (9 * i + 4) 0) 4 && eqb from first)))))
    ≡ mesh_row_here brushes node first (row_at 9 i t)
unfolding mesh_row_here
head-cells brushes node first i own from t e₀ e₅ =
    rw (row_first 9 i t (omega arith), row_cell 9 i 1 t (omega arith), row_cell 9 i 2 t (omega arith), row_cell 9 i 3 t (omega arith), row_cell 9 i 4 t (omega arith), row_cell 9 i 5 t (omega arith), ← e₀, ← e₅)

-- c rows from `first` on, of those that are left
module _ (f : List ℕ → Bool) (w first total c : ℕ) (ws : List ℕ) where
  pub rows-past : total - first < c → false ≡ rows_valid f c (rows_at w first (total - first) ws)
  unfolding rows_valid
  rows-past h = rw (rows-length w first (total - first) ws, lt-leb c (total - first) h)

  pub rows-here : c ≤ total - first → (r : Bool) → r ≡ all f (rows_at w first c ws) → r ≡ rows_valid f c (rows_at w first (total - first) ws)
  unfolding rows_valid
  rows-here h r e = rw (rows-length w first (total - first) ws, le-leb c (total - first) h, rows_take w first c (total - first) ws h) e

pub ruleset left_laws = (rows-past, rows-here)

-- ---- the sets of mesh i, from `sets` on, when there are `total` of them

module _ (brushes i sets total tri : ℕ) (t t₆ : List ℕ) (ts : List (List ℕ)) (first count : ℕ) (ef : first ≡ get_or t (9 * i + 7) 0) (ec : count ≡ get_or t (9 * i + 8) 0) where
  abbrev ss : List (List ℕ)
  ss = rows_at 4 sets (total - sets) t₆

  cells : mesh_sets brushes i sets tri (row_at 9 i t) ss ts
      ≡ (eqb first sets && (ltb 0 count && (leb count (total - sets) && groups_valid (set_valid brushes (get_or t (9 * i + 6) 0) i) tri (take count ss) ts)))
  unfolding mesh_sets
  cells = rw (row_cell 9 i 6 t (omega arith), row_cell 9 i 7 t (omega arith), row_cell 9 i 8 t (omega arith), ← ef, ← ec, rows-length 4 sets (total - sets) t₆)

  pub sets_wrong : not (eqb first sets) ≡ true → false ≡ mesh_sets brushes i sets tri (row_at 9 i t) (rows_at 4 sets (total - sets) t₆) ts
  sets_wrong k = and_stop (eqb first sets) (eqb first sets) _ refl k ∙ sym cells

  module _ (k : not (eqb first sets) ≡ false) where
    on : (r : Bool) → r ≡ (ltb 0 count && (leb count (total - sets) && groups_valid (set_valid brushes (get_or t (9 * i + 6) 0) i) tri (take count ss) ts)) → r ≡ mesh_sets brushes i sets tri (row_at 9 i t) ss ts
    on r e = and_go (eqb first sets) (eqb first sets) _ r refl k e ∙ sym cells

    pub sets_none : count ≤ 0 → false ≡ mesh_sets brushes i sets tri (row_at 9 i t) (rows_at 4 sets (total - sets) t₆) ts
    sets_none h = on false (rw (le-ltb 0 count h))

    module _ (h : 0 < count) where
      pub sets-past : total - sets < count → false ≡ mesh_sets brushes i sets tri (row_at 9 i t) (rows_at 4 sets (total - sets) t₆) ts
      sets-past l = on false (rw (lt-ltb 0 count h, lt-leb count (total - sets) l))

      pub sets-run : count ≤ total - sets → (r : Bool) → r ≡ groups_valid (set_valid brushes (get_or t (9 * i + 6) 0) i) tri (rows_at 4 sets count t₆) ts
          → r ≡ mesh_sets brushes i sets tri (row_at 9 i t) (rows_at 4 sets (total - sets) t₆) ts
      sets-run l r e = on r (rw (lt-ltb 0 count h, le-leb count (total - sets) l, rows_take 4 sets count (total - sets) t₆ l) e)

pub ruleset sets_laws = (sets_wrong, sets_none, sets-past, sets-run)

-- ---- a mesh

pub mesh-parts : (brushes : ℕ) (n : Counts) (t : List ℕ) (vs ss ts : List (List ℕ)) (count : ℕ) → count ≡ get_or t (9 * n.meshes + 6) 0 → (r : Bool)
    → r ≡ (mesh_row_here brushes n.nodes n.vertices (row_at 9 n.meshes t)
    && (rows_valid (clean (vertex_mask (get_or t (9 * n.meshes + 2) 0) (get_or t (9 * n.meshes + 3) 0) (get_or t (9 * n.meshes + 4) 0))) count vs
    && mesh_sets brushes n.meshes n.sets n.triangles (row_at 9 n.meshes t) ss ts))
    → r ≡ mesh_valid brushes n (row_at 9 n.meshes t) vs ss ts
unfolding mesh_valid mesh_row_here mesh_sets
mesh-parts brushes n t vs ss ts count e r h =
    let i = n.meshes in
    h ∙ rw (e, ← row_cell 9 i 2 t (omega arith), ← row_cell 9 i 3 t (omega arith), ← row_cell 9 i 4 t (omega arith), ← row_cell 9 i 6 t (omega arith)) (simp and_assoc)
