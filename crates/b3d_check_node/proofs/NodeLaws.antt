-- A node by its parts: key lists, animation, and the whole.
use mathlib.Core.Path.{◌≡◌, refl, ap, ap₂, sym, ◌∙◌}
use Prim.Native.Nat.{ℕ, ◌+◌, ◌-◌, ◌*◌, ◌≤◌, ◌<◌}
use native.Mathlib.Omega.{arith}
use mathlib.Core.Bool.{Bool, true, ◌&&◌}
use mathlib.Core.List.{List, [], ◌∷◌}
use lib.ListN.{length, take, drop, get_or, length-take, length-drop}
use lib.Seq.{get_or-drop, get_or-take}
use lib.Dec.{eqb}
use borrow.Author.Tests.{eq-eqb, ne_eqb}
use Rattle.wire.specs.Test.{if}
use Rattle.layout.specs.WellFormed.{all}
use Rattle.layout.proofs.TestLaws.{and_true}
use Rattle.b3d_spec.specs.Rebuild.{owned_by}
use Rattle.b3d_spec.specs.declared.Counts.{Counts}
use Rattle.b3d_spec.specs.Tables.{node_width}
use Rattle.b3d_check_spec.specs.Check.{groups_valid, name_valid, kind_valid, key_list_valid, anim_valid, node_valid}
use Rattle.b3d_check_spec.proofs.Check.RowLaws.{cells, cells_are}
use Rattle.b3d_check_rows.specs.Rows.{row_at, rows_at}
use Rattle.b3d_check_rows.proofs.RowCellLaws.{row-length, rows-from}
use Rattle.b3d_check_rows.proofs.RowLaws.{name-cells}
use Rattle.b3d_check_row_runs.specs.Mine.{MineTo}
use Rattle.b3d_check_node_counts.proofs.AfterLaws.{kind_cell}
use Rattle.b3d_check_node_counts.specs.Parts.{part_rows, Below}

-- ---- key lists

pub lists_mine : (node first total : ℕ) (t : List ℕ) (end : ℕ) → MineTo node first total t end → (r : ℕ) (ks : List (List ℕ)) (b : Bool)
    → b ≡ groups_valid key_list_valid r (rows_at 4 first (end - first) t) ks → b ≡ groups_valid key_list_valid r (owned_by node (rows_at 4 first (total - first) t)) ks
lists_mine node first total t end m r ks b e = rw m.is e

-- ---- animation

module _ (i : ℕ) (t : List ℕ) where
  abbrev y : List ℕ
  y = take 4 (drop 3 (drop 13 (row_at node_width i t)))

  anim_cell : (j : ℕ) → j < 4 → get_or y j 0 ≡ get_or t (node_width * i + (16 + j)) 0
  anim_cell j h =
      let e : 13 + (3 + j) ≡ 16 + j = omega arith in
      get_or-take 4 (drop 3 (drop 13 (row_at node_width i t))) j 0 h ∙ get_or-drop 3 (drop 13 (row_at node_width i t)) j 0 ∙ kind_cell i (3 + j) t (omega arith) ∙ ap (λ (k : ℕ). get_or t (node_width * i + k) 0) e

  pub anim-there : get_or t (node_width * i + 16) 0 ≡ 1 → true ≡ anim_valid (take 4 (drop 3 (drop 13 (row_at node_width i t))))
  unfolding anim_valid if
  anim-there e = rw (anim_cell 0 (omega arith), eq-eqb (get_or t (node_width * i + 16) 0) 1 e)

  pub anim_none : node_width * i + node_width ≤ length t → (get_or t (node_width * i + 16) 0 ≡ 1 → ⊥)
      → (eqb (get_or t (node_width * i + 16) 0) 0 && (eqb (get_or t (node_width * i + 17) 0) 0 && (eqb (get_or t (node_width * i + 18) 0) 0 && eqb (get_or t (node_width * i + 19) 0) 0))) ≡ anim_valid (take 4 (drop 3 (drop 13 (row_at node_width i t))))
  unfolding anim_valid if cells
  anim_none h e =
      let l : length y ≡ 4 = omega (arith, length-take 4 (drop 3 (drop 13 (row_at node_width i t))), length-drop 3 (drop 13 (row_at node_width i t)), length-drop 13 (row_at node_width i t), row-length node_width i t h) in
      let c₀ = anim_cell 0 (omega arith) in
      let c₁ = anim_cell 1 (omega arith) in
      let c₂ = anim_cell 2 (omega arith) in
      let c₃ = anim_cell 3 (omega arith) in
      let q : all (λ x. eqb x 0) (cells y 0 4) ≡ all (λ x. eqb x 0) y = ap (all (λ x. eqb x 0)) (cells_are y 4 l) in
      rw (c₀, ne_eqb (get_or t (node_width * i + 16) 0) 1 e)
      (ap (λ (b : Bool). eqb (get_or t (node_width * i + 16) 0) 0 && (eqb (get_or t (node_width * i + 17) 0) 0 && (eqb (get_or t (node_width * i + 18) 0) 0 && b))) (sym (and_true (eqb (get_or t (node_width * i + 19) 0) 0)))
      ∙ rw (c₀, c₁, c₂, c₃) at q)

-- ---- the whole

-- a kind needs the tables 4 to 8 alone
kind-few : (brushes bones : ℕ) (n a : Counts) (y t₄ t₅ t₆ t₇ t₈ t₉ t₁₀ : List ℕ)
    → kind_valid brushes bones (part_rows a t₄ t₅ t₆ t₇ t₈ [] []) n y ≡ kind_valid brushes bones (part_rows a t₄ t₅ t₆ t₇ t₈ t₉ t₁₀) n y
unfolding kind_valid part_rows if
kind-few brushes bones n a y t₄ t₅ t₆ t₇ t₈ t₉ t₁₀ = refl

pub node-parts : (ns : List ℕ) (brushes bones : ℕ) (n a : Counts) (t₃ t₄ t₅ t₆ t₇ t₈ t₉ t₁₀ : List ℕ) → Below n a → (r : Bool)
    → r ≡ (name_valid ns (get_or t₃ (node_width * n.nodes) 0 ∷ get_or t₃ (node_width * n.nodes + 1) 0 ∷ [])
    && (kind_valid brushes bones (part_rows a t₄ t₅ t₆ t₇ t₈ [] []) n (drop 13 (row_at node_width n.nodes t₃))
    && (groups_valid key_list_valid n.keys (owned_by n.nodes (rows_at 4 n.lists (a.lists - n.lists) t₉)) (rows_at 11 n.keys (a.keys - n.keys) t₁₀)
    && anim_valid (take 4 (drop 3 (drop 13 (row_at node_width n.nodes t₃)))))))
    → r ≡ node_valid ns brushes bones (part_rows a t₄ t₅ t₆ t₇ t₈ t₉ t₁₀) (row_at node_width n.nodes t₃) n
unfolding node_valid part_rows if
node-parts ns brushes bones n a t₃ t₄ t₅ t₆ t₇ t₈ t₉ t₁₀ h r e =
    e ∙ ap₂ ◌&&◌ (name-cells ns node_width n.nodes t₃ (omega arith))
    (ap₂ ◌&&◌ (kind-few brushes bones n a (drop 13 (row_at node_width n.nodes t₃)) t₄ t₅ t₆ t₇ t₈ t₉ t₁₀)
    (rw (rows-from 4 a.lists n.lists t₉ h.lists, rows-from 11 a.keys n.keys t₁₀ h.keys)))
