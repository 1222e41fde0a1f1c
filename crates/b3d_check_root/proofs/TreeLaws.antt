-- The root, and then the nodes below it.
use mathlib.Core.Path.{◌≡◌, refl, ap, sym, ◌∙◌}
use Prim.Native.Nat.{ℕ, suc, ◌+◌, ◌-◌, ◌*◌, ◌≤◌, ◌<◌}
use native.Mathlib.Omega.{arith}
use mathlib.Core.Bool.{Bool, true, false, not, ◌&&◌}
use mathlib.Core.List.{List, [], ◌∷◌}
use lib.ListN.{drop, get_or}
use lib.Dec.{eqb}
use Rattle.layout.specs.Rules.{NONE}
use Rattle.b3d_spec.specs.Rebuild.{Rows, cut}
use Rattle.b3d_spec.specs.Tables.{start, node_width, no_rows}
use Rattle.b3d_spec.specs.declared.Counts.{Counts}
use Rattle.b3d_check_spec.specs.CellCounts.{node_counts, cell_counts}
use Rattle.b3d_check_spec.specs.Check.{node_valid, end_from, nodes_valid, tree_valid}
use Rattle.b3d_check_rows.specs.Rows.{row_at, rows_at}
use Rattle.b3d_check_rows.proofs.AndLaws.{and_stop, and_go}
use Rattle.b3d_check_rows.proofs.RowCellLaws.{row_cell, rows_next, rows_whole}
use Rattle.b3d_check_node_counts.specs.Parts.{part_rows, Below}
use Rattle.b3d_check_node_counts.proofs.AfterLaws.{kind-keeps}
use Rattle.b3d_check_node.proofs.BoundLaws.{after-below}
use Rattle.b3d_check_node_counts.specs.Ended.{ended}
use Rattle.b3d_check_node_counts.proofs.EndedLaws.{ended-spent}
use Rattle.b3d_check_nodes.proofs.NodesLaws.{counts-few}

module _ (ns : List ℕ) (brushes : ℕ) (a : Counts) (t₃ t₄ t₅ t₆ t₇ t₈ t₉ t₁₀ : List ℕ) where
  abbrev R : Rows
  R = part_rows a t₄ t₅ t₆ t₇ t₈ t₉ t₁₀

  abbrev few : Rows
  few = part_rows a t₄ [] t₆ [] [] t₉ []

  abbrev x : List ℕ
  x = row_at node_width 0 t₃

  pub tree-empty : a.nodes ≤ 0 → (r : Bool) → r ≡ ended no_rows a → r ≡ tree_valid ns brushes (part_rows a t₄ t₅ t₆ t₇ t₈ t₉ t₁₀) (cut node_width a.nodes t₃)
  unfolding tree_valid cut start
  tree-empty h r e = let z : a.nodes ≡ 0 = omega arith in e ∙ ended-spent no_rows a t₄ t₅ t₆ t₇ t₈ t₉ t₁₀ ∙ sym (ap (λ (k : ℕ). tree_valid ns brushes R (cut node_width k t₃)) z)

  module _ (h : 0 < a.nodes) where
    whole : tree_valid ns brushes R (cut node_width a.nodes t₃)
        ≡ (eqb (get_or t₃ 2 0) NONE && (node_valid ns brushes 0 R x no_rows
        && nodes_valid ns brushes R (record { node = 0; end = end_from 0 x; bones = (cell_counts R x no_rows).vertices } ∷ []) (rows_at node_width 1 (a.nodes - 1) t₃) (cell_counts R x no_rows)))
    unfolding tree_valid start
    whole =
        let c : a.nodes ≡ suc (a.nodes - 1) = omega arith in
        let g : cut node_width a.nodes t₃ ≡ x ∷ rows_at node_width 1 (a.nodes - 1) t₃ = rows_whole node_width a.nodes t₃ ∙ ap (λ (k : ℕ). rows_at node_width 0 k t₃) c ∙ rows_next node_width 0 (a.nodes - 1) t₃ in
        ap (tree_valid ns brushes R) g ∙ rw (row_cell node_width 0 2 t₃ (omega arith))

    pub tree_wrong : not (eqb (get_or t₃ 2 0) NONE) ≡ true → false ≡ tree_valid ns brushes (part_rows a t₄ t₅ t₆ t₇ t₈ t₉ t₁₀) (cut node_width a.nodes t₃)
    tree_wrong k = and_stop (eqb (get_or t₃ 2 0) NONE) _ _ refl k ∙ sym whole

    module _ (b : Bool) (e : b ≡ node_valid ns brushes 0 (part_rows a t₄ t₅ t₆ t₇ t₈ t₉ t₁₀) (row_at node_width 0 t₃) no_rows) where
      pub tree_node : not (eqb (get_or t₃ 2 0) NONE) ≡ false → not b ≡ true → false ≡ tree_valid ns brushes (part_rows a t₄ t₅ t₆ t₇ t₈ t₉ t₁₀) (cut node_width a.nodes t₃)
      tree_node k f = and_go (eqb (get_or t₃ 2 0) NONE) _ _ false refl k (and_stop b (node_valid ns brushes 0 R x no_rows) _ e f) ∙ sym whole

      module _ (f : not b ≡ false) where
        pub root-after : Below (cell_counts (part_rows a t₄ [] t₆ [] [] t₉ []) (row_at node_width 0 t₃) no_rows) a
        root-after =
            let z : Below no_rows a = record { nodes = omega arith; meshes = omega arith; vertices = omega arith; sets = omega arith; triangles = omega arith; weights = omega arith; lists = omega arith; keys = omega arith } in
            after-below ns brushes 0 no_rows a t₃ t₄ t₅ t₆ t₇ t₈ t₉ t₁₀ x z h b e f

        module _ (m : Counts) (em : m ≡ cell_counts (part_rows a t₄ [] t₆ [] [] t₉ []) (row_at node_width 0 t₃) no_rows) where
          pub root_below : Below m a
          root_below = rw em root-after

          one : m.nodes ≡ 1
          unfolding cell_counts node_counts
          one = ap (λ (k : Counts). k.nodes) em ∙ ap (λ (k : ℕ). k + 1) (kind-keeps few no_rows (drop 13 x)).nodes

          pub tree-nodes : (k : not (eqb (get_or t₃ 2 0) NONE) ≡ false) (end : ℕ) → end ≡ 0 + 1 + get_or t₃ (node_width * 0 + 20) 0 → (c : Bool)
              → c ≡ nodes_valid ns brushes (part_rows a t₄ t₅ t₆ t₇ t₈ t₉ t₁₀) (record { node = 0; end = end; bones = m.vertices } ∷ []) (rows_at node_width m.nodes (a.nodes - m.nodes) t₃) m
              → c ≡ tree_valid ns brushes (part_rows a t₄ t₅ t₆ t₇ t₈ t₉ t₁₀) (cut node_width a.nodes t₃)
          tree-nodes k end ee c ec =
              let w : m ≡ cell_counts R x no_rows = em ∙ counts-few no_rows a x t₄ t₅ t₆ t₇ t₈ t₉ t₁₀ in
              let at : end ≡ end_from 0 x = ee ∙ ap (λ (j : ℕ). 0 + 1 + j) (sym (row_cell node_width 0 20 t₃ (omega arith))) in
              let is = ec ∙ (λ i. nodes_valid ns brushes R (record { node = 0; end = at i; bones = (w i).vertices } ∷ []) (rows_at node_width (one i) (a.nodes - one i) t₃) (w i)) in
              and_go (eqb (get_or t₃ 2 0) NONE) _ _ c refl k (and_go b (node_valid ns brushes 0 R x no_rows) _ c e f is) ∙ sym whole
