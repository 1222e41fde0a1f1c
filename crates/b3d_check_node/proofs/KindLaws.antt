-- A law for each way through `kind_valid`.
use mathlib.Core.Path.{◌≡◌, refl, sym, ◌∙◌}
use Prim.Native.Nat.{ℕ, ◌+◌, ◌-◌, ◌*◌, ◌≤◌, ◌<◌}
use native.Mathlib.Omega.{arith}
use mathlib.Core.Bool.{Bool, true, false, not, ◌&&◌}
use mathlib.Core.List.{List, [], ◌∷◌}
use lib.ListN.{drop, get_or}
use lib.Dec.{ltb, eqb}
use borrow.Author.Tests.{ne_eqb, lt-ltb, le-ltb}
use Rattle.wire.specs.Test.{if}
use Rattle.layout.proofs.TestLaws.{and_assoc}
use Rattle.b3d_spec.specs.Rebuild.{cut}
use Rattle.b3d_spec.specs.Rules.{weight_row}
use Rattle.b3d_spec.specs.declared.Counts.{Counts}
use Rattle.b3d_spec.specs.Tables.{node_width}
use Rattle.b3d_check_spec.specs.Check.{keeps, rows_valid, mesh_valid, kind_valid}
use Rattle.b3d_check_rows.specs.Rows.{row_at, rows_at}
use Rattle.b3d_check_rows.proofs.AndLaws.{and_stop, and_go}
use Rattle.b3d_check_rows.proofs.RowCellLaws.{rows-length, rows-from, rows-first}
use Rattle.b3d_check_node_counts.proofs.AfterLaws.{kind_cell}
use Rattle.b3d_check_node_counts.specs.Parts.{part_rows, Below}

module _ (brushes bones : ℕ) (n a : Counts) (t₃ t₄ t₅ t₆ t₇ t₈ : List ℕ) (f c : ℕ) (ef : f ≡ get_or t₃ (node_width * n.nodes + 14) 0) (ec : c ≡ get_or t₃ (node_width * n.nodes + 15) 0) (h : Below n a) where
  abbrev k : ℕ
  k = get_or t₃ (node_width * n.nodes + 13) 0

  -- what the code is to answer
  abbrev Whole : Bool
  Whole = kind_valid brushes bones (part_rows a t₄ t₅ t₆ t₇ t₈ [] []) n (drop 13 (row_at node_width n.nodes t₃))

  cells : Whole ≡ kind_valid brushes bones (part_rows a t₄ t₅ t₆ t₇ t₈ [] []) n (k ∷ f ∷ c ∷ [])
  unfolding kind_valid
  cells = rw (kind_cell n.nodes 0 t₃ (omega arith), kind_cell n.nodes 1 t₃ (omega arith), kind_cell n.nodes 2 t₃ (omega arith), ef, ec)

  abbrev mesh : List ℕ → Bool
  mesh x = mesh_valid brushes n x (rows_at 42 n.vertices (a.vertices - n.vertices) t₅) (rows_at 4 n.sets (a.sets - n.sets) t₆) (rows_at 3 n.triangles (a.triangles - n.triangles) t₇)

  module _ (e : get_or t₃ (node_width * n.nodes + 13) 0 ≡ 1) where
    of-mesh : Whole ≡ ((eqb f n.meshes && eqb c 1) && (ltb 0 (a.meshes - n.meshes) && mesh (get_or (drop n.meshes (cut 9 a.meshes t₄)) 0 [])))
    unfolding kind_valid part_rows if
    of-mesh =
        cells ∙ rw (
          e,
          rows-from 42 a.vertices n.vertices t₅ h.vertices,
          rows-from 4 a.sets n.sets t₆ h.sets,
          rows-from 3 a.triangles n.triangles t₇ h.triangles,
          and_assoc,
          rows-from 9 a.meshes n.meshes t₄ h.meshes,
          rows-length 9 n.meshes (a.meshes - n.meshes) t₄,
        )

    pub kind_wrong : not (eqb f n.meshes && eqb c 1) ≡ true → false ≡ kind_valid brushes bones (part_rows a t₄ t₅ t₆ t₇ t₈ [] []) n (drop 13 (row_at node_width n.nodes t₃))
    kind_wrong s = and_stop (eqb f n.meshes && eqb c 1) _ _ refl s ∙ sym of-mesh

    module _ (s : not (eqb f n.meshes && eqb c 1) ≡ false) where
      on : (r : Bool) → r ≡ (ltb 0 (a.meshes - n.meshes) && mesh (get_or (drop n.meshes (cut 9 a.meshes t₄)) 0 [])) → r ≡ Whole
      on r q = and_go (eqb f n.meshes && eqb c 1) _ _ r refl s q ∙ sym of-mesh

      pub kind-past : a.meshes ≤ n.meshes → false ≡ kind_valid brushes bones (part_rows a t₄ t₅ t₆ t₇ t₈ [] []) n (drop 13 (row_at node_width n.nodes t₃))
      kind-past l = on false (rw (le-ltb 0 (a.meshes - n.meshes) (omega arith)))

      pub kind-mesh : n.meshes < a.meshes → (r : Bool)
          → r ≡ mesh_valid brushes n (row_at 9 n.meshes t₄) (rows_at 42 n.vertices (a.vertices - n.vertices) t₅) (rows_at 4 n.sets (a.sets - n.sets) t₆)
          (rows_at 3 n.triangles (a.triangles - n.triangles) t₇)
          → r ≡ kind_valid brushes bones (part_rows a t₄ t₅ t₆ t₇ t₈ [] []) n (drop 13 (row_at node_width n.nodes t₃))
      kind-mesh l r q = on r (rw (lt-ltb 0 (a.meshes - n.meshes) (omega arith), rows-first 9 a.meshes n.meshes t₄ l) q)

  module _ (e : get_or t₃ (node_width * n.nodes + 13) 0 ≡ 2) where
    of-bone : Whole ≡ (eqb f n.weights && rows_valid (keeps (weight_row bones)) c (rows_at 2 n.weights (a.weights - n.weights) t₈))
    unfolding kind_valid part_rows if
    of-bone = cells ∙ rw (e, rows-from 2 a.weights n.weights t₈ h.weights)

    pub bone_wrong : not (eqb f n.weights) ≡ true → false ≡ kind_valid brushes bones (part_rows a t₄ t₅ t₆ t₇ t₈ [] []) n (drop 13 (row_at node_width n.nodes t₃))
    bone_wrong s = and_stop (eqb f n.weights) _ _ refl s ∙ sym of-bone

    pub kind-bone : not (eqb f n.weights) ≡ false → (r : Bool) → r ≡ rows_valid (keeps (weight_row bones)) c (rows_at 2 n.weights (a.weights - n.weights) t₈)
        → r ≡ kind_valid brushes bones (part_rows a t₄ t₅ t₆ t₇ t₈ [] []) n (drop 13 (row_at node_width n.nodes t₃))
    kind-bone s r q = and_go (eqb f n.weights) _ _ r refl s q ∙ sym of-bone

  -- a pivot, or no kind
  pub kind-other : (get_or t₃ (node_width * n.nodes + 13) 0 ≡ 1 → ⊥) → (get_or t₃ (node_width * n.nodes + 13) 0 ≡ 2 → ⊥)
      → (eqb (get_or t₃ (node_width * n.nodes + 13) 0) 0 && (eqb f 0 && eqb c 0)) ≡ kind_valid brushes bones (part_rows a t₄ t₅ t₆ t₇ t₈ [] []) n (drop 13 (row_at node_width n.nodes t₃))
  unfolding kind_valid part_rows if
  kind-other g g₂ = rw (ne_eqb k 1 g, ne_eqb k 2 g₂) at (sym cells)
