-- The counts after a node: those after its kind, one node more, its key lists and keys.
use mathlib.Core.Path.{◌≡◌, refl, ap, ap₂, sym, ◌∙◌, subst}
use Prim.Native.Nat.{ℕ, ◌+◌, ◌-◌, ◌*◌, ◌≤◌, ◌<◌}
use native.Mathlib.Omega.{arith}
use mathlib.Core.List.{List, [], ◌∷◌}
use lib.ListN.{length, drop, get_or}
use lib.Seq.{get_or-drop}
use lib.Dec.{eqb}
use mir.Syntax.{w64}
use mir.Val.{Fits}
use Rattle.wire.specs.Test.{if}
use Rattle.layout.proofs.ResultLaws.{if_case}
use Rattle.b3d_spec.specs.Rebuild.{Rows, owned_by}
use Rattle.b3d_spec.specs.declared.Counts.{Counts}
use Rattle.b3d_spec.specs.Tables.{node_width}
use Rattle.b3d_check_spec.specs.CellCounts.{end_of, mesh_counts, weight_counts, kind_counts, node_counts, cell_counts}
use Rattle.b3d_check_rows.specs.Rows.{row_at, rows_at}
use Rattle.b3d_check_rows.proofs.RowCellLaws.{row_cell, rows-from, rows-length}
use Rattle.b3d_check_row_runs.specs.Mine.{MineTo}
use Rattle.b3d_check_spec.specs.Rooms.{Limited}
use Rattle.b3d_check_node_counts.specs.Parts.{part_rows, Below}

-- the cells from kind on
pub kind_cell : (i j : ℕ) (t : List ℕ) → 13 + j < node_width → get_or (drop 13 (row_at node_width i t)) j 0 ≡ get_or t (node_width * i + (13 + j)) 0
kind_cell i j t h = get_or-drop 13 (row_at node_width i t) j 0 ∙ row_cell node_width i (13 + j) t h

-- a kind counts no key lists and no keys
pub record Keeps (n m : Counts) : Type 0 where
  pub nodes : m.nodes ≡ n.nodes
  pub lists : m.lists ≡ n.lists
  pub keys : m.keys ≡ n.keys

pub kind-keeps : (R : Rows) (n : Counts) (y : List ℕ) → Keeps n (kind_counts R n y)
unfolding kind_counts mesh_counts weight_counts
kind-keeps R n y =
    if_case (Keeps n) (eqb (get_or y 0 0) 1) _ _ (λ t. record { nodes = refl; lists = refl; keys = refl })
    (λ t. if_case (Keeps n) (eqb (get_or y 0 0) 2) _ _ (λ u. record { nodes = refl; lists = refl; keys = refl }) (λ u. record { nodes = refl; lists = refl; keys = refl }))

module _ (n a : Counts) (t₃ t₄ t₆ t₉ : List ℕ) (h : Below n a) (count : ℕ) (ec : count ≡ get_or t₃ (node_width * n.nodes + 15) 0) where
  abbrev kinds : Counts
  kinds = kind_counts (part_rows a t₄ [] t₆ [] [] [] []) n (get_or t₃ (node_width * n.nodes + 13) 0 ∷ 0 ∷ count ∷ [])

  abbrev ls : List (List ℕ)
  ls = owned_by n.nodes (rows_at 4 n.lists (a.lists - n.lists) t₉)

  abbrev whole : Counts
  whole = cell_counts (part_rows a t₄ [] t₆ [] [] t₉ []) (row_at node_width n.nodes t₃) n

  same_kind : kind_counts (part_rows a t₄ [] t₆ [] [] t₉ []) n (drop 13 (row_at node_width n.nodes t₃)) ≡ kinds
  unfolding kind_counts part_rows if
  same_kind = rw (kind_cell n.nodes 0 t₃ (omega arith), kind_cell n.nodes 2 t₃ (omega arith), ec)

  parts : whole ≡ node_counts (n.lists + length ls) (end_of n.keys ls) kinds
  unfolding cell_counts part_rows if
  parts = ap₂ (λ (r : List (List ℕ)) (k : Counts). node_counts (n.lists + length (owned_by n.nodes r)) (end_of n.keys (owned_by n.nodes r)) k) (rows-from 4 a.lists n.lists t₉ h.lists) same_kind

  module _ (b : Below (cell_counts (part_rows a t₄ [] t₆ [] [] t₉ []) (row_at node_width n.nodes t₃) n) a) where
    after : Below (node_counts (n.lists + length ls) (end_of n.keys ls) kinds) a
    after = subst (λ (x : Counts). Below x a) parts b

    pub kind-below : Below (kind_counts (part_rows a t₄ [] t₆ [] [] [] []) n (get_or t₃ (node_width * n.nodes + 13) 0 ∷ 0 ∷ count ∷ [])) a
    unfolding node_counts
    kind-below =
        let k = kind-keeps (part_rows a t₄ [] t₆ [] [] [] []) n (get_or t₃ (node_width * n.nodes + 13) 0 ∷ 0 ∷ count ∷ []) in
        record {
          nodes = omega (arith, after.nodes);
          meshes = after.meshes;
          vertices = after.vertices;
          sets = after.sets;
          triangles = after.triangles;
          weights = after.weights;
          lists = omega (arith, k.lists, h.lists);
          keys = omega (arith, k.keys, h.keys);
        }

    module _ (end : ℕ) (m : MineTo n.nodes n.lists a.lists t₉ end) where
      mine_is : ls ≡ rows_at 4 n.lists (end - n.lists) t₉
      mine_is = m.is

      pub keys-low : Limited a → end_of n.keys (rows_at 4 n.lists (end - n.lists) t₉) ≤ 0xFFFFFFFF
      unfolding node_counts
      keys-low l = rw (← mine_is) (omega (arith, after.keys, l.keys))

      module _ (k : Counts) (ek : k ≡ kind_counts (part_rows a t₄ [] t₆ [] [] [] []) n (get_or t₃ (node_width * n.nodes + 13) 0 ∷ 0 ∷ count ∷ [])) where
        pub nodes-fit : Limited a → Fits w64 (k.nodes + 1)
        unfolding node_counts
        nodes-fit l = record { fits = rw ek (omega (arith, after.nodes, l.nodes)) }

        pub node-count : (keys : ℕ) → keys ≡ end_of n.keys (rows_at 4 n.lists (end - n.lists) t₉) → (x : Counts)
            → x ≡ record { nodes = k.nodes + 1; meshes = k.meshes; vertices = k.vertices; sets = k.sets; triangles = k.triangles; weights = k.weights; lists = end; keys = keys }
            → x ≡ cell_counts (part_rows a t₄ [] t₆ [] [] t₉ []) (row_at node_width n.nodes t₃) n
        unfolding node_counts
        node-count keys e x q =
            let d : end ≡ n.lists + length ls = rw (mine_is, rows-length 4 n.lists (end - n.lists) t₉) (omega (arith, m.low)) in
            let f : keys ≡ end_of n.keys ls = e ∙ ap (end_of n.keys) (sym mine_is) in
            q ∙ (λ i. node_counts (d i) (f i) (ek i)) ∙ sym parts

pub ruleset after_laws = (kind-below, keys-low, nodes-fit, node-count)
