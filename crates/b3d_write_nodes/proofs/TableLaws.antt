-- Tables of just the rows that are counted: their rows, the row of a node, and that what a node names is there.
use mathlib.Core.Path.{◌≡◌, ap, sym, ◌∙◌, subst}
use Prim.Native.Nat.{ℕ, zero, suc, ◌+◌, ◌*◌, ◌/◌, ◌<◌, ◌≤◌}
use native.Mathlib.Nat.{mul-div_cancel, mul_comm}
use native.Mathlib.Omega.{arith}
use mathlib.Core.List.{List, []}
use lib.ListN.{length, take, drop, get_or}
use lib.Seq.{get_or-take, get_or-drop, drop-drop}
use borrow.Author.Tests.{eq-eqb}
use Rattle.wire.specs.Test.{if}
use Rattle.b3d_spec.specs.declared.Counts.{Counts}
use Rattle.b3d_spec.specs.Rebuild.{Rows, cut, owned_by}
use Rattle.b3d_spec.specs.Tables.{reached, node_tables, node_width}
use Rattle.b3d_spec.proofs.Rows.RowListLaws.{cut-length}
use Rattle.b3d_check_spec.specs.CellCounts.{end_of, mesh_counts, weight_counts, kind_counts, node_counts, cell_counts}
use Rattle.b3d_check_spec.proofs.PlaceLaws.{cut_cell}
use Rattle.b3d_check_rows.specs.Rows.{row_at}
use Rattle.b3d_check_spec.specs.Rooms.{Limited}
use Rattle.b3d_check_node_counts.specs.Parts.{part_rows, Below}
use Rattle.b3d_write_row_runs.specs.Lent.{rows_in}
use Rattle.b3d_write_mesh.specs.Mesh.{MeshThere}
use Rattle.b3d_write_animation.specs.Animation.{MovesThere}
use Rattle.b3d_write_node.specs.Own.{table_rows, KindThere, OwnThere}
use Rattle.b3d_write_nodes.specs.Walk.{TablesSized, There}

-- ---- rows

pub quotient : (w c n : ℕ) → 0 < w → n ≡ w * c → n / w ≡ c
quotient w c n h e = ap (λ (m : ℕ). m / w) (e ∙ mul_comm w c) ∙ mul-div_cancel c h

rows_are : (w c : ℕ) (ws : List ℕ) → 0 < w → length ws ≡ w * c → rows_in w ws ≡ cut w c ws
unfolding rows_in
rows_are w c ws h e = ap (λ (n : ℕ). cut w n ws) (quotient w c (length ws) h e)

row_is : (w c i : ℕ) (ws : List ℕ) → i < c → get_or (cut w c ws) i [] ≡ take w (drop (w * i) ws)
unfolding cut
row_is w zero i ws h = absurd (omega arith)
row_is w (suc c) zero ws h = let e : w * 0 ≡ 0 = omega arith in rw e
row_is w (suc c) (suc i) ws h =
    let e : w * suc i ≡ w + w * i = omega arith in
    rw (e, ← drop-drop (w * i) w ws) (row_is w c i (drop w ws) (omega arith))

-- cell j of row i
row_cell : (w i j : ℕ) (ws : List ℕ) → j < w → get_or (take w (drop (w * i) ws)) j 0 ≡ get_or ws (w * i + j) 0
row_cell w i j ws h = get_or-take w (drop (w * i) ws) j 0 h ∙ get_or-drop (w * i) ws j 0

-- the first of the rows from i on is row i
pub first_of : (i : ℕ) (l : List (List ℕ)) → get_or (drop i l) 0 [] ≡ get_or l i []
first_of i l = let e : i + 0 ≡ i = omega arith in rw (get_or-drop i l 0 [], e)

module _ (a : Counts) (t₃ t₄ t₅ t₆ t₇ t₈ t₉ t₁₀ : List ℕ) (z : TablesSized a t₃ t₄ t₅ t₆ t₇ t₈ t₉ t₁₀) where
  abbrev R : Rows
  R = table_rows t₃ t₄ t₅ t₆ t₇ t₈ t₉ t₁₀

  pub limited : Limited a
  limited = z.limited

  -- the rows of each table
  pub rows_3 : R 3 ≡ cut node_width a.nodes t₃
  unfolding table_rows if
  rows_3 = rows_are node_width a.nodes t₃ (omega arith) z.nodes

  rows_4 : R 4 ≡ cut 9 a.meshes t₄
  unfolding table_rows if
  rows_4 = rows_are 9 a.meshes t₄ (omega arith) z.meshes

  rows_6 : R 6 ≡ cut 4 a.sets t₆
  unfolding table_rows if
  rows_6 = rows_are 4 a.sets t₆ (omega arith) z.sets

  rows_9 : R 9 ≡ cut 4 a.lists t₉
  unfolding table_rows if
  rows_9 = rows_are 4 a.lists t₉ (omega arith) z.lists

  -- no count of n passes those of a
  pub below_all : (n : Counts) → There R n → Below n a
  unfolding node_tables reached table_rows rows_in if
  below_all n h =
      let c : (w c : ℕ) (ws : List ℕ) → 0 < w → length ws ≡ w * c → length (cut w (length ws / w) ws) ≡ c = λ w c ws p e. cut-length w (length ws / w) ws ∙ quotient w c (length ws) p e in
      let r = h.1.1.1.1 in
      record {
        nodes = omega (arith, h.0, c node_width a.nodes t₃ (omega arith) z.nodes);
        meshes = omega (arith, h.1.0, c 9 a.meshes t₄ (omega arith) z.meshes);
        vertices = omega (arith, h.1.1.0, c 42 a.vertices t₅ (omega arith) z.vertices);
        sets = omega (arith, h.1.1.1.0, c 4 a.sets t₆ (omega arith) z.sets);
        triangles = omega (arith, r.0, c 3 a.triangles t₇ (omega arith) z.triangles);
        weights = omega (arith, r.1.0, c 2 a.weights t₈ (omega arith) z.weights);
        lists = omega (arith, r.1.1.0, c 4 a.lists t₉ (omega arith) z.lists);
        keys = omega (arith, r.1.1.1.0, c 11 a.keys t₁₀ (omega arith) z.keys);
      }

  module _ (n : Counts) (x : List ℕ) (lt : n.nodes < a.nodes) (ex : get_or (R 3) n.nodes [] ≡ x) where
    -- the row of the node after n rows
    pub row-at : row_at node_width n.nodes t₃ ≡ x
    unfolding row_at
    row-at = sym (row_is node_width a.nodes n.nodes t₃ lt) ∙ ap (λ (l : List (List ℕ)). get_or l n.nodes []) (sym rows_3) ∙ ex

    cell_at : (j : ℕ) → j < node_width → get_or x j 0 ≡ get_or t₃ (node_width * n.nodes + j) 0
    unfolding row_at
    cell_at j h = ap (λ (l : List ℕ). get_or l j 0) (sym row-at) ∙ row_cell node_width n.nodes j t₃ h

    -- the counts after it depend on the tables 3, 4, 6 and 9 alone
    pub counts_same : cell_counts (part_rows a t₄ [] t₆ [] [] t₉ []) (row_at node_width n.nodes t₃) n ≡ cell_counts R x n
    unfolding cell_counts kind_counts part_rows if
    counts_same = rw (row-at, rows_4, rows_6, rows_9)

    -- where the counts after the node do not pass those of a, all that it names is there
    module _ (h : Below n a) (b : Below (cell_counts R x n) a) where
      kind_cell : (j : ℕ) → j < 7 → get_or (drop 13 x) j 0 ≡ get_or t₃ (node_width * n.nodes + (13 + j)) 0
      kind_cell j l = get_or-drop 13 x j 0 ∙ cell_at (13 + j) (omega arith)

      module _ (e : get_or t₃ (node_width * n.nodes + 13) 0 ≡ 1) where
        abbrev mesh : List ℕ
        mesh = get_or (drop n.meshes (R 4)) 0 []

        after-mesh : cell_counts R x n ≡ node_counts (n.lists + length (owned_by n.nodes (drop n.lists (R 9)))) (end_of n.keys (owned_by n.nodes (drop n.lists (R 9)))) (mesh_counts mesh (drop n.sets (R 6)) n)
        unfolding cell_counts kind_counts if
        after-mesh = rw (eq-eqb (get_or (drop 13 x) 0 0) 1 (kind_cell 0 (omega arith) ∙ e))

        mesh-below : Below (node_counts (n.lists + length (owned_by n.nodes (drop n.lists (R 9)))) (end_of n.keys (owned_by n.nodes (drop n.lists (R 9)))) (mesh_counts mesh (drop n.sets (R 6)) n)) a
        mesh-below = subst (λ (c : Counts). Below c a) after-mesh b

        one-mesh : n.meshes < a.meshes
        unfolding node_counts mesh_counts
        one-mesh = omega (arith, mesh-below.meshes)

        mesh_cell : (j : ℕ) → j < 9 → get_or mesh j 0 ≡ get_or t₄ (9 * n.meshes + j) 0
        mesh_cell j l =
            ap (λ (r : List ℕ). get_or r j 0) (first_of n.meshes (R 4) ∙ ap (λ (q : List (List ℕ)). get_or q n.meshes []) rows_4)
            ∙ cut_cell 9 a.meshes n.meshes j t₄ one-mesh l

        pub mesh-there : MeshThere t₄ (9 * n.meshes) t₅ n.vertices t₆ n.sets t₇ n.triangles
        unfolding node_counts mesh_counts table_rows if
        mesh-there = record {
          row = omega (arith, one-mesh, z.meshes);
          vertices = omega (arith, mesh-below.vertices, mesh_cell 6 (omega arith), quotient 42 a.vertices (length t₅) (omega arith) z.vertices);
          sets = omega (arith, mesh-below.sets, mesh_cell 8 (omega arith), quotient 4 a.sets (length t₆) (omega arith) z.sets);
          triangles = rw (quotient 3 a.triangles (length t₇) (omega arith) z.triangles, ← mesh_cell 8 (omega arith)) mesh-below.triangles;
        }

      module _ (e : get_or t₃ (node_width * n.nodes + 13) 0 ≡ 2) where
        after-bone : cell_counts R x n ≡ node_counts (n.lists + length (owned_by n.nodes (drop n.lists (R 9)))) (end_of n.keys (owned_by n.nodes (drop n.lists (R 9)))) (weight_counts (get_or (drop 13 x) 2 0) n)
        unfolding cell_counts kind_counts if
        after-bone = rw (kind_cell 0 (omega arith) ∙ e)

        bone-there : n.weights + get_or t₃ (node_width * n.nodes + 15) 0 ≤ length t₈ / 2
        unfolding node_counts weight_counts
        bone-there =
            let q = subst (λ (c : Counts). Below c a) after-bone b in
            omega (arith, q.weights, kind_cell 2 (omega arith), quotient 2 a.weights (length t₈) (omega arith) z.weights)

      pub kind-there : KindThere t₄ t₅ t₆ t₇ t₈ n (get_or t₃ (node_width * n.nodes + 13) 0) (get_or t₃ (node_width * n.nodes + 15) 0)
      kind-there = record { mesh = mesh-there; bone = bone-there }

      pub moves-there : MovesThere t₉ t₁₀ n
      unfolding cell_counts node_counts table_rows if
      moves-there = record {
        lists = omega (arith, h.lists, quotient 4 a.lists (length t₉) (omega arith) z.lists);
        keys = rw (quotient 11 a.keys (length t₁₀) (omega arith) z.keys) b.keys;
      }

      pub own-there : (ns : List ℕ) → get_or x 0 0 + get_or x 1 0 ≤ length ns → OwnThere ns t₃ t₄ t₅ t₆ t₇ t₈ t₉ t₁₀ n
      own-there ns l = record {
        row = omega (arith, quotient node_width a.nodes (length t₃) (omega arith) z.nodes);
        name = record {
          there =
              let e : node_width * n.nodes + 0 ≡ node_width * n.nodes = omega arith in
              omega (arith, cell_at 0 (omega arith) ∙ ap (λ (i : ℕ). get_or t₃ i 0) e, cell_at 1 (omega arith));
        };
        kind = kind-there;
        moves = moves-there;
      }
