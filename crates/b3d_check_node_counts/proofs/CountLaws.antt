-- The counts after a node, as code has them from its cells.
use mathlib.Core.Path.{◌≡◌, ap, sym, ◌∙◌}
use Prim.Native.Nat.{ℕ, ◌+◌, ◌-◌, ◌*◌, ◌≤◌, ◌<◌}
use native.Mathlib.Omega.{arith}
use mathlib.Core.List.{List, [], ◌∷◌}
use lib.ListN.{take, drop, get_or}
use borrow.Author.Tests.{ne_eqb}
use mir.Syntax.{w64}
use mir.Val.{Fits}
use Rattle.wire.specs.Test.{if}
use Rattle.b3d_spec.specs.declared.Counts.{Counts}
use Rattle.b3d_check_spec.specs.CellCounts.{end_of, mesh_counts, weight_counts, kind_counts}
use Rattle.b3d_check_rows.specs.Rows.{row_at, rows_at}
use Rattle.b3d_check_rows.proofs.RowCellLaws.{row_cell, rows-from, rows-first, rows_take}
use Rattle.b3d_check_spec.specs.Rooms.{Limited}
use Rattle.b3d_check_node_counts.specs.Parts.{part_rows, Below, MeshEnds}

-- ---- a mesh

pub mesh-count : (n a : Counts) (t₄ t₆ : List ℕ) → MeshEnds n a t₄ t₆ → (v s e : ℕ)
    → v ≡ get_or t₄ (9 * n.meshes + 6) 0 → s ≡ get_or t₄ (9 * n.meshes + 8) 0 → e ≡ end_of n.triangles (rows_at 4 n.sets s t₆)
    → (x : Counts)
    → x ≡ record { nodes = n.nodes; meshes = n.meshes + 1; vertices = n.vertices + v; sets = n.sets + s; triangles = e; weights = n.weights; lists = n.lists; keys = n.keys }
    → x ≡ mesh_counts (row_at 9 n.meshes t₄) (rows_at 4 n.sets (a.sets - n.sets) t₆) n
unfolding mesh_counts
mesh-count n a t₄ t₆ h v s e ev es ee x q =
    let l : s ≤ a.sets - n.sets = omega (arith, h.sets) in
    q ∙ rw (row_cell 9 n.meshes 6 t₄ (omega arith), row_cell 9 n.meshes 8 t₄ (omega arith), ← ev, ← es, rows_take 4 n.sets s (a.sets - n.sets) t₆ l, ee)

pub end_low : (n a : Counts) (t₄ t₆ : List ℕ) → MeshEnds n a t₄ t₆ → Limited a → (s : ℕ) → s ≡ get_or t₄ (9 * n.meshes + 8) 0 → end_of n.triangles (rows_at 4 n.sets s t₆) ≤ 0xFFFFFFFF
end_low n a t₄ t₆ h l s e = rw e (omega (arith, h.triangles, l.triangles))

-- ---- a kind

module _ (n a : Counts) (k c : ℕ) (t₄ t₆ : List ℕ) (h : Below n a) where
  abbrev after : Counts
  after = kind_counts (part_rows a t₄ [] t₆ [] [] [] []) n (k ∷ 0 ∷ c ∷ [])

  module _ (e : k ≡ 1) (b : Below (kind_counts (part_rows a t₄ [] t₆ [] [] [] []) n (k ∷ 0 ∷ c ∷ [])) a) where
    -- the row is there, so its cells are those of the table
    is : after ≡ mesh_counts (get_or (drop n.meshes (part_rows a t₄ [] t₆ [] [] [] [] 4)) 0 []) (drop n.sets (part_rows a t₄ [] t₆ [] [] [] [] 6)) n
    unfolding kind_counts if
    is = rw e

    one : n.meshes < a.meshes
    unfolding mesh_counts
    one = let l = ap (λ (x : Counts). x.meshes) is in omega (arith, b.meshes)

    pub kind-mesh-is : after ≡ mesh_counts (row_at 9 n.meshes t₄) (rows_at 4 n.sets (a.sets - n.sets) t₆) n
    unfolding part_rows if
    kind-mesh-is = is ∙ rw (rows-first 9 a.meshes n.meshes t₄ one, rows-from 4 a.sets n.sets t₆ h.sets)

    pub kind-mesh-ends : MeshEnds n a t₄ t₆
    unfolding mesh_counts
    kind-mesh-ends =
        let i = n.meshes in
        let v = ap (λ (x : Counts). x.vertices) kind-mesh-is ∙ ap (λ (j : ℕ). n.vertices + j) (row_cell 9 i 6 t₄ (omega arith)) in
        let s = ap (λ (x : Counts). x.sets) kind-mesh-is ∙ ap (λ (j : ℕ). n.sets + j) (row_cell 9 i 8 t₄ (omega arith)) in
        let c₈ = get_or t₄ (9 * i + 8) 0 in
        let l : c₈ ≤ a.sets - n.sets = omega (arith, b.sets, s) in
        let t = ap (λ (x : Counts). x.triangles) kind-mesh-is ∙ ap (λ (j : ℕ). end_of n.triangles (take j (rows_at 4 n.sets (a.sets - n.sets) t₆))) (row_cell 9 i 8 t₄ (omega arith))
        ∙ ap (end_of n.triangles) (rows_take 4 n.sets c₈ (a.sets - n.sets) t₆ l) in
        record { one = one; vertices = omega (arith, b.vertices, v); sets = omega (arith, b.sets, s); triangles = omega (arith, b.triangles, t) }

    pub kind-mesh-count : (x : Counts) → x ≡ mesh_counts (row_at 9 n.meshes t₄) (rows_at 4 n.sets (a.sets - n.sets) t₆) n → x ≡ kind_counts (part_rows a t₄ [] t₆ [] [] [] []) n (k ∷ 0 ∷ c ∷ [])
    kind-mesh-count x q = q ∙ sym kind-mesh-is

  module _ (e : k ≡ 2) where
    bone-is : after ≡ weight_counts c n
    unfolding kind_counts if
    bone-is = rw e

    pub kind-bone-fits : Below (kind_counts (part_rows a t₄ [] t₆ [] [] [] []) n (k ∷ 0 ∷ c ∷ [])) a → Limited a → Fits w64 (n.weights + c)
    unfolding weight_counts
    kind-bone-fits b l = let w = ap (λ (x : Counts). x.weights) bone-is in record { fits = omega (arith, b.weights, l.weights) }

    pub kind-bone-count : (x : Counts)
        → x ≡ record { nodes = n.nodes; meshes = n.meshes; vertices = n.vertices; sets = n.sets; triangles = n.triangles; weights = n.weights + c; lists = n.lists; keys = n.keys }
        → x ≡ kind_counts (part_rows a t₄ [] t₆ [] [] [] []) n (k ∷ 0 ∷ c ∷ [])
    unfolding weight_counts
    kind-bone-count x q = q ∙ sym bone-is

pub kind-none-count : (n a : Counts) (k c : ℕ) (t₄ t₆ : List ℕ) → (k ≡ 1 → ⊥) → (k ≡ 2 → ⊥) → n ≡ kind_counts (part_rows a t₄ [] t₆ [] [] [] []) n (k ∷ 0 ∷ c ∷ [])
unfolding kind_counts if
kind-none-count n a k c t₄ t₆ g h = rw (ne_eqb k 1 g, ne_eqb k 2 h)

pub ruleset kind-counted = (kind-mesh-ends, kind-mesh-count, kind-bone-fits, kind-bone-count, kind-none-count)
