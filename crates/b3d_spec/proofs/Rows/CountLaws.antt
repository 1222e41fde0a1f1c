-- The row counts of a scene are the running counts at its end, and the words of table k are its rows' width times their number.
use mathlib.Core.Path.{◌≡◌, refl, ap, ap₂, sym, ◌∙◌}
use Prim.Native.Nat.{ℕ, ◌+◌, ◌*◌}
use native.Mathlib.Nat.{add-zero, zero-add}
use native.Mathlib.Omega.{arith}
use mathlib.Core.List.{[], ◌∷◌, ◌++◌}
use lib.ListN.{length, length-append, length-map}
use Rattle.wire.specs.Test.{if}
use Rattle.layout.specs.Rules.{NONE}
use Rattle.layout.proofs.AllLaws.{All, all_pure, all_map, all-zip}
use Rattle.b3d_spec.specs.Scene.{Forest, no_nodes, node, Scene}
use Rattle.b3d_spec.specs.Tables.{width, start, reached, node_tables, own_rows, texture_row, brush_row, with_node, with_forest, forest_rows, rows, table, tables, counts, nodes_in}
use Rattle.b3d_spec.specs.declared.Counts.{Counts}
use Rattle.b3d_spec.proofs.WellFormedLaws.{WellFormed}
use Rattle.b3d_spec.proofs.Rows.NodeRowLaws.{Step, steps}
use Rattle.b3d_spec.proofs.Rows.RebuildLaws.{rows-wide}
use Rattle.b3d_spec.proofs.Rows.RowListLaws.{words-length}
use Rattle.b3d_spec.proofs.Rows.RowPartLaws.{Wide}

-- table k's count after a forest
abbrev pub Rise : Forest → ℕ → Counts → ℕ → Type 0
Rise t p n k = reached k (with_forest t n) ≡ reached k n + length (forest_rows k t p n)

pub rises : (t : Forest) (p : ℕ) (n : Counts) → All (Rise t p n) node_tables
unfolding with_forest forest_rows
rises no_nodes p n = all_pure _ (λ k. sym (add-zero (reached k n))) node_tables
rises (node d ch sib) p n =
    let m = with_node d n in
    let q = with_forest ch m in
    all-zip (Step d p (nodes_in ch) n) (λ k. Rise ch n.nodes m k × Rise sib p q k) _
    (λ k s r.
    let e₁ = length-append (own_rows k d p (nodes_in ch) n) (forest_rows k ch n.nodes m ++ forest_rows k sib p q) in
    let e₂ = length-append (forest_rows k ch n.nodes m) (forest_rows k sib p q) in
    omega (arith, e₁, e₂, r.0, r.1, s))
    node_tables (steps d p (nodes_in ch) n)
    (all-zip (Rise ch n.nodes m) (Rise sib p q) _ (λ k a b. (a, b)) node_tables (rises ch n.nodes m) (rises sib p q))

-- the ten counts
pub counts_are : (t : Scene) (n : Counts) → n ≡ with_forest t.nodes start
    → counts t ≡ length t.textures ∷ length t.brushes ∷ n.nodes ∷ n.meshes ∷ n.vertices ∷ n.sets ∷ n.triangles ∷ n.weights ∷ n.lists ∷ n.keys ∷ []
unfolding counts tables node_tables rows if reached start
counts_are t n e =
    let r = rises t.nodes NONE start in
    let c : (k : ℕ) → 0 + length (forest_rows k t.nodes NONE start) ≡ length (forest_rows k t.nodes NONE start) = λ k. zero-add _ in
    let z : with_forest t.nodes start ≡ n = sym e in
    let o : (f : Counts → ℕ) (k : ℕ) → f (with_forest t.nodes start) ≡ 0 + length (forest_rows k t.nodes NONE start) → length (forest_rows k t.nodes NONE start) ≡ f n =
    λ f k h. sym (c k) ∙ sym h ∙ ap f z in
    ap₂ ◌∷◌ (length-map t.textures texture_row) (ap₂ ◌∷◌ (length-map t.brushes brush_row)
    (ap₂ ◌∷◌ (o (λ x. x.nodes) 3 r.0) (ap₂ ◌∷◌ (o (λ x. x.meshes) 4 r.1.0) (ap₂ ◌∷◌ (o (λ x. x.vertices) 5 r.1.1.0)
    (ap₂ ◌∷◌ (o (λ x. x.sets) 6 r.1.1.1.0) (ap₂ ◌∷◌ (o (λ x. x.triangles) 7 r.1.1.1.1.0) (ap₂ ◌∷◌ (o (λ x. x.weights) 8 r.1.1.1.1.1.0)
    (ap₂ ◌∷◌ (o (λ x. x.lists) 9 r.1.1.1.1.1.1.0) (ap₂ ◌∷◌ (o (λ x. x.keys) 10 r.1.1.1.1.1.1.1.0) refl)))))))))

pub table_length : (t : Scene) → WellFormed t → All (λ k. length (table k t) ≡ width k * length (rows k t)) tables
unfolding table
table_length t f = all_map (λ k. All (Wide (width k)) (rows k t)) _ (λ k h. words-length (width k) (rows k t) h) tables (rows-wide t f)

pub same_counts : (a b : Counts) → a.nodes ≡ b.nodes → a.meshes ≡ b.meshes → a.vertices ≡ b.vertices → a.sets ≡ b.sets → a.triangles ≡ b.triangles → a.weights ≡ b.weights → a.lists ≡ b.lists → a.keys ≡ b.keys → a ≡ b
same_counts a b e₁ e₂ e₃ e₄ e₅ e₆ e₇ e₈ = λ i. record { nodes = e₁ i; meshes = e₂ i; vertices = e₃ i; sets = e₄ i; triangles = e₅ i; weights = e₆ i; lists = e₇ i; keys = e₈ i }
