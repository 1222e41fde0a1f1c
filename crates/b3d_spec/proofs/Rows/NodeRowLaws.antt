-- A node's own rows in all tables: how wide and how many they are, and that the node comes back from them.
use mathlib.Core.Path.{◌≡◌, refl, ap, ap₂, sym}
use Prim.Native.Nat.{ℕ, suc, ◌+◌}
use native.Mathlib.Omega.{arith}
use native.Mathlib.Nat.{add-zero}
use mathlib.Core.List.{List, [], ◌∷◌, ◌++◌}
use lib.ListN.{length, take, drop, get_or}
use lib.Seq.{take-append_seam, take_at, drop_at}
use Rattle.wire.specs.Test.{if}
use Rattle.layout.proofs.AllLaws.{All, all_map}
pub use Rattle.b3d_spec.specs.Rebuild.{From}
use Rattle.b3d_spec.specs.Rebuild.{Rows, name_from, owned_by, keys_from, anim_from, kind_from, data_from}
use Rattle.b3d_spec.specs.Scene.{Mesh, Kind, pivot, mesh, bone, Data}
use Rattle.b3d_spec.specs.Tables.{width, reached, node_tables, meshes_of, weights_of, kind_cells, anim_cells, node_row, mesh_row, list_rows, key_rows, mesh_rows, own_rows, with_meshes, with_node}
use Rattle.b3d_spec.specs.declared.Counts.{Counts}
use Rattle.b3d_spec.proofs.WellFormedLaws.{FitKind, FitData}
use Rattle.b3d_spec.proofs.Rows.RowPartLaws.{Wide, Stands, Others, sets-length, sets-wide, triangles-wide, vertices-wide, vertices-length, mesh-back, lists_length, lists-wide, keys-wide, mine_back, keys-back, anim-back, anim-wide, kind-wide, node_wide}
use Rattle.b3d_spec.proofs.Rows.WordCountLaws.{any-words}
use Rattle.layout.proofs.WellFormedLaws.{Fits}
use Rattle.layout.proofs.PartLaws.{length-fits}
use Rattle.layout.specs.Rows.{name_cells}
use Rattle.b3d_spec.specs.Rules.{weight_row}

-- ---- widths

meshes-wide : (b c : ℕ) (k : Kind) (n : Counts) → FitKind b c k
    → All (Wide 9) (mesh_rows 4 (meshes_of k) n) × (All (Wide 42) (mesh_rows 5 (meshes_of k) n)
    × (All (Wide 4) (mesh_rows 6 (meshes_of k) n) × (All (Wide 3) (mesh_rows 7 (meshes_of k) n) × All (Wide 2) (weights_of k))))
unfolding mesh_rows meshes_of weights_of if mesh_row
meshes-wide b c pivot n h = (tt, (tt, (tt, (tt, tt))))
meshes-wide b c (mesh m) n h =
    ((refl, tt), (vertices-wide m, (sets-wide n.meshes n.triangles m.triangle_sets, (triangles-wide b (length m.vertices) m.triangle_sets h.triangles, tt))))
meshes-wide b c (bone ws) n h = (tt, (tt, (tt, (tt, all_map (Fits (weight_row c)) (Wide 2) (λ w f. length-fits (weight_row c) w f) ws h))))

abbrev pub OwnWide : Data → ℕ → ℕ → Counts → ℕ → Type 0
OwnWide d p below n k = All (Wide (width k)) (own_rows k d p below n)

pub own-wide : (b c : ℕ) (d : Data) (p below : ℕ) (n : Counts) → FitData b c d → All (OwnWide d p below n) node_tables
unfolding node_tables width if own_rows
own-wide b c d p below n h =
    let w = meshes-wide b c d.kind n h.kind in
    ((node_wide b c d p below n h, tt), (w.0, (w.1.0, (w.1.1.0, (w.1.1.1.0, (w.1.1.1.1, (lists-wide n.nodes n.keys d.keys, (keys-wide d.keys, tt))))))))

-- ---- counts

abbrev pub Step : Data → ℕ → ℕ → Counts → ℕ → Type 0
Step d p below n k = reached k (with_node d n) ≡ reached k n + length (own_rows k d p below n)

-- the counts after meshes ms, when n came before: only those of tables 4 to 7 rise
record Added (ms : List Mesh) (n x : Counts) : Type 0 where
  nodes : x.nodes ≡ n.nodes
  meshes : x.meshes ≡ n.meshes + length (mesh_rows 4 ms n)
  vertices : x.vertices ≡ n.vertices + length (mesh_rows 5 ms n)
  sets : x.sets ≡ n.sets + length (mesh_rows 6 ms n)
  triangles : x.triangles ≡ n.triangles + length (mesh_rows 7 ms n)
  weights : x.weights ≡ n.weights
  lists : x.lists ≡ n.lists
  keys : x.keys ≡ n.keys

added : (ms : List Mesh) (n : Counts) → Added ms n (with_meshes ms n)
unfolding with_meshes mesh_rows if
added [] n = record {
  nodes = refl;
  meshes = sym (add-zero _);
  vertices = sym (add-zero _);
  sets = sym (add-zero _);
  triangles = sym (add-zero _);
  weights = refl;
  lists = refl;
  keys = refl;
}
added (m ∷ ms) n = record {
  nodes = refl;
  meshes = refl;
  vertices = ap (λ (l : ℕ). n.vertices + l) (sym (vertices-length m));
  sets = ap (λ (l : ℕ). n.sets + l) (sym (sets-length n.meshes n.triangles m.triangle_sets));
  triangles = refl;
  weights = refl;
  lists = refl;
  keys = refl;
}

pub steps : (d : Data) (p below : ℕ) (n : Counts) → All (Step d p below n) node_tables
unfolding node_tables reached with_node own_rows if
steps d p below n =
    let w = added (meshes_of d.kind) n in
    let weights = ap (λ (x : ℕ). x + length (weights_of d.kind)) w.weights in
    let lists = ap₂ ◌+◌ w.lists (sym (lists_length n.nodes n.keys d.keys)) in
    let keys = ap (λ (x : ℕ). x + length (key_rows d.keys)) w.keys in
    (ap (λ (x : ℕ). x + 1) w.nodes, (w.meshes, (w.vertices, (w.sets, (w.triangles, (weights, (lists, (keys, tt))))))))

pub nodes-step : (d : Data) (n : Counts) → (with_node d n).nodes ≡ suc n.nodes
unfolding with_node
nodes-step d n = omega (arith, (added (meshes_of d.kind) n).nodes)

-- ---- back

kind-back : (b c : ℕ) (R S : Rows) (n : Counts) (k : Kind) → FitKind b c k
    → drop n.meshes (R 4) ≡ mesh_rows 4 (meshes_of k) n ++ S 4 → drop n.vertices (R 5) ≡ mesh_rows 5 (meshes_of k) n ++ S 5
    → drop n.sets (R 6) ≡ mesh_rows 6 (meshes_of k) n ++ S 6 → drop n.triangles (R 7) ≡ mesh_rows 7 (meshes_of k) n ++ S 7
    → drop n.weights (R 8) ≡ weights_of k ++ S 8 → (r : List ℕ)
    → kind_from R n (get_or (kind_cells k n ++ r) 0 0) (get_or (kind_cells k n ++ r) 2 0) ≡ k
unfolding mesh_rows meshes_of weights_of kind_cells kind_from if
kind-back b c R S n pivot h e4 e5 e6 e7 e8 r = refl
kind-back b c R S n (mesh m) h e4 e5 e6 e7 e8 r = rw (e4, e5, e6, e7) (ap mesh (mesh-back b m n n.meshes n.triangles (S 5) (S 6) (S 7) h))
kind-back b c R S n (bone ws) h e4 e5 e6 e7 e8 r = rw e8 (ap bone (take-append_seam ws (S 8)))

pub data_back : (ns : List ℕ) (b c : ℕ) (R S : Rows) (n : Counts) (d : Data) (p below : ℕ) → FitData b c d → Stands ns d.name
    → All (From R n (λ k. own_rows k d p below n ++ S k)) node_tables → Others n.nodes (S 9) → data_from ns R (node_row d p below n) n ≡ d
unfolding node_tables reached own_rows if data_from node_row name_cells name_from
data_back ns b c R S n d p below h s f o =
    let a = anim_cells d.anim in
    let r = a ++ (below ∷ []) in
    let y = kind_cells d.kind n ++ r in
    let ew = take_at d.words y 10 (any-words 10 d.words h.words) in
    let ey = drop_at d.words y 10 (any-words 10 d.words h.words) in
    let g = f.1.1.1.1.1 in
    let ek = kind-back b c R S n d.kind h.kind f.1.0 f.1.1.0 f.1.1.1.0 f.1.1.1.1.0 g.0 r in
    let em : owned_by n.nodes (drop n.lists (R 9)) ≡ list_rows n.nodes n.keys d.keys = rw g.1.0 (mine_back n.nodes n.keys d.keys (S 9) o) in
    let el : keys_from (owned_by n.nodes (drop n.lists (R 9))) (drop n.keys (R 10)) ≡ d.keys =
    rw (em, g.1.1.0) (keys-back n.nodes n.keys d.keys (S 10) h.keys) in
    let ed : drop 3 y ≡ r = drop_at (kind_cells d.kind n) r 3 (kind-wide d.kind n) in
    let ea : anim_from (take 4 (drop 3 (drop 10 (d.words ++ y)))) ≡ d.anim = rw (ey, ed, take_at a (below ∷ []) 4 (anim-wide d.anim h.anim)) (anim-back d.anim) in
    let e_k : kind_from R n (get_or (drop 10 (d.words ++ y)) 0 0) (get_or (drop 10 (d.words ++ y)) 2 0) ≡ d.kind = rw ey ek in
    λ i. record { name = record { place = d.name.place; bytes = s.1 i }; words = ew i; kind = e_k i; keys = el i; anim = ea i }
