-- The counts after a node, from its cells, are those of the node where its rows are sound; and so is what it says of bones.
use mathlib.Core.Path.{◌≡◌, refl, ap, ap₂, sym, ◌∙◌}
use Prim.Native.Nat.{ℕ, ◌+◌, ◌-◌}
use native.Mathlib.Nat.{add-zero}
use native.Mathlib.Omega.{arith}
use mathlib.Core.Bool.{Bool, true, false}
use mathlib.Core.Option.{none, some}
use mathlib.Core.List.{List, []}
use lib.ListN.{length, take, drop, get_or}
use lib.Seq.{get_or-drop, get_or-take}
use lib.Dec.{eqb}
use Rattle.wire.specs.Test.{if}
use Rattle.b3d_spec.specs.Rebuild.{sets_from, mesh_from, owned_by, keys_from, anim_from, Rows, kind_from, data_from}
use Rattle.b3d_spec.specs.Rules.{own_vertices, animated, bone_limit_from, bone_limit_below}
use Rattle.b3d_spec.specs.Scene.{Kind, pivot, mesh, bone, no_anim, anim}
use Rattle.b3d_spec.specs.Tables.{start, meshes_of, weights_of, kind_cells, mesh_row, set_rows, key_rows, mesh_rows, with_meshes, with_node}
use Rattle.b3d_spec.specs.declared.Counts.{Counts}
use Rattle.b3d_spec.proofs.Rows.RowPartLaws.{sets-length}
use Rattle.b3d_check_spec.specs.CellCounts.{end_of, mesh_counts, weight_counts, kind_counts, node_counts, cell_counts, cell_bone_limit}
use Rattle.b3d_check_spec.proofs.Check.TestLaws.{if-both}
use Rattle.b3d_check_spec.proofs.Check.RowLaws.{begins-take}
use Rattle.b3d_check_spec.proofs.Check.GroupLaws.{runs_length, runs_end, sets_run, sets_law, lists_run, lists_law}
use Rattle.b3d_check_spec.proofs.Check.KindLaws.{KindIs, three-from, first-from}
use Rattle.b3d_check_spec.proofs.Check.NodeLaws.{NodeIs, node-from}

-- a kind's share of withNode
with_kind : Kind → Counts → Counts
with_kind k n = weight_counts (length (weights_of k)) (with_meshes (meshes_of k) n)

zero-weights : (n : Counts) → weight_counts 0 n ≡ n
unfolding weight_counts
zero-weights n = rw (add-zero n.weights)

same_rest : (k : Kind) (n : Counts) → ((with_meshes (meshes_of k) n).lists ≡ n.lists) × ((with_meshes (meshes_of k) n).keys ≡ n.keys)
unfolding with_meshes meshes_of
same_rest pivot n = (refl, refl)
same_rest (mesh m) n = (refl, refl)
same_rest (bone ws) n = (refl, refl)

module _ (b c : ℕ) (R : Rows) (n : Counts) (y : List ℕ) where
  abbrev x : List ℕ
  x = get_or (drop n.meshes (R 4)) 0 []

  abbrev ss : List (List ℕ)
  ss = drop n.sets (R 6)

  -- the mesh's row is the first that is left
  mesh-row : (vs ts : List (List ℕ)) → KindIs b c R n y (mesh (mesh_from x vs ss ts)) → mesh_row (mesh_from x vs ss ts) n ≡ x
  unfolding mesh_rows meshes_of if
  mesh-row vs ts h = (first-from _ (drop n.meshes (R 4)) h.2).1

  mesh-counts : (vs ts : List (List ℕ)) → KindIs b c R n y (mesh (mesh_from x vs ss ts)) → with_kind (mesh (mesh_from x vs ss ts)) n ≡ mesh_counts x ss n
  unfolding with_kind weights_of meshes_of with_meshes mesh_counts mesh_rows if mesh_from mesh_row weight_counts
  mesh-counts vs ts h =
      let k = get_or x 8 0 in
      let m = mesh_from x vs ss ts in
      let S = sets_from (take k ss) ts in
      let e : mesh_row m n ≡ x = mesh-row vs ts h in
      let lv : length m.vertices ≡ get_or x 6 0 = ap (λ (z : List ℕ). get_or z 6 0) e in
      let ls : length S ≡ k = ap (λ (z : List ℕ). get_or z 8 0) e in
      let es : set_rows n.meshes n.triangles S ≡ take k ss = begins-take (set_rows n.meshes n.triangles S) ss k (sets-length n.meshes n.triangles S ∙ ls) h.4 in
      let et = runs_end sets_run sets_law n.meshes n.triangles (take k ss) ts es in
      cc (add-zero n.weights)

  kind-counts : KindIs b c R n y (kind_from R n (get_or y 0 0) (get_or y 2 0)) → with_kind (kind_from R n (get_or y 0 0) (get_or y 2 0)) n ≡ kind_counts R n y
  unfolding kind_from kind_counts with_kind weights_of meshes_of with_meshes kind_cells
  kind-counts =
      let is : Kind → Counts → Type 0 = λ k a. KindIs b c R n y k → with_kind k n ≡ a in
      if-both is (eqb (get_or y 0 0) 1) _ _ _ _ (λ t h. mesh-counts _ _ h)
      (λ t. if-both is (eqb (get_or y 0 0) 2) _ _ _ _ (λ u h. ap (λ (k : ℕ). weight_counts k n) (sym (three-from _ y h.0 2 (omega arith)))) (λ u h. zero-weights n))

-- ---- bones

-- the vertices of a node's own mesh are those that it adds
own-more : (k : Kind) (n : Counts) → (with_meshes (meshes_of k) n).vertices ≡ n.vertices + own_vertices k
unfolding with_meshes meshes_of
own-more pivot n = omega arith
own-more (mesh m) n = refl
own-more (bone ws) n = omega arith

anim-there : (c : Bool) (ws : List ℕ) → animated (if c (anim ws) no_anim) ≡ c
unfolding if
anim-there true ws = refl
anim-there false ws = refl

bones-if : (told own : ℕ) (c : Bool) → bone_limit_from (some told) c own ≡ some (if c own told)
unfolding if
bones-if told own true = refl
bones-if told own false = refl

-- where node row x and all that is its own are sound
module _ (ns : List ℕ) (b c : ℕ) (R : Rows) (x : List ℕ) (n : Counts) (here : NodeIs ns b c R x n (data_from ns R x n)) where
  pub cell-counts : with_node (data_from ns R x n) n ≡ cell_counts R x n
  unfolding with_node data_from cell_counts node_counts with_kind weight_counts
  cell-counts =
      let p = node-from ns b c R x n here in
      let y = drop 13 x in
      let k = kind_from R n (get_or y 0 0) (get_or y 2 0) in
      let ls = owned_by n.nodes (drop n.lists (R 9)) in
      let ks = drop n.keys (R 10) in
      let s = same_rest k n in
      let e : with_kind k n ≡ kind_counts R n y = kind-counts b c R n y p.1.0 in
      let el : (with_meshes (meshes_of k) n).lists + length (keys_from ls ks) ≡ n.lists + length ls = ap₂ ◌+◌ s.0 (runs_length lists_run lists_law ls ks) in
      let ek : (with_meshes (meshes_of k) n).keys + length (key_rows (keys_from ls ks)) ≡ end_of n.keys ls =
      ap (λ (j : ℕ). j + length (key_rows (keys_from ls ks))) s.1 ∙ runs_end lists_run lists_law n.nodes n.keys ls ks p.1.1.0.0 in
      λ i. node_counts (el i) (ek i) (e i)

  own-cells : own_vertices (data_from ns R x n).kind ≡ (cell_counts R x n).vertices - n.vertices
  unfolding with_node
  own-cells =
      let e : (with_node (data_from ns R x n) n).vertices ≡ (cell_counts R x n).vertices = ap (λ (m : Counts). m.vertices) cell-counts in
      omega (arith, own-more (data_from ns R x n).kind n)

  -- what this node says of bones, where it was told so many vertices
  pub cell_bones : (told : ℕ) → bone_limit_below (some told) (data_from ns R x n) ≡ some (cell_bone_limit told R x n)
  unfolding data_from anim_from cell_bone_limit
  cell_bones told =
      let c : animated (data_from ns R x n).anim ≡ eqb (get_or x 16 0) 1 =
      anim-there (eqb (get_or (take 4 (drop 3 (drop 13 x))) 0 0) 1) _ ∙ ap (λ (z : ℕ). eqb z 1) (get_or-take 4 (drop 3 (drop 13 x)) 0 0 (omega arith) ∙ get_or-drop 3 (drop 13 x) 0 0 ∙ get_or-drop 13 x 3 0) in
      ap₂ (bone_limit_from (some told)) c own-cells ∙ bones-if told ((cell_counts R x n).vertices - n.vertices) (eqb (get_or x 16 0) 1)

-- what the root says
pub root-bones : (ns : List ℕ) (b c : ℕ) (R : Rows) (x : List ℕ) → NodeIs ns b c R x start (data_from ns R x start) → bone_limit_below none (data_from ns R x start) ≡ some (cell_counts R x start).vertices
unfolding start
root-bones ns b c R x h = let e : (cell_counts R x start).vertices - 0 ≡ (cell_counts R x start).vertices = omega arith in ap some (own-cells ns b c R x start h ∙ e)
