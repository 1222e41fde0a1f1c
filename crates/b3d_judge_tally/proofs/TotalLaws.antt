-- What a walk over a scene adds up is the row counts of its tables and the size of its copy.
use mathlib.Core.Path.{refl, ap, sym, ◌≡◌, ◌∙◌}
use Prim.Native.Nat.{ℕ, zero, suc, ◌+◌, ◌*◌}
use native.Mathlib.Nat.{add-zero, add_assoc, suc-mul, zero-mul}
use native.Mathlib.Omega.{arith}
use mathlib.Core.List.{List, [], map, ◌∷◌}
use lib.ListN.{length, length-append, length-map}
use Rattle.layout.specs.Rules.{NONE}
use Rattle.wire.specs.Test.{if}
use Rattle.b3d_spec.specs.Scene.{Texture, Brush, TriangleSet, Kind, pivot, mesh, bone, Keys, Anim, no_anim, anim, Data, Forest, no_nodes, node, Scene}
use Rattle.b3d_spec.specs.Names.{rename_texture, rename_brush, rename_forest, no_name, rename, cleared}
use Rattle.b3d_spec.specs.Sizes.{texture_size, texs_size, brush_size, brus_size, sets_size, kind_size, keys_size, anim_size, nodes_size, size_of}
use Rattle.b3d_spec.specs.Mask.{padded, key_mask}
use Rattle.b3d_spec.specs.Tables.{start, reached, meshes_of, weights_of, texture_row, brush_row, triangle_rows, key_rows, with_meshes, with_node, with_forest, rows, node_tables}
use Rattle.b3d_spec.specs.declared.Counts.{Counts}
use Rattle.b3d_spec.specs.Answers.{copy}
use Rattle.b3d_spec.proofs.WellFormedLaws.{WellFormed}
use Rattle.b3d_spec.proofs.Files.NameLaws.{cleared-fits}
use Rattle.b3d_spec.proofs.Files.SizeLaws.{encode-size}
use Rattle.b3d_spec.proofs.Rows.CountLaws.{rises, same_counts}
use Rattle.b3d_judge_tally.specs.Tally.{no_tally, bytes_tally, texs_of, brus_of, head_tally, vertices_tally, triangles_tally, weights_tally, keys_tally, plus, list_tally, lists_tally, anim_tally, bone_tally, set_tally, sets_tally, mesh_tally, kind_tally, data_tally, forest_tally, texs_tally, brus_tally, scene_tally, tally_of}
use Rattle.b3d_judge_tally.specs.declared.Tally.{Tally}
use Rattle.b3d_judge_tally.proofs.TallyLaws.{same_tally}

-- ---- the counts of nodes' tables

-- running counts with those of a tally
abbrev pub with : Tally → Counts → Counts
with t n = record {
  nodes = n.nodes + t.nodes;
  meshes = n.meshes + t.meshes;
  vertices = n.vertices + t.vertices;
  sets = n.sets + t.sets;
  triangles = n.triangles + t.triangles;
  weights = n.weights + t.weights;
  lists = n.lists + t.lists;
  keys = n.keys + t.keys;
}

with_plus : (a b : Tally) (n : Counts) → with b (with a n) ≡ with (plus a b) n
unfolding plus
with_plus a b n = same_counts _ _ (add_assoc _ _ _) (add_assoc _ _ _) (add_assoc _ _ _) (add_assoc _ _ _) (add_assoc _ _ _) (add_assoc _ _ _) (add_assoc _ _ _) (add_assoc _ _ _)

-- the node rows and so on of a tally, by name
record Rows (t : Tally) (nnodes nmeshes nvertices nsets ntriangles nweights nlists nkeys : ℕ) : Type 0 where
  nodes : t.nodes ≡ nnodes
  meshes : t.meshes ≡ nmeshes
  vertices : t.vertices ≡ nvertices
  sets : t.sets ≡ nsets
  triangles : t.triangles ≡ ntriangles
  weights : t.weights ≡ nweights
  lists : t.lists ≡ nlists
  keys : t.keys ≡ nkeys

lists_are : (l : List Keys) → Rows (lists_tally l) 0 0 0 0 0 0 (length l) (length (key_rows l))
unfolding lists_tally no_tally plus list_tally keys_tally key_rows
lists_are [] = record { nodes = refl; meshes = refl; vertices = refl; sets = refl; triangles = refl; weights = refl; lists = refl; keys = refl }
lists_are (k ∷ l) =
    let h = lists_are l in
    let e = length-append (map (padded (key_mask k.flags)) k.items) (key_rows l) in
    let m = length-map k.items (padded (key_mask k.flags)) in
    record { nodes = omega arith; meshes = omega arith; vertices = omega arith; sets = omega arith; triangles = omega arith; weights = omega arith; lists = omega arith; keys = omega arith }

sets_are : (l : List TriangleSet) → Rows (sets_tally l) 0 0 0 (length l) (length (triangle_rows l)) 0 0 0
unfolding sets_tally no_tally plus set_tally triangles_tally triangle_rows
sets_are [] = record { nodes = refl; meshes = refl; vertices = refl; sets = refl; triangles = refl; weights = refl; lists = refl; keys = refl }
sets_are (x ∷ l) =
    let h = sets_are l in
    let e = length-append x.triangles (triangle_rows l) in
    record { nodes = omega arith; meshes = omega arith; vertices = omega arith; sets = omega arith; triangles = omega arith; weights = omega arith; lists = omega arith; keys = omega arith }

anim_is : (a : Anim) → Rows (anim_tally a) 0 0 0 0 0 0 0 0
unfolding anim_tally no_tally bytes_tally
anim_is no_anim = record { nodes = refl; meshes = refl; vertices = refl; sets = refl; triangles = refl; weights = refl; lists = refl; keys = refl }
anim_is (anim ws) = record { nodes = refl; meshes = refl; vertices = refl; sets = refl; triangles = refl; weights = refl; lists = refl; keys = refl }

none_with : (n : Counts) → n ≡ with no_tally n
unfolding no_tally
none_with n = same_counts _ _ (sym (add-zero _)) (sym (add-zero _)) (sym (add-zero _)) (sym (add-zero _)) (sym (add-zero _)) (sym (add-zero _)) (sym (add-zero _)) (sym (add-zero _))

kind_adds : (name-d : Data) (k : Kind) (l : List Keys) (a : Anim) (n : Counts) → with_node (record { name = name-d.name; words = name-d.words; kind = k; keys = l; anim = a }) n ≡ with (plus (plus head_tally (kind_tally k)) (plus (lists_tally l) (anim_tally a))) n
unfolding with_node with_meshes meshes_of weights_of plus head_tally kind_tally no_tally mesh_tally vertices_tally bone_tally weights_tally
kind_adds d pivot l a n = let L = lists_are l in let A = anim_is a in same_counts _ _ (omega arith) (omega arith) (omega arith) (omega arith) (omega arith) (omega arith) (omega arith) (omega arith)
kind_adds d (mesh m) l a n = let L = lists_are l in let A = anim_is a in let S = sets_are m.triangle_sets in same_counts _ _ (omega arith) (omega arith) (omega arith) (omega arith) (omega arith) (omega arith) (omega arith) (omega arith)
kind_adds d (bone ws) l a n = let L = lists_are l in let A = anim_is a in same_counts _ _ (omega arith) (omega arith) (omega arith) (omega arith) (omega arith) (omega arith) (omega arith) (omega arith)

pub node_adds : (d : Data) (n : Counts) → with_node d n ≡ with (data_tally d) n
unfolding data_tally
node_adds d n = kind_adds d d.kind d.keys d.anim n

pub forest_adds : (f : Forest) (n : Counts) → with_forest f n ≡ with (forest_tally f) n
unfolding with_forest forest_tally
forest_adds no_nodes n = none_with n
forest_adds (node d f g) n =
    ap (λ (x : Counts). with_forest g (with_forest f x)) (node_adds d n)
    ∙ ap (with_forest g) (forest_adds f (with (data_tally d) n) ∙ with_plus (data_tally d) (forest_tally f) n)
    ∙ forest_adds g (with (plus (data_tally d) (forest_tally f)) n) ∙ with_plus (plus (data_tally d) (forest_tally f)) (forest_tally g) n

-- ---- the size of the copy

keys-copy : (l : List Keys) → (lists_tally l).copy ≡ keys_size l
unfolding lists_tally no_tally plus list_tally keys_tally
keys-copy [] = refl
keys-copy (k ∷ l) = omega (arith, keys-copy l)

sets-copy : (l : List TriangleSet) → (sets_tally l).copy ≡ sets_size l
unfolding sets_tally no_tally plus set_tally triangles_tally
sets-copy [] = refl
sets-copy (x ∷ l) = omega (arith, sets-copy l)

anim-copy : (a : Anim) → (anim_tally a).copy ≡ anim_size a
unfolding anim_tally no_tally bytes_tally
anim-copy no_anim = refl
anim-copy (anim ws) = refl

kind-copy : (k : Kind) → (kind_tally k).copy ≡ kind_size k
unfolding kind_tally no_tally mesh_tally vertices_tally plus bone_tally weights_tally
kind-copy pivot = refl
kind-copy (mesh m) = omega (arith, sets-copy m.triangle_sets)
kind-copy (bone ws) = refl

nodes-copy : (f : Forest) → (forest_tally f).copy ≡ nodes_size (rename_forest no_name f)
unfolding forest_tally no_tally plus data_tally head_tally
nodes-copy no_nodes = refl
nodes-copy (node d f g) = omega (arith, kind-copy d.kind, keys-copy d.keys, anim-copy d.anim, nodes-copy f, nodes-copy g)

textures-copy : (l : List Texture) → texture_size (map (rename_texture no_name) l) ≡ length l * 29
textures-copy [] = refl
textures-copy (t ∷ l) = omega (arith, textures-copy l)

texs-copy : (l : List Texture) → (texs_tally l).copy ≡ texs_size (map (rename_texture no_name) l)
unfolding texs_tally texs_of no_tally
texs-copy [] = refl
texs-copy (t ∷ l) = omega (arith, textures-copy l)

brushes-copy : (slots : ℕ) (l : List Brush) → brush_size slots (map (rename_brush no_name) l) ≡ length l * (29 + 4 * slots)
brushes-copy slots [] = sym (zero-mul (29 + 4 * slots))
brushes-copy slots (b ∷ l) = omega (arith, brushes-copy slots l, suc-mul (length l) (29 + 4 * slots))

brus-copy : (slots : ℕ) (l : List Brush) → (brus_tally slots l).copy ≡ brus_size slots (map (rename_brush no_name) l)
unfolding brus_tally brus_of no_tally
brus-copy slots [] = refl
brus-copy slots (b ∷ l) = omega (arith, brushes-copy slots l, suc-mul (length l) (29 + 4 * slots))

scene-copy : (t : Scene) → (scene_tally t).copy ≡ size_of (cleared t)
unfolding scene_tally plus bytes_tally size_of cleared rename
scene-copy t = omega (arith, texs-copy t.textures, brus-copy t.slots t.brushes, nodes-copy t.nodes)

-- no texture and no brush
abbrev Headless : Tally → Type 0
Headless t = (t.textures ≡ 0) × (t.brushes ≡ 0)

lists_headless : (l : List Keys) → Headless (lists_tally l)
unfolding lists_tally no_tally plus list_tally keys_tally
lists_headless [] = (refl, refl)
lists_headless (k ∷ l) = let h = lists_headless l in (omega arith, omega arith)

sets_headless : (l : List TriangleSet) → Headless (sets_tally l)
unfolding sets_tally no_tally plus set_tally triangles_tally
sets_headless [] = (refl, refl)
sets_headless (x ∷ l) = let h = sets_headless l in (omega arith, omega arith)

anim_headless : (a : Anim) → Headless (anim_tally a)
unfolding anim_tally no_tally bytes_tally
anim_headless no_anim = (refl, refl)
anim_headless (anim ws) = (refl, refl)

kind_headless : (k : Kind) → Headless (kind_tally k)
unfolding kind_tally no_tally mesh_tally vertices_tally plus bone_tally weights_tally
kind_headless pivot = (refl, refl)
kind_headless (mesh m) = let h = sets_headless m.triangle_sets in (omega arith, omega arith)
kind_headless (bone ws) = (refl, refl)

forest_headless : (f : Forest) → Headless (forest_tally f)
unfolding forest_tally no_tally plus data_tally head_tally
forest_headless no_nodes = (refl, refl)
forest_headless (node d f g) =
    let a = kind_headless d.kind in
    let b = lists_headless d.keys in
    let c = anim_headless d.anim in
    let h = forest_headless f in
    let k = forest_headless g in
    (omega arith, omega arith)

texs_are : (n : ℕ) → Rows (texs_of n) 0 0 0 0 0 0 0 0 × ((texs_of n).textures ≡ n) × ((texs_of n).brushes ≡ 0)
unfolding texs_of no_tally
texs_are zero = (record { nodes = refl; meshes = refl; vertices = refl; sets = refl; triangles = refl; weights = refl; lists = refl; keys = refl }, refl, refl)
texs_are (suc n) = (record { nodes = refl; meshes = refl; vertices = refl; sets = refl; triangles = refl; weights = refl; lists = refl; keys = refl }, refl, refl)

brus_are : (slots n : ℕ) → Rows (brus_of slots n) 0 0 0 0 0 0 0 0 × ((brus_of slots n).textures ≡ 0) × ((brus_of slots n).brushes ≡ n)
unfolding brus_of no_tally
brus_are slots zero = (record { nodes = refl; meshes = refl; vertices = refl; sets = refl; triangles = refl; weights = refl; lists = refl; keys = refl }, refl, refl)
brus_are slots (suc n) = (record { nodes = refl; meshes = refl; vertices = refl; sets = refl; triangles = refl; weights = refl; lists = refl; keys = refl }, refl, refl)

same_parts : (a b : Tally) → with a start ≡ with b start → a.textures ≡ b.textures → a.brushes ≡ b.brushes → a.copy ≡ b.copy → a ≡ b
unfolding start
same_parts a b e et eb ec =
    let n = ap (λ (c : Counts). c.nodes) e in
    let m = ap (λ (c : Counts). c.meshes) e in
    let v = ap (λ (c : Counts). c.vertices) e in
    let s = ap (λ (c : Counts). c.sets) e in
    let t = ap (λ (c : Counts). c.triangles) e in
    let w = ap (λ (c : Counts). c.weights) e in
    let l = ap (λ (c : Counts). c.lists) e in
    let k = ap (λ (c : Counts). c.keys) e in
    same_tally a b et eb (omega arith) (omega arith) (omega arith) (omega arith) (omega arith) (omega arith) (omega arith) (omega arith) ec

-- the counts of the scene's rows
rows_are : (t : Scene) → with_forest t.nodes start ≡ with (tally_of t) start
unfolding start reached node_tables rows if
rows_are t =
    let r = rises t.nodes NONE start in
    same_counts _ _ r.0 r.1.0 r.1.1.0 r.1.1.1.0 r.1.1.1.1.0 r.1.1.1.1.1.0 r.1.1.1.1.1.1.0 r.1.1.1.1.1.1.1.0

-- the nodes' rows of a tally are those of its forest
forest-rows : (t : Scene) → with (forest_tally t.nodes) start ≡ with (scene_tally t) start
unfolding scene_tally plus bytes_tally texs_tally brus_tally start
forest-rows t =
    let T = texs_are (length t.textures) in
    let B = brus_are t.slots (length t.brushes) in
    same_counts _ _ (omega (arith, T.0.nodes, B.0.nodes)) (omega (arith, T.0.meshes, B.0.meshes)) (omega (arith, T.0.vertices, B.0.vertices)) (omega (arith, T.0.sets, B.0.sets)) (omega (arith, T.0.triangles, B.0.triangles)) (omega (arith, T.0.weights, B.0.weights)) (omega (arith, T.0.lists, B.0.lists)) (omega (arith, T.0.keys, B.0.keys))

scene-textures : (t : Scene) → (scene_tally t).textures ≡ length (rows 1 t)
unfolding scene_tally plus bytes_tally texs_tally brus_tally rows if
scene-textures t =
    let T = texs_are (length t.textures) in
    let B = brus_are t.slots (length t.brushes) in
    omega (arith, T.1, B.1, (forest_headless t.nodes).0, length-map t.textures texture_row)

scene-brushes : (t : Scene) → (scene_tally t).brushes ≡ length (rows 2 t)
unfolding scene_tally plus bytes_tally texs_tally brus_tally rows if
scene-brushes t =
    let T = texs_are (length t.textures) in
    let B = brus_are t.slots (length t.brushes) in
    omega (arith, T.2, B.2, (forest_headless t.nodes).1, length-map t.brushes brush_row)

copy-size : (t : Scene) → WellFormed t → length (copy t) ≡ size_of (cleared t)
unfolding copy
copy-size t f = encode-size (cleared t) (cleared-fits t f)

pub total : (t : Scene) → WellFormed t → scene_tally t ≡ tally_of t
total t f =
    same_parts (scene_tally t) (tally_of t) (sym (forest-rows t) ∙ sym (forest_adds t.nodes start) ∙ rows_are t) (scene-textures t) (scene-brushes t)
    (scene-copy t ∙ sym (copy-size t f))

-- of any scene, whether it keeps the rules or not: the row counts
pub total_rows : (t : Scene) → scene_tally t
    ≡ record {
      textures = length (rows 1 t);
      brushes = length (rows 2 t);
      nodes = length (rows 3 t);
      meshes = length (rows 4 t);
      vertices = length (rows 5 t);
      sets = length (rows 6 t);
      triangles = length (rows 7 t);
      weights = length (rows 8 t);
      lists = length (rows 9 t);
      keys = length (rows 10 t);
      copy = (scene_tally t).copy;
    }
total_rows t = same_parts (scene_tally t) _ (sym (forest-rows t) ∙ sym (forest_adds t.nodes start) ∙ rows_are t) (scene-textures t) (scene-brushes t) refl
