-- Every word of an accepted file's rows is a number of four bytes.
use mathlib.Core.Path.{◌≡◌, refl, ap}
use Prim.Native.Nat.{ℕ, zero, suc, ◌+◌, ◌-◌, ◌<◌}
use native.Mathlib.Omega.{arith}
use mathlib.Core.Bool.{Bool, true, false}
use mathlib.Core.Option.{Option, none}
use mathlib.Core.List.{List, [], ◌∷◌, map}
use lib.ListN.{length, replicate, length-append, length-map}
use lib.Dec.{eqb}
use Rattle.wire.specs.Bytes.{AllBytes, IsWord}
use Rattle.wire.specs.Test.{if}
use Rattle.layout.specs.Fitting.{Fits}
use Rattle.layout.specs.Result.{accept}
use Rattle.layout.specs.Parts.{Name}
use Rattle.layout.specs.Rows.{name_cells}
use Rattle.layout.specs.Rules.{Rule, NONE}
use Rattle.layout.proofs.AllLaws.{All, all_map, all-zip, all_append, all_of_map}
use Rattle.layout.proofs.ResultLaws.{if_case}
use Rattle.layout.proofs.PlaceLaws.{NameIn}
use Rattle.b3d_spec.specs.declared.Counts.{Counts}
use Rattle.b3d_spec.specs.declared.Mode.TheVariants.{Lenient}
use Rattle.b3d_spec.specs.Answers.{judge}
use Rattle.b3d_spec.specs.Fitting.{FitTexture, FitBrush, FitTriangles, FitKeys, FitKind, FitAnim, FitData, FitNodes}
use Rattle.b3d_spec.specs.Mask.{padded, vertex_mask, key_mask}
use Rattle.b3d_spec.specs.Rules.{texture_row as texture_rule, brush_row as brush_rule, brush_ids, node_row as node_rule, vertex_row as vertex_rule, triangle_row as triangle_rule, weight_row as weight_rule, key_row as key_rule, anim_row as anim_rule, bone_limit, bone_limit_below, levels}
use Rattle.b3d_spec.specs.Scene.{Texture, Brush, TriangleSet, Mesh, Kind, pivot, mesh, bone, Keys, Anim, no_anim, anim, Data, Forest, no_nodes, node, Scene}
use Rattle.b3d_spec.specs.Tables.{start, reached, meshes_of, weights_of, texture_row, brush_row, kind_cells, anim_cells, node_row, mesh_row, vertex_rows, set_rows, triangle_rows, list_rows, key_rows, nodes_in, mesh_rows, own_rows, with_meshes, with_node, with_forest, forest_rows, rows, tables, node_tables}
use Rattle.b3d_spec.proofs.AnswerLaws.{Small, judge_got}
use Rattle.b3d_spec.proofs.Files.FileLaws.{parse-size}
use Rattle.b3d_spec.proofs.Files.PlaceLaws.{NodeNames}
use Rattle.b3d_spec.proofs.FileTableLaws.{stand}
use Rattle.b3d_spec.proofs.Laws.{fine, names_stand}
use Rattle.b3d_spec.proofs.Rows.CountLaws.{rises}

abbrev pub Words : List ℕ → Type 0
Words l = All IsWord l

-- ---- words that were read

fits-words : (rs : List Rule) (ws : List ℕ) → Fits rs ws → Words ws
fits-words [] [] h = tt
fits-words [] (w ∷ ws) h = absurd h
fits-words (r ∷ rs) [] h = absurd h
fits-words (r ∷ rs) (w ∷ ws) h = (h.0, fits-words rs ws h.2)

spread_words : (m : List Bool) (ws : List ℕ) → Words ws → Words (padded m ws)
unfolding padded
spread_words [] ws h = tt
spread_words (true ∷ m) [] h = (omega arith, spread_words m [] tt)
spread_words (true ∷ m) (w ∷ ws) h = (h.0, spread_words m ws h.1)
spread_words (false ∷ m) ws h = (omega arith, spread_words m ws h)

rows-of : (rs : List Rule) (l : List (List ℕ)) → All (Fits rs) l → All Words l
rows-of rs l h = all_map (Fits rs) Words (fits-words rs) l h

spread_rows : (m : List Bool) (rs : List Rule) (l : List (List ℕ)) → All (Fits rs) l → All Words (map (padded m) l)
spread_rows m rs l h = all_of_map Words (padded m) l (all_map Words (λ x. Words (padded m x)) (spread_words m) l (rows-of rs l h))

none-words : (n : ℕ) → Words (replicate n NONE)
none-words zero = tt
none-words (suc n) = (omega arith, none-words n)

-- ---- running counts

-- each is a number of four bytes
record Low (n : Counts) : Type 0 where
  nodes : n.nodes < 4294967296
  meshes : n.meshes < 4294967296
  vertices : n.vertices < 4294967296
  sets : n.sets < 4294967296
  triangles : n.triangles < 4294967296
  weights : n.weights < 4294967296
  lists : n.lists < 4294967296
  keys : n.keys < 4294967296

low-meshes : (l : List Mesh) (n : Counts) → Low (with_meshes l n) → Low n
unfolding with_meshes
low-meshes [] n h = h
low-meshes (m ∷ ms) n h =
    record {
      nodes = h.nodes;
      meshes = omega (arith, h.meshes);
      vertices = omega (arith, h.vertices);
      sets = omega (arith, h.sets);
      triangles = omega (arith, h.triangles);
      weights = h.weights;
      lists = h.lists;
      keys = h.keys;
    }

-- the counts with a node's mesh
low-mesh : (d : Data) (n : Counts) → Low (with_node d n) → Low (with_meshes (meshes_of d.kind) n)
unfolding with_node
low-mesh d n h =
    record {
      nodes = omega (arith, h.nodes);
      meshes = h.meshes;
      vertices = h.vertices;
      sets = h.sets;
      triangles = h.triangles;
      weights = omega (arith, h.weights);
      lists = omega (arith, h.lists);
      keys = omega (arith, h.keys);
    }

low-node : (d : Data) (n : Counts) → Low (with_node d n) → Low n
low-node d n h = low-meshes (meshes_of d.kind) n (low-mesh d n h)

low-forest : (f : Forest) (n : Counts) → Low (with_forest f n) → Low n
unfolding with_forest
low-forest no_nodes n h = h
low-forest (node d ch sib) n h = low-node d n (low-forest ch (with_node d n) (low-forest sib (with_forest ch (with_node d n)) h))

mesh-nodes : (l : List Mesh) (n : Counts) → (with_meshes l n).nodes ≡ n.nodes
unfolding with_meshes
mesh-nodes [] n = refl
mesh-nodes (m ∷ ms) n = refl

node-one : (d : Data) (n : Counts) → (with_node d n).nodes ≡ n.nodes + 1
unfolding with_node
node-one d n = ap (λ (k : ℕ). k + 1) (mesh-nodes (meshes_of d.kind) n)

nodes-after : (f : Forest) (n : Counts) → (with_forest f n).nodes ≡ n.nodes + nodes_in f
unfolding with_forest nodes_in
nodes-after no_nodes n = omega arith
nodes-after (node d ch sib) n =
    let m = with_node d n in
    omega (arith, nodes-after sib (with_forest ch m), nodes-after ch m, node-one d n)

mesh-weights : (l : List Mesh) (n : Counts) → (with_meshes l n).weights ≡ n.weights
unfolding with_meshes
mesh-weights [] n = refl
mesh-weights (m ∷ ms) n = refl

mesh-keys : (l : List Mesh) (n : Counts) → (with_meshes l n).keys ≡ n.keys
unfolding with_meshes
mesh-keys [] n = refl
mesh-keys (m ∷ ms) n = refl

-- ---- rows of a node

kind-words : (k : Kind) (n : Counts) → Low n → n.weights + length (weights_of k) < 4294967296 → Words (kind_cells k n)
unfolding kind_cells weights_of
kind-words pivot n l w = (omega arith, (omega arith, (omega arith, tt)))
kind-words (mesh m) n l w = (omega arith, (l.meshes, (omega arith, tt)))
kind-words (bone ws) n l w = (omega arith, (l.weights, (omega arith, tt)))

anim-words : (a : Anim) → FitAnim a → Words (anim_cells a)
unfolding anim_cells
anim-words no_anim h = (omega arith, (omega arith, (omega arith, (omega arith, tt))))
anim-words (anim ws) h = (omega arith, fits-words anim_rule ws h)

weight-rows : (brushes n : ℕ) (k : Kind) → FitKind brushes n k → All Words (weights_of k)
unfolding weights_of
weight-rows brushes n pivot h = tt
weight-rows brushes n (mesh m) h = tt
weight-rows brushes n (bone ws) h = rows-of (weight_rule n) ws h

list-rows : (l : List Keys) (i k : ℕ) → IsWord i → All FitKeys l → k + length (key_rows l) < 4294967296 → All Words (list_rows i k l)
unfolding list_rows key_rows
list-rows [] i k hi h b = tt
list-rows (x ∷ l) i k hi h b =
    let e = length-append (map (padded (key_mask x.flags)) x.items) (key_rows l) in
    let m = length-map x.items (padded (key_mask x.flags)) in
    ((hi, (h.0.0.0, (omega (arith, e, m), (omega (arith, e, m), tt)))), list-rows l i (k + length x.items) hi h.1 (omega (arith, e, m)))

key-rows : (l : List Keys) → All FitKeys l → All Words (key_rows l)
unfolding key_rows
key-rows [] h = tt
key-rows (x ∷ l) h = all_append Words (map (padded (key_mask x.flags)) x.items) (key_rows l) (spread_rows (key_mask x.flags) (key_rule x.flags) x.items h.0.1) (key-rows l h.1)

set-rows : (brushes n : ℕ) (l : List TriangleSet) (i r : ℕ) → IsWord i → All (FitTriangles brushes n) l → r + length (triangle_rows l) < 4294967296 → All Words (set_rows i r l)
unfolding set_rows triangle_rows
set-rows brushes n [] i r hi h b = tt
set-rows brushes n (x ∷ l) i r hi h b =
    let e = length-append x.triangles (triangle_rows l) in
    ((hi, (h.0.0.0, (omega (arith, e), (omega (arith, e), tt)))), set-rows brushes n l i (r + length x.triangles) hi h.1 (omega (arith, e)))

triangle-rows : (brushes n : ℕ) (l : List TriangleSet) → All (FitTriangles brushes n) l → All Words (triangle_rows l)
unfolding triangle_rows
triangle-rows brushes n [] h = tt
triangle-rows brushes n (x ∷ l) h = all_append Words x.triangles (triangle_rows l) (rows-of (triangle_rule n) x.triangles h.0.1) (triangle-rows brushes n l h.1)

mesh-rows : (k brushes v : ℕ) (x : Kind) (n : Counts) → FitKind brushes v x → Low n → Low (with_meshes (meshes_of x) n) → All Words (mesh_rows k (meshes_of x) n)
unfolding mesh_rows meshes_of with_meshes mesh_row vertex_rows
mesh-rows k brushes v pivot n h l m = tt
mesh-rows k brushes v (bone ws) n h l m = tt
mesh-rows k brushes v (mesh x) n h l m =
    if_case (All Words) (eqb k 4) _ _
    (λ _. ((l.nodes, (h.brush.0, (h.head.0, (h.head.2.0, (h.head.2.2.0, (l.vertices, (omega (arith, m.vertices), (l.sets, (omega (arith, m.sets), tt))))))))), tt))
    (λ _. if_case (All Words) (eqb k 5) _ _ (λ _. spread_rows (vertex_mask x.flags x.sets x.size) (vertex_rule Lenient x.flags x.sets x.size) x.vertices h.vertices)
    (λ _. if_case (All Words) (eqb k 6) _ _ (λ _. set-rows brushes (length x.vertices) x.triangle_sets n.meshes n.triangles l.meshes h.triangles m.triangles)
    (λ _. if_case (All Words) (eqb k 7) _ _ (λ _. triangle-rows brushes (length x.vertices) x.triangle_sets h.triangles) (λ _. tt))))

module _ (s : List ℕ) (small : length s < 4294967296) where
  name-words : (x : Name) → NameIn s x → Words (name_cells x)
  unfolding name_cells
  name-words x h = let b = (stand s x h).0 in (omega arith, (omega arith, tt))

  own-words : (k brushes v : ℕ) (d : Data) (p below : ℕ) (n : Counts) → IsWord p → IsWord below → FitData brushes v d → NameIn s d.name → Low (with_node d n)
      → All Words (own_rows k d p below n)
  unfolding own_rows node_row with_node
  own-words k brushes v d p below n hp hb f i h =
      let l = low-node d n h in
      if_case (All Words) (eqb k 3) _ _
      (λ _. (
        all_append IsWord (name_cells d.name) _ (name-words d.name i) (
          hp,
          all_append IsWord d.words _ (fits-words node_rule d.words f.words)
              (all_append IsWord (kind_cells d.kind n) _ (kind-words d.kind n l (omega (arith, h.weights, mesh-weights (meshes_of d.kind) n)))
              (all_append IsWord (anim_cells d.anim) _ (anim-words d.anim f.anim) (hb, tt))),
        ),
        tt,
      ))
      (λ _. if_case (All Words) (eqb k 8) _ _ (λ _. weight-rows brushes v d.kind f.kind)
      (λ _. if_case (All Words) (eqb k 9) _ _ (λ _. list-rows d.keys n.nodes n.keys l.nodes f.keys (omega (arith, h.keys, mesh-keys (meshes_of d.kind) n)))
      (λ _. if_case (All Words) (eqb k 10) _ _ (λ _. key-rows d.keys f.keys) (λ _. mesh-rows k brushes v d.kind n f.kind l (low-mesh d n h)))))

  forest-words : (k l brushes : ℕ) (above : Option ℕ) (f : Forest) (p : ℕ) (n : Counts) → IsWord p → FitNodes l brushes above f → NodeNames s f → Low (with_forest f n)
      → All Words (forest_rows k f p n)
  unfolding forest_rows with_forest
  forest-words k zero brushes above no_nodes p n hp h i b = tt
  forest-words k zero brushes above (node d ch sib) p n hp h i b = absurd h
  forest-words k (suc l) brushes above no_nodes p n hp h i b = tt
  forest-words k (suc l) brushes above (node d ch sib) p n hp h i b =
      let m = with_node d n in
      let c = low-forest sib (with_forest ch m) b in
      let a = low-forest ch m c in
      let below : nodes_in ch < 4294967296 = omega (arith, c.nodes, nodes-after ch m) in
      all_append Words (own_rows k d p (nodes_in ch) n) _ (own-words k brushes (bone_limit above) d p (nodes_in ch) n hp below h.0 i.0 a)
      (all_append Words (forest_rows k ch n.nodes m) _ (forest-words k l brushes (bone_limit_below above d) ch n.nodes m (low-node d n a).nodes h.1 i.1 c)
      (forest-words k (suc l) brushes above sib p (with_forest ch m) hp h.2 i.2 b))

  texture_words : (x : Texture) → FitTexture x → NameIn s x.name → Words (texture_row x)
  unfolding texture_row
  texture_words x h i = all_append IsWord (name_cells x.name) _ (name-words x.name i) (fits-words texture_rule x.words h.1)

  brush-words : (slots textures : ℕ) (x : Brush) → FitBrush slots textures x → NameIn s x.name → Words (brush_row x)
  unfolding brush_row
  brush-words slots textures x h i =
      all_append IsWord (name_cells x.name) _ (name-words x.name i)
      (all_append IsWord x.words _ (fits-words (brush_rule Lenient) x.words h.1)
      (all_append IsWord x.ids _ (fits-words (brush_ids slots textures) x.ids h.2) (none-words (8 - length x.ids))))

-- the counts at the end
low_end : (t : Scene) → Small t → Low (with_forest t.nodes start)
unfolding start reached node_tables tables rows if
low_end t h =
    let r = rises t.nodes NONE start in
    record {
      nodes = omega (arith, r.0, h.1.1.0);
      meshes = omega (arith, r.1.0, h.1.1.1.0);
      vertices = omega (arith, r.1.1.0, h.1.1.1.1.0);
      sets = omega (arith, r.1.1.1.0, h.1.1.1.1.1.0);
      triangles = omega (arith, r.1.1.1.1.0, h.1.1.1.1.1.1.0);
      weights = omega (arith, r.1.1.1.1.1.0, h.1.1.1.1.1.1.1.0);
      lists = omega (arith, r.1.1.1.1.1.1.0, h.1.1.1.1.1.1.1.1.0);
      keys = omega (arith, r.1.1.1.1.1.1.1.0, h.1.1.1.1.1.1.1.1.1.0);
    }

pub cell_words : (s : List ℕ) (t : Scene) → AllBytes s → judge Lenient s ≡ accept t → (k : ℕ) → All Words (rows k t)
unfolding rows
cell_words s t b e k =
    let g = judge_got Lenient s t e in
    let small : length s < 4294967296 = omega (arith, parse-size s t g.0) in
    let f = (fine Lenient s t b g.0).0 in
    let i = names_stand Lenient s t g.0 in
    if_case (All Words) (eqb k 1) _ _
    (λ _. all_of_map Words texture_row t.textures (all-zip FitTexture (λ (x : Texture). NameIn s x.name) (λ x. Words (texture_row x)) (texture_words s small) t.textures f.textures i.textures))
    (λ _. if_case (All Words) (eqb k 2) _ _
    (λ _. all_of_map Words brush_row t.brushes (all-zip (FitBrush t.slots (length t.textures)) (λ (x : Brush). NameIn s x.name) (λ x. Words (brush_row x)) (brush-words s small t.slots (length t.textures)) t.brushes f.brushes i.brushes))
    (λ _. forest-words s small k levels (length t.brushes) none t.nodes NONE start (omega arith) f.nodes i.nodes (low_end t g.1)))
