-- The sizes of specs/Sizes are those of what is written.
use mathlib.Core.Path.{◌≡◌, refl, ap, sym}
use Prim.Native.Nat.{ℕ, zero, suc, ◌+◌, ◌*◌}
use native.Mathlib.Omega.{arith}
use native.Mathlib.Nat.{suc-mul, zero-mul}
use mathlib.Core.Option.{Option, none}
use mathlib.Core.List.{List, [], ◌∷◌}
use lib.ListN.{length, length-replicate}
use Rattle.layout.specs.Rules.{Rule, any}
use Rattle.layout.specs.Write.{write_words, write_items, write_chunks as write_chunks_of}
use Rattle.layout.proofs.ChunkLaws.{length-chunk}
use Rattle.layout.proofs.WellFormedLaws.{Fits}
use Rattle.layout.proofs.AllLaws.{All}
use Rattle.layout.proofs.PartLaws.{length-words, length-fits, length-text}
use Rattle.b3d_spec.specs.declared.Mode.TheVariants.{Lenient}
use Rattle.b3d_spec.specs.Encode.{write_texture, write_brush, write_vertices, write_triangles, set_chunks, write_mesh, write_keys, kind_chunks, key_chunks, anim_chunks, write_node, node_chunks, texture_chunks, brush_chunks, write_scene, encode}
use Rattle.b3d_spec.specs.Rules.{vertex_words, key_words, texture_row, brush_row, brush_ids, node_row, vertex_row, triangle_row, weight_row, key_row, anim_row, texture_id, bone_limit, bone_limit_below, levels}
use Rattle.b3d_spec.specs.Scene.{Texture, Brush, TriangleSet, Mesh, Kind, pivot, mesh, bone, Keys, Anim, no_anim, anim, Data, Forest, no_nodes, node, Scene}
use Rattle.b3d_spec.specs.Sizes.{texture_size, texs_size, brush_size, brus_size, sets_size, kind_size, keys_size, anim_size, nodes_size, size_of}
use Rattle.b3d_spec.specs.declared.Tag.TheVariants.{TEXS, BRUS, NODE, MESH, VRTS, TRIS, BONE, KEYS, ANIM}
use Rattle.b3d_spec.specs.Tags.{Chunk, write_chunks, code}
use Rattle.b3d_spec.proofs.Files.FileLaws.{length-encode}
use Rattle.b3d_spec.proofs.WellFormedLaws.{FitTexture, FitBrush, FitTriangles, FitMesh, FitKeys, FitKind, FitAnim, FitData, FitNodes, WellFormed}

rows-size : (rs : List Rule) (l : List (List ℕ)) → All (Fits rs) l → length (write_items write_words l) ≡ length l * (4 * length rs)
rows-size rs [] h = sym (zero-mul (4 * length rs))
rows-size rs (ws ∷ l) h =
    omega (arith, rows-size rs l h.1, length-words ws (write_items write_words l), length-fits rs ws h.0, suc-mul (length l) (4 * length rs))

textures-size : (l : List Texture) → All FitTexture l → length (write_items write_texture l) ≡ texture_size l
textures-size [] h = refl
textures-size (t ∷ l) h =
    let r = write_items write_texture l in
    omega (arith, textures-size l h.1, length-words t.words r, length-fits texture_row t.words h.0.1, length-text t.name.bytes (write_words t.words r))

brushes-size : (n textures : ℕ) (l : List Brush) → All (FitBrush n textures) l → length (write_items write_brush l) ≡ brush_size n l
brushes-size n textures [] h = refl
brushes-size n textures (b ∷ l) h =
    let r = write_items write_brush l in
    omega (
      arith,
      brushes-size n textures l h.1,
      length-words b.ids r,
      length-fits (brush_ids n textures) b.ids h.0.2,
      length-replicate n (texture_id textures),
      length-words b.words (write_words b.ids r),
      length-fits (brush_row Lenient) b.words h.0.1,
      length-text b.name.bytes (write_words b.words (write_words b.ids r)),
    )

sets-size : (brushes n : ℕ) (l : List TriangleSet) → All (FitTriangles brushes n) l → length (write_chunks (set_chunks l)) ≡ sets_size l
unfolding write_chunks_of write_triangles
sets-size brushes n [] h = refl
sets-size brushes n (x ∷ l) h =
    let b = write_words (x.brush ∷ []) (write_items write_words x.triangles) in
    omega (arith, sets-size brushes n l h.1, rows-size (triangle_row n) x.triangles h.0.1, length-chunk code TRIS b (write_chunks (set_chunks l)))

mesh-size : (brushes : ℕ) (m : Mesh) → FitMesh brushes m → 8 + length (write_mesh m) ≡ kind_size (mesh m)
unfolding write_mesh write_chunks_of write_vertices
mesh-size brushes m h =
    let k = vertex_words m.flags m.sets m.size in
    let b = write_words (m.flags ∷ m.sets ∷ m.size ∷ []) (write_items write_words m.vertices) in
    let e : length m.vertices * (4 * length (vertex_row Lenient m.flags m.sets m.size)) ≡ length m.vertices * (4 * k) =
    ap (λ (n : ℕ). length m.vertices * (4 * n)) (length-replicate k any) in
    omega (
      arith,
      sets-size brushes (length m.vertices) m.triangle_sets h.triangles,
      rows-size (vertex_row Lenient m.flags m.sets m.size) m.vertices h.vertices,
      length-chunk code VRTS b (write_chunks (set_chunks m.triangle_sets)),
    )

kind-size : (brushes n : ℕ) (k : Kind) (l : List Chunk) → FitKind brushes n k → length (write_chunks (kind_chunks k l)) ≡ kind_size k + length (write_chunks l)
unfolding write_chunks_of
kind-size brushes n pivot l h = omega arith
kind-size brushes n (mesh m) l h = omega (arith, mesh-size brushes m h, length-chunk code MESH (write_mesh m) (write_chunks l))
kind-size brushes n (bone ws) l h = omega (arith, rows-size (weight_row n) ws h, length-chunk code BONE (write_items write_words ws) (write_chunks l))

key-size : (k : Keys) → FitKeys k → length (write_keys k) ≡ 4 + length k.items * (4 * key_words k.flags)
unfolding write_keys
key-size k h =
    let e : length k.items * (4 * length (key_row k.flags)) ≡ length k.items * (4 * key_words k.flags) =
    ap (λ (n : ℕ). length k.items * (4 * n)) (length-replicate (key_words k.flags) any) in
    omega (arith, rows-size (key_row k.flags) k.items h.1)

keys-size : (ks : List Keys) (l : List Chunk) → All FitKeys ks → length (write_chunks (key_chunks ks l)) ≡ keys_size ks + length (write_chunks l)
unfolding write_chunks_of
keys-size [] l h = omega arith
keys-size (k ∷ ks) l h = omega (arith, keys-size ks l h.1, key-size k h.0, length-chunk code KEYS (write_keys k) (write_chunks (key_chunks ks l)))

anim-size : (a : Anim) (l : List Chunk) → FitAnim a → length (write_chunks (anim_chunks a l)) ≡ anim_size a + length (write_chunks l)
unfolding write_chunks_of
anim-size no_anim l h = omega arith
anim-size (anim ws) l h = omega (arith, length-words ws [], length-fits anim_row ws h, length-chunk code ANIM (write_words ws []) (write_chunks l))

node-size : (brushes n : ℕ) (d : Data) (l : List Chunk) → FitData brushes n d
    → 8 + length (write_node d l) ≡ 49 + length d.name.bytes + kind_size d.kind + keys_size d.keys + anim_size d.anim + length (write_chunks l)
unfolding write_node
node-size brushes n d l h =
    let an = anim_chunks d.anim l in
    let ms = key_chunks d.keys an in
    let cs = kind_chunks d.kind ms in
    omega (
      arith,
      length-text d.name.bytes (write_words d.words (write_chunks cs)),
      length-words d.words (write_chunks cs),
      length-fits node_row d.words h.words,
      kind-size brushes n d.kind ms h.kind,
      keys-size d.keys an h.keys,
      anim-size d.anim l h.anim,
    )

nodes-size : (l brushes : ℕ) (above : Option ℕ) (f : Forest) → FitNodes l brushes above f → length (write_chunks (node_chunks f)) ≡ nodes_size f
unfolding node_chunks write_chunks_of
nodes-size zero brushes above no_nodes h = refl
nodes-size zero brushes above (node d f g) h = absurd h
nodes-size (suc l) brushes above no_nodes h = refl
nodes-size (suc l) brushes above (node d f g) h =
    omega (
      arith,
      node-size brushes (bone_limit above) d (node_chunks f) h.0,
      nodes-size l brushes (bone_limit_below above d) f h.1,
      nodes-size (suc l) brushes above g h.2,
      length-chunk code NODE (write_node d (node_chunks f)) (write_chunks (node_chunks g)),
    )

texs-size : (l : List Texture) (r : List Chunk) → All FitTexture l → length (write_chunks (texture_chunks l r)) ≡ texs_size l + length (write_chunks r)
unfolding write_chunks_of
texs-size [] r h = omega arith
texs-size (t ∷ l) r h = omega (arith, textures-size (t ∷ l) h, length-chunk code TEXS (write_items write_texture (t ∷ l)) (write_chunks r))

brus-size : (n textures : ℕ) (l : List Brush) (r : List Chunk) → All (FitBrush n textures) l → length (write_chunks (brush_chunks n l r)) ≡ brus_size n l + length (write_chunks r)
unfolding write_chunks_of
brus-size n textures [] r h = omega arith
brus-size n textures (b ∷ l) r h =
    omega (arith, brushes-size n textures (b ∷ l) h, length-chunk code BRUS (write_words (n ∷ []) (write_items write_brush (b ∷ l))) (write_chunks r))

pub encode-size : (t : Scene) → WellFormed t → length (encode t) ≡ size_of t
unfolding size_of write_scene
encode-size t h =
    let ns = node_chunks t.nodes in
    let bs = brush_chunks t.slots t.brushes ns in
    omega (
      arith,
      length-encode t,
      length-words (t.version ∷ []) (write_chunks (texture_chunks t.textures bs)),
      texs-size t.textures bs h.textures,
      brus-size t.slots (length t.textures) t.brushes ns h.brushes,
      nodes-size levels (length t.brushes) none t.nodes h.nodes,
    )
