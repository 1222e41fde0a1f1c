-- What the copy has of each part of a scene, as a stretch of bytes before what follows.
use mathlib.Core.Path.{◌≡◌, refl, ap, sym, ◌∙◌}
use Prim.Native.Nat.{ℕ}
use mathlib.Core.List.{List, [], ◌∷◌, ◌++◌, map, append_assoc}
use Rattle.wire.specs.Bytes.{bytes}
use Rattle.layout.specs.Write.{write_words, write_items, write_chunks as write_chunks_of}
use Rattle.b3d_spec.specs.declared.Tag.TheVariants.{TEXS, BRUS, NODE, MESH, TRIS, BONE, KEYS, ANIM}
use Rattle.b3d_spec.specs.Encode.{write_texture, write_brush, write_triangles, set_chunks, write_mesh, kind_chunks, write_keys, key_chunks, anim_chunks, write_node, node_chunks, texture_chunks, brush_chunks}
use Rattle.b3d_spec.specs.Names.{rename_texture, rename_brush, rename_forest, no_name}
use Rattle.b3d_spec.specs.Scene.{Texture, Brush, TriangleSet, Kind, pivot, mesh, bone, Keys, Anim, no_anim, anim, Data, Forest, node}
use Rattle.b3d_spec.specs.Tags.{Chunk, write_chunks, code}
use Rattle.b3d_clear_spec.specs.Copies.{chunk_of}

-- ---- of a mesh and a node

unfoldable pub sets_bytes : List TriangleSet → List ℕ
sets_bytes [] = []
sets_bytes (x ∷ l) = chunk_of (code TRIS) (write_triangles x) ++ sets_bytes l

pub sets-written : (l : List TriangleSet) → write_chunks (set_chunks l) ≡ sets_bytes l
unfolding write_chunks_of sets_bytes
sets-written [] = refl
sets-written (x ∷ l) = ap (λ (r : List ℕ). chunk_of (code TRIS) (write_triangles x) ++ r) (sets-written l)

unfoldable pub mesh_bytes : Kind → List ℕ
mesh_bytes pivot = []
mesh_bytes (mesh m) = chunk_of (code MESH) (write_mesh m)
mesh_bytes (bone ws) = []

unfoldable pub bone_bytes : Kind → List ℕ
bone_bytes pivot = []
bone_bytes (mesh m) = []
bone_bytes (bone ws) = chunk_of (code BONE) (write_items write_words ws)

pub kind-written : (k : Kind) (r : List Chunk) → write_chunks (kind_chunks k r) ≡ mesh_bytes k ++ (bone_bytes k ++ write_chunks r)
unfolding write_chunks_of mesh_bytes bone_bytes
kind-written pivot r = refl
kind-written (mesh m) r = refl
kind-written (bone ws) r = refl

unfoldable pub keys_bytes : List Keys → List ℕ
keys_bytes [] = []
keys_bytes (k ∷ l) = chunk_of (code KEYS) (write_keys k) ++ keys_bytes l

pub keys-written : (l : List Keys) (r : List Chunk) → write_chunks (key_chunks l r) ≡ keys_bytes l ++ write_chunks r
unfolding write_chunks_of keys_bytes
keys-written [] r = refl
keys-written (k ∷ l) r =
    ap (λ (x : List ℕ). chunk_of (code KEYS) (write_keys k) ++ x) (keys-written l r)
    ∙ sym (append_assoc (chunk_of (code KEYS) (write_keys k)) (keys_bytes l) (write_chunks r))

unfoldable pub anim_bytes : Anim → List ℕ
anim_bytes no_anim = []
anim_bytes (anim ws) = chunk_of (code ANIM) (write_words ws [])

pub anim-written : (a : Anim) (r : List Chunk) → write_chunks (anim_chunks a r) ≡ anim_bytes a ++ write_chunks r
unfolding write_chunks_of anim_bytes
anim-written no_anim r = refl
anim-written (anim ws) r = refl

-- nodes with their names empty
unfoldable pub nodes_bytes : Forest → List ℕ
nodes_bytes f = write_chunks (node_chunks (rename_forest no_name f))

-- a node with its name empty, and those below it
unfoldable pub node_bytes : Data → Forest → List ℕ
node_bytes d f = chunk_of (code NODE) (0 ∷ write_words d.words (mesh_bytes d.kind ++ (bone_bytes d.kind ++ (keys_bytes d.keys ++ (anim_bytes d.anim ++ nodes_bytes f)))))

pub node-written : (d : Data) (f g : Forest) → nodes_bytes (node d f g) ≡ node_bytes d f ++ nodes_bytes g
unfolding nodes_bytes node_bytes node_chunks write_node write_chunks_of
node-written d f g =
    let below = node_chunks (rename_forest no_name f) in
    let e : write_chunks (kind_chunks d.kind (key_chunks d.keys (anim_chunks d.anim below)))
    ≡ mesh_bytes d.kind ++ (bone_bytes d.kind ++ (keys_bytes d.keys ++ (anim_bytes d.anim ++ write_chunks below))) =
    kind-written d.kind (key_chunks d.keys (anim_chunks d.anim below))
    ∙ ap (λ (x : List ℕ). mesh_bytes d.kind ++ (bone_bytes d.kind ++ x)) (keys-written d.keys (anim_chunks d.anim below) ∙ ap (λ (x : List ℕ). keys_bytes d.keys ++ x) (anim-written d.anim below)) in
    ap (λ (x : List ℕ). chunk_of (code NODE) (0 ∷ write_words d.words x) ++ write_chunks (node_chunks (rename_forest no_name g))) e

-- ---- of the file

unfoldable pub texs_bytes : List Texture → List ℕ
texs_bytes [] = []
texs_bytes (t ∷ l) = chunk_of (code TEXS) (write_items write_texture (map (rename_texture no_name) (t ∷ l)))

pub texs_written : (l : List Texture) (r : List Chunk) → write_chunks (texture_chunks (map (rename_texture no_name) l) r) ≡ texs_bytes l ++ write_chunks r
unfolding write_chunks_of texs_bytes
texs_written [] r = refl
texs_written (t ∷ l) r = refl

unfoldable pub brus_bytes : ℕ → List Brush → List ℕ
brus_bytes slots [] = []
brus_bytes slots (b ∷ l) = chunk_of (code BRUS) (bytes slots (write_items write_brush (map (rename_brush no_name) (b ∷ l))))

pub brus_written : (slots : ℕ) (l : List Brush) (r : List Chunk) → write_chunks (brush_chunks slots (map (rename_brush no_name) l) r) ≡ brus_bytes slots l ++ write_chunks r
unfolding write_chunks_of brus_bytes
brus_written slots [] r = refl
brus_written slots (b ∷ l) r = refl
