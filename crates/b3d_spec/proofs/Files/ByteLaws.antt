-- What `encode` writes of a scene that fits is bytes.
use Prim.Native.Nat.{ℕ, zero, suc}
use native.Mathlib.Omega.{arith}
use mathlib.Core.Option.{Option, none}
use mathlib.Core.List.{List, [], ◌∷◌, ◌++◌}
use lib.ListN.{length}
use Rattle.wire.specs.Bytes.{AllBytes, bytes}
use Rattle.layout.specs.Write.{write_words, write_text, write_items, write_chunks as write_chunks_of}
use Rattle.layout.proofs.WellFormedLaws.{FitText}
use Rattle.layout.proofs.AllLaws.{All}
use Rattle.b3d_spec.specs.Encode.{write_texture, write_brush, write_vertices, write_triangles, set_chunks, write_mesh, write_keys, kind_chunks, key_chunks, anim_chunks, write_node, node_chunks, texture_chunks, brush_chunks, write_scene, encode}
use Rattle.b3d_spec.specs.Rules.{bone_limit_below, levels}
use Rattle.b3d_spec.specs.Scene.{Texture, Brush, TriangleSet, Mesh, Kind, pivot, mesh, bone, Keys, Anim, no_anim, anim, Data, Forest, no_nodes, node, Scene}
use Rattle.b3d_spec.specs.declared.Tag.TheVariants.{BB3D}
use Rattle.b3d_spec.specs.Tags.{code, Chunk, write_chunks}
use Rattle.b3d_spec.proofs.WellFormedLaws.{FitTexture, FitBrush, FitNodes, WellFormed}

-- the same as `AllBytes`, under a name that does not compute
record Good (b : List ℕ) : Type 0 where
  ok : AllBytes b

word_bytes : (w : ℕ) (r : List ℕ) → Good r → Good (bytes w r)
word_bytes w r h = record { ok = (omega arith, (omega arith, (omega arith, (omega arith, h.ok)))) }

words-bytes : (ws r : List ℕ) → Good r → Good (write_words ws r)
words-bytes [] r h = h
words-bytes (w ∷ ws) r h = word_bytes w (write_words ws r) (words-bytes ws r h)

text-bytes : (cs r : List ℕ) → FitText cs → Good r → Good (write_text cs r)
text-bytes [] r h k = record { ok = (omega arith, k.ok) }
text-bytes (c ∷ cs) r h k = record { ok = (h.0.1, (text-bytes cs r h.1 k).ok) }

append-bytes : (b r : List ℕ) → Good b → Good r → Good (b ++ r)
append-bytes [] r h k = k
append-bytes (c ∷ b) r h k = record { ok = (h.ok.0, (append-bytes b r (record { ok = h.ok.1 }) k).ok) }

rows-bytes : (l : List (List ℕ)) → Good (write_items write_words l)
rows-bytes [] = record { ok = tt }
rows-bytes (ws ∷ l) = words-bytes ws (write_items write_words l) (rows-bytes l)

abbrev Bodies : List Chunk → Type 0
Bodies l = All (λ (c : Chunk). Good c.body) l

chunks-bytes : (l : List Chunk) → Bodies l → Good (write_chunks l)
unfolding write_chunks_of
chunks-bytes [] h = record { ok = tt }
chunks-bytes (c ∷ l) h =
    let b = c.body in
    word_bytes (code c.tag) _ (word_bytes (length b) _ (append-bytes b (write_chunks l) h.0 (chunks-bytes l h.1)))

sets-bytes : (l : List TriangleSet) → Bodies (set_chunks l)
unfolding write_triangles
sets-bytes [] = tt
sets-bytes (x ∷ l) = (words-bytes (x.brush ∷ []) _ (rows-bytes x.triangles), sets-bytes l)

mesh-bytes : (m : Mesh) → Good (write_mesh m)
unfolding write_mesh write_vertices
mesh-bytes m = words-bytes (m.brush ∷ []) _ (chunks-bytes _ (words-bytes (m.flags ∷ m.sets ∷ m.size ∷ []) _ (rows-bytes m.vertices), sets-bytes m.triangle_sets))

kind-bytes : (k : Kind) (l : List Chunk) → Bodies l → Bodies (kind_chunks k l)
kind-bytes pivot l h = h
kind-bytes (mesh m) l h = (mesh-bytes m, h)
kind-bytes (bone ws) l h = (rows-bytes ws, h)

keys-bytes : (ks : List Keys) (l : List Chunk) → Bodies l → Bodies (key_chunks ks l)
unfolding write_keys
keys-bytes [] l h = h
keys-bytes (k ∷ ks) l h = (words-bytes (k.flags ∷ []) _ (rows-bytes k.items), keys-bytes ks l h)

anim-bytes : (a : Anim) (l : List Chunk) → Bodies l → Bodies (anim_chunks a l)
anim-bytes no_anim l h = h
anim-bytes (anim ws) l h = (words-bytes ws [] (record { ok = tt }), h)

node-bytes : (d : Data) (l : List Chunk) → FitText d.name.bytes → Bodies l → Good (write_node d l)
unfolding write_node
node-bytes d l h k =
    text-bytes d.name.bytes _ h (words-bytes d.words _ (chunks-bytes _ (kind-bytes d.kind _ (keys-bytes d.keys _ (anim-bytes d.anim l k)))))

nodes-bytes : (l brushes : ℕ) (above : Option ℕ) (f : Forest) → FitNodes l brushes above f → Bodies (node_chunks f)
unfolding node_chunks
nodes-bytes zero brushes above no_nodes h = tt
nodes-bytes zero brushes above (node d f g) h = absurd h
nodes-bytes (suc l) brushes above no_nodes h = tt
nodes-bytes (suc l) brushes above (node d f g) h =
    (node-bytes d (node_chunks f) h.0.name (nodes-bytes l brushes (bone_limit_below above d) f h.1), nodes-bytes (suc l) brushes above g h.2)

textures-bytes : (l : List Texture) → All FitTexture l → Good (write_items write_texture l)
textures-bytes [] h = record { ok = tt }
textures-bytes (t ∷ l) h = text-bytes t.name.bytes _ h.0.0 (words-bytes t.words _ (textures-bytes l h.1))

brushes-bytes : (n textures : ℕ) (l : List Brush) → All (FitBrush n textures) l → Good (write_items write_brush l)
brushes-bytes n textures [] h = record { ok = tt }
brushes-bytes n textures (b ∷ l) h =
    text-bytes b.name.bytes _ h.0.0 (words-bytes b.words _ (words-bytes b.ids _ (brushes-bytes n textures l h.1)))

texture_chunks-bytes : (l : List Texture) (r : List Chunk) → All FitTexture l → Bodies r → Bodies (texture_chunks l r)
texture_chunks-bytes [] r h k = k
texture_chunks-bytes (t ∷ l) r h k = (textures-bytes (t ∷ l) h, k)

brush-chunks-bytes : (n textures : ℕ) (l : List Brush) (r : List Chunk) → All (FitBrush n textures) l → Bodies r → Bodies (brush_chunks n l r)
brush-chunks-bytes n textures [] r h k = k
brush-chunks-bytes n textures (b ∷ l) r h k = (words-bytes (n ∷ []) _ (brushes-bytes n textures (b ∷ l) h), k)

pub encode-bytes : (t : Scene) → WellFormed t → AllBytes (encode t)
unfolding encode write_scene
encode-bytes t h =
    (words-bytes (code BB3D ∷ length (write_scene t) ∷ []) _ (words-bytes (t.version ∷ []) _ (chunks-bytes _
    (texture_chunks-bytes t.textures _ h.textures (brush-chunks-bytes t.slots (length t.textures) t.brushes _ h.brushes
    (nodes-bytes levels (length t.brushes) none t.nodes h.nodes)))))).ok
