-- The shortest file of a scene: known chunks only, and TEXS, BRUS only if they have rows. A part is written before what follows.
use Rattle.std.specs.Prelude.{ℕ, List, [], ◌∷◌, length}
use Rattle.layout.specs.Write.{write_words, write_text, write_items}
use Rattle.b3d_spec.specs.Scene.{Texture, Brush, TriangleSet, Mesh, Kind, pivot, mesh, bone, Keys, Anim, no_anim, anim, Data, Forest, no_nodes, node, Scene}
use Rattle.b3d_spec.specs.declared.Tag.TheVariants.{BB3D, TEXS, BRUS, NODE, MESH, VRTS, TRIS, BONE, KEYS, ANIM}
use Rattle.b3d_spec.specs.Tags.{Chunk, write_chunks, code}

-- ---- bodies

-- texture t as an item of TEXS, before r: its text, its seven words
abbrev pub write_texture : Texture → List ℕ → List ℕ
write_texture t r = write_text t.name.bytes (write_words t.words r)

-- brush b as an item of BRUS, before r: its text, its seven words, its texture ids
abbrev pub write_brush : Brush → List ℕ → List ℕ
write_brush b r = write_text b.name.bytes (write_words b.words (write_words b.ids r))

-- the body of the VRTS of mesh m: flags, sets, set size, then the vertices
unfoldable pub write_vertices : Mesh → List ℕ
write_vertices m = write_words (m.flags ∷ m.sets ∷ m.size ∷ []) (write_items write_words m.vertices)

-- the body of a TRIS: the brush of triangle set x, then its triangles
unfoldable pub write_triangles : TriangleSet → List ℕ
write_triangles x = write_words (x.brush ∷ []) (write_items write_words x.triangles)

-- a TRIS for each triangle set
abbrev pub set_chunks : List TriangleSet → List Chunk
set_chunks [] = []
set_chunks (x ∷ l) = record { tag = TRIS; body = write_triangles x } ∷ set_chunks l

-- the body of the MESH of m: its brush, one VRTS, then its TRIS
unfoldable pub write_mesh : Mesh → List ℕ
write_mesh m = write_words (m.brush ∷ []) (write_chunks (record { tag = VRTS; body = write_vertices m } ∷ set_chunks m.triangle_sets))

-- the body of the KEYS of k: its flags, then its keys
unfoldable pub write_keys : Keys → List ℕ
write_keys k = write_words (k.flags ∷ []) (write_items write_words k.items)

-- ---- nodes: the kind, KEYS, ANIM, the nodes below; each before the chunks that follow

-- the MESH or BONE of a node's kind, none for a pivot, before the chunks r
abbrev pub kind_chunks : Kind → List Chunk → List Chunk
kind_chunks pivot r = r
kind_chunks (mesh m) r = record { tag = MESH; body = write_mesh m } ∷ r
kind_chunks (bone ws) r = record { tag = BONE; body = write_items write_words ws } ∷ r

-- a KEYS for each key list, before the chunks r
abbrev pub key_chunks : List Keys → List Chunk → List Chunk
key_chunks [] r = r
key_chunks (k ∷ l) r = record { tag = KEYS; body = write_keys k } ∷ key_chunks l r

-- the ANIM of a node, if it has one, before the chunks r
abbrev pub anim_chunks : Anim → List Chunk → List Chunk
anim_chunks no_anim r = r
anim_chunks (anim ws) r = record { tag = ANIM; body = write_words ws [] } ∷ r

-- a NODE's body, of its data d and the chunks of the nodes `below` it
unfoldable pub write_node : Data → List Chunk → List ℕ
write_node d below =
    write_text d.name.bytes (write_words d.words (write_chunks (kind_chunks d.kind (key_chunks d.keys (anim_chunks d.anim below)))))

-- a NODE for each node that has no node above it in the forest, the nodes below it inside
unfoldable pub node_chunks : Forest → List Chunk
node_chunks no_nodes = []
node_chunks (node d f g) = record { tag = NODE; body = write_node d (node_chunks f) } ∷ node_chunks g

-- ---- the file

-- the TEXS of the textures, none where there is no texture, before the chunks r
abbrev pub texture_chunks : List Texture → List Chunk → List Chunk
texture_chunks [] r = r
texture_chunks (t ∷ l) r = record { tag = TEXS; body = write_items write_texture (t ∷ l) } ∷ r

-- the BRUS of the brushes, each with `slots` texture ids, none where there is no brush, before the chunks r
abbrev pub brush_chunks : ℕ → List Brush → List Chunk → List Chunk
brush_chunks slots [] r = r
brush_chunks slots (b ∷ l) r = record { tag = BRUS; body = write_words (slots ∷ []) (write_items write_brush (b ∷ l)) } ∷ r

-- the body of the BB3D of scene t: version, TEXS, BRUS, NODE
unfoldable pub write_scene : Scene → List ℕ
write_scene t =
    write_words (t.version ∷ []) (write_chunks (texture_chunks t.textures (brush_chunks t.slots t.brushes (node_chunks t.nodes))))

-- the shortest file of scene t: BB3D's letters, its length and its body
unfoldable pub encode : Scene → List ℕ
encode t = write_words (code BB3D ∷ length (write_scene t) ∷ []) (write_scene t)
