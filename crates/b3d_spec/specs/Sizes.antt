-- How long the shortest file of a scene is, in numbers that a walk over it can add up.
use Rattle.std.specs.Prelude.{ℕ, ◌+◌, ◌*◌, List, [], ◌∷◌, length}
use Rattle.b3d_spec.specs.Rules.{vertex_words, key_words}
use Rattle.b3d_spec.specs.Scene.{Texture, Brush, TriangleSet, Kind, pivot, mesh, bone, Keys, Anim, no_anim, anim, Forest, no_nodes, node, Scene}

-- the items of TEXS: text, zero, 7 words each
abbrev pub texture_size : List Texture → ℕ
texture_size [] = 0
texture_size (t ∷ l) = length t.name.bytes + 29 + texture_size l

-- TEXS with its header, if there is a texture
abbrev pub texs_size : List Texture → ℕ
texs_size [] = 0
texs_size (t ∷ l) = 8 + texture_size (t ∷ l)

-- the items of BRUS: text, zero, 7 words and `slots` ids each
abbrev pub brush_size : ℕ → List Brush → ℕ
brush_size slots [] = 0
brush_size slots (b ∷ l) = length b.name.bytes + 29 + 4 * slots + brush_size slots l

-- BRUS with its header and n_texs, if there is a brush
abbrev pub brus_size : ℕ → List Brush → ℕ
brus_size slots [] = 0
brus_size slots (b ∷ l) = 12 + brush_size slots (b ∷ l)

-- the TRIS of a mesh: header, brush, 3 words a triangle
abbrev pub sets_size : List TriangleSet → ℕ
sets_size [] = 0
sets_size (x ∷ l) = 12 + length x.triangles * 12 + sets_size l

-- a MESH: header, brush, the VRTS with its header, 3 numbers and the vertices, and the TRIS; or a BONE: header, 2 words a weight
abbrev pub kind_size : Kind → ℕ
kind_size pivot = 0
kind_size (mesh m) = 32 + length m.vertices * (4 * vertex_words m.flags m.sets m.size) + sets_size m.triangle_sets
kind_size (bone ws) = 8 + length ws * 8

-- the KEYS of a node: header, flags, the words of the keys
abbrev pub keys_size : List Keys → ℕ
keys_size [] = 0
keys_size (k ∷ l) = 12 + length k.items * (4 * key_words k.flags) + keys_size l

-- an ANIM: header, 3 words
abbrev pub anim_size : Anim → ℕ
anim_size no_anim = 0
anim_size (anim ws) = 20

-- the NODEs with what is inside: header, text, zero, 10 words each
abbrev pub nodes_size : Forest → ℕ
nodes_size no_nodes = 0
nodes_size (node d f g) = 49 + length d.name.bytes + kind_size d.kind + keys_size d.keys + anim_size d.anim + nodes_size f + nodes_size g

-- the bytes of the shortest file of scene t: BB3D's header and version, TEXS, BRUS, NODE
unfoldable pub size_of : Scene → ℕ
size_of t = 12 + texs_size t.textures + brus_size t.slots t.brushes + nodes_size t.nodes
