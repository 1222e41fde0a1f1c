-- From bytes to a scene, or to the first refusal in reading order: checks 1 to 9. A chunk's reader is given the place of its
-- header, p, and its body, which starts at p + 8. Which chunks come, and in which order, `inside` has seen to.
use Rattle.std.specs.Prelude.{ℕ, zero, suc, ◌+◌, List, [], ◌∷◌, ◌++◌, length, take, drop, eqb}
use Rattle.std.proofs.Math.Option.{Option, none}
use Rattle.wire.specs.Test.{if}
use Rattle.layout.specs.Chunks.{done, stop, chunk, ended}
use Rattle.layout.specs.Result.{Result, accept, reject, check, ◌>>=◌}
use Rattle.layout.specs.Parts.{Name, Step, row, number, named, items}
use Rattle.layout.specs.Rows.{size_fits}
use Rattle.layout.specs.Refusals as refusals
use Rattle.b3d_spec.specs.Nesting.{inside}
use Rattle.b3d_spec.specs.Rules.{texture_row, brush_row, brush_ids, node_row, vertex_row, triangle_row, weight_row, key_row, anim_row, bone_limit, bone_limit_below, levels, header, file_head, brushes_head, mesh_head, vertices_head, triangles_head, keys_head}
use Rattle.b3d_spec.specs.Scene.{Texture, Brush, TriangleSet, Mesh, Kind, pivot, mesh, bone, Keys, Anim, no_anim, anim, Data, Forest, no_nodes, node, Scene}
use Rattle.b3d_spec.specs.declared.Mode.{Mode}
use Rattle.b3d_spec.specs.declared.Tag.{Tag}
use Rattle.b3d_spec.specs.declared.Tag.TheVariants.{BB3D, TEXS, BRUS, NODE, MESH, VRTS, BONE, KEYS, ANIM}
use Rattle.b3d_spec.specs.Tags.{code, is, Chunks, Found}

-- ---- a chunk

-- the first chunk, read by `one`, if its tag is k; else `a`, and the chunk is left
unfoldable pub read_one : {A : Type 0} → Tag → A → (ℕ → List ℕ → Result A) → Chunks → Result (Found A)
read_one k a one done = accept (record { value = a; rest = done })
read_one k a one (stop n p) = reject n p
read_one {A} k a one (chunk t p b r) =
    let it : Result (Found A) = one p b >>= λ x. accept (record { value = x; rest = r }) in
    if (is t k) it (accept (record { value = a; rest = chunk t p b r }))

-- ---- textures and brushes

-- a texture of its name and its seven words
abbrev pub texture_of : Name × List ℕ → Texture
texture_of x = record { name = x.0; words = x.1 }

-- a brush of its name and its words: seven, then the texture ids
abbrev pub brush_of : Name × List ℕ → Brush
brush_of x = record { name = x.0; words = take 7 x.1; ids = drop 7 x.1 }

-- a texture at place p: a text and seven words
unfoldable pub read_texture : ℕ → List ℕ → Result (Step Texture)
read_texture p s = do
  x ← named texture_row p s
  accept (record { value = texture_of x.value; place = x.place; left = x.left })

-- the body b of a TEXS whose header is at p: textures to the end
unfoldable pub read_textures : ℕ → List ℕ → Result (List Texture)
read_textures p b = items read_texture (p + 8) b

-- a brush at place p: a text, seven words and `slots` texture ids, each -1 or below `textures`
unfoldable pub read_brush : Mode → ℕ → ℕ → ℕ → List ℕ → Result (Step Brush)
read_brush mode slots textures p s = do
  x ← named (brush_row mode ++ brush_ids slots textures) p s
  accept (record { value = brush_of x.value; place = x.place; left = x.left })

-- the body b of a BRUS whose header is at p: n_texs, and the brushes to the end
unfoldable pub read_brushes : Mode → ℕ → ℕ → List ℕ → Result (ℕ × List Brush)
read_brushes mode textures p b = do
  h ← row brushes_head (p + 8) b
  l ← items (read_brush mode (number h 0) textures) h.place h.left
  accept (number h 0, l)

-- ---- meshes

-- what a VRTS holds: its fixed data, and a list of words for each vertex
pub record Vertices : Type 0 where
  pub flags : ℕ
  pub sets : ℕ
  pub size : ℕ
  pub items : List (List ℕ)

-- what stands for a VRTS where there is none; no MESH that is read is without one
abbrev pub no_vertices : Vertices
no_vertices = record { flags = 0; sets = 0; size = 0; items = [] }

-- the body b of a VRTS whose header is at p: flags, sets, set size, and the vertices to the end
unfoldable pub read_vertices : Mode → ℕ → List ℕ → Result Vertices
read_vertices mode p b = do
  h ← row vertices_head (p + 8) b
  l ← items (row (vertex_row mode (number h 0) (number h 1) (number h 2))) h.place h.left
  accept (record { flags = number h 0; sets = number h 1; size = number h 2; items = l })

-- the body b of a TRIS whose header is at p: its brush id, -1 or below `brushes`, and triangles of ids below `vertices`, to the end
unfoldable pub read_triangles : ℕ → ℕ → ℕ → List ℕ → Result TriangleSet
read_triangles brushes vertices p b = do
  h ← row (triangles_head brushes) (p + 8) b
  l ← items (row (triangle_row vertices)) h.place h.left
  accept (record { brush = number h 0; triangles = l })

-- TRIS chunks to the end, in a mesh with this number of `vertices`
unfoldable pub read_sets : ℕ → ℕ → Chunks → Result (List TriangleSet)
read_sets brushes vertices done = accept []
read_sets brushes vertices (stop n p) = reject n p
read_sets brushes vertices (chunk t p b r) = do
  x ← read_triangles brushes vertices p b
  l ← read_sets brushes vertices r
  accept (x ∷ l)

-- the body b of a MESH whose header is at p: its brush id, one VRTS, then one or more TRIS
unfoldable pub read_mesh : Mode → ℕ → ℕ → List ℕ → Result Mesh
read_mesh mode brushes p b = do
  h ← row (mesh_head brushes) (p + 8) b
  v ← read_one VRTS no_vertices (read_vertices mode) (inside MESH p h.place h.left)
  l ← read_sets brushes (length v.value.items) v.rest
  accept (record { brush = number h 0; flags = v.value.flags; sets = v.value.sets; size = v.value.size; vertices = v.value.items; triangle_sets = l })

-- ---- bones, keys, animation

-- the body b of a BONE whose header is at p: weights of ids below `vertices`, to the end
unfoldable pub read_bone : ℕ → ℕ → List ℕ → Result (List (List ℕ))
read_bone vertices p b = items (row (weight_row vertices)) (p + 8) b

-- the body b of a KEYS whose header is at p: its flags, and the keys to the end
unfoldable pub read_keys : ℕ → List ℕ → Result Keys
read_keys p b = do
  h ← row keys_head (p + 8) b
  l ← items (row (key_row (number h 0))) h.place h.left
  accept (record { flags = number h 0; items = l })

-- the words ws where no byte is left behind them; else 5 at p
unfoldable pub filled : ℕ → List ℕ → List ℕ → Result (List ℕ)
filled p [] ws = accept ws
filled p (c ∷ s) ws = reject refusals.cut_item p

-- the body b of an ANIM whose header is at p: three words, and 5 where the length is not 12
unfoldable pub read_anim : ℕ → List ℕ → Result (List ℕ)
read_anim p b = do
  x ← row anim_row (p + 8) b
  filled (p + 8) x.left x.value

-- ---- nodes

-- the MESH with its header at p and body b as a node's kind, before the chunks r
unfoldable pub a_mesh : Mode → ℕ → ℕ → List ℕ → Chunks → Result (Found Kind)
a_mesh mode brushes p b r = do
  m ← read_mesh mode brushes p b
  accept (record { value = mesh m; rest = r })

-- the BONE with its header at p and body b as a node's kind, before the chunks r
unfoldable pub a_bone : ℕ → ℕ → List ℕ → Chunks → Result (Found Kind)
a_bone vertices p b r = do
  ws ← read_bone vertices p b
  accept (record { value = bone ws; rest = r })

-- a MESH or a BONE, if it comes first; else the node is a pivot, and the chunks are left
unfoldable pub read_kind : Mode → ℕ → ℕ → Chunks → Result (Found Kind)
read_kind mode brushes vertices done = accept (record { value = pivot; rest = done })
read_kind mode brushes vertices (stop n p) = reject n p
read_kind mode brushes vertices (chunk t p b r) =
    let m = a_mesh mode brushes p b r in
    let w = a_bone vertices p b r in
    let other = if (is t BONE) w (accept (record { value = pivot; rest = chunk t p b r })) in
    if (is t MESH) m other

-- the KEYS of a node, in file order, and its ANIM
pub record Animation : Type 0 where
  pub keys : List Keys
  pub anim : Anim

-- what was found in x, with the keys k before its own
unfoldable pub with_keys : Keys → Found Animation → Found Animation
with_keys k x = record { value = record { keys = k ∷ x.value.keys; anim = x.value.anim }; rest = x.rest }

-- KEYS and ANIM, in any mix; `seen` is the ANIM read so far
unfoldable pub read_animation : Anim → Chunks → Result (Found Animation)
read_animation seen done = accept (record { value = record { keys = []; anim = seen }; rest = done })
read_animation seen (stop n p) = reject n p
read_animation seen (chunk t p b r) =
    let k = read_keys p b >>= λ x. read_animation seen r >>= λ l. accept (with_keys x l) in
    let a = read_anim p b >>= λ ws. read_animation (anim ws) r in
    let other = if (is t ANIM) a (accept (record { value = record { keys = []; anim = seen }; rest = chunk t p b r })) in
    if (is t KEYS) k other

-- a node and the nodes below it
pub record Inner : Type 0 where
  pub self : Data
  pub below : Forest

-- NODE chunks to the end, each read by `one`
unfoldable pub read_nodes : (ℕ → List ℕ → Result Inner) → Chunks → Result Forest
read_nodes one done = accept no_nodes
read_nodes one (stop n p) = reject n p
read_nodes one (chunk t p b r) = do
  x ← one p b
  l ← read_nodes one r
  accept (node x.self x.below l)

-- a node with data d and the nodes below it, read by `one` from the chunks cs; `above`: how many vertices the node's own bones may name, none for the root
unfoldable pub read_below : (Option ℕ → ℕ → List ℕ → Result Inner) → Option ℕ → Data → Chunks → Result Inner
read_below one above d cs = do
  f ← read_nodes (one (bone_limit_below above d)) cs
  accept (record { self = d; below = f })

-- the body b of a NODE whose header is at p, with l levels left: 9 at p with none. `above`: how many vertices its bones may name, none for the root
unfoldable pub read_node : Mode → ℕ → ℕ → Option ℕ → ℕ → List ℕ → Result Inner
read_node mode zero brushes above p b = reject refusals.too_deep p
read_node mode (suc l) brushes above p b = do
  h ← named node_row (p + 8) b
  k ← read_kind mode brushes (bone_limit above) (inside NODE p h.place h.left)
  m ← read_animation no_anim k.rest
  read_below (read_node mode l brushes) above
      (record { name = h.value.0; words = h.value.1; kind = k.value; keys = m.value.keys; anim = m.value.anim })
      m.rest

-- the body b of the root NODE whose header is at p, with the nodes below it
unfoldable pub read_root : Mode → ℕ → ℕ → List ℕ → Result Forest
read_root mode brushes p b = do
  x ← read_node mode levels brushes none p b
  accept (node x.self x.below no_nodes)

-- ---- the file

-- 01: n_texs is 0 if there is no brush, else n
unfoldable pub slots_of : ℕ → List Brush → ℕ
slots_of n [] = 0
slots_of n (b ∷ l) = n

-- the body b of BB3D, at place p: the version, at most one each of TEXS, BRUS, NODE, in that order
unfoldable pub read_body : Mode → ℕ → List ℕ → Result Scene
read_body mode p b = do
  h ← row file_head p b
  t ← read_one TEXS [] read_textures (inside BB3D 0 h.place h.left)
  u ← read_one BRUS (0, []) (read_brushes mode (length t.value)) t.rest
  n ← read_one NODE no_nodes (read_root mode (length u.value.1)) u.rest
  ended n.rest
      (record { version = number h 0; textures = t.value; slots = slots_of u.value.0 u.value.1; brushes = u.value.1; nodes = n.value })

-- what the file s says in a mode, or its first refusal 1 to 9: one BB3D, whose length is that of the bytes after its header
unfoldable pub parse : Mode → List ℕ → Result Scene
parse mode s = do
  _ ← check (size_fits (length s)) refusals.file_size 0
  h ← row header 0 s
  _ ← check (eqb (number h 0) (code BB3D)) refusals.first_tag 0
  _ ← check (eqb (number h 1) (length h.left)) refusals.first_tag 4
  read_body mode h.place h.left
