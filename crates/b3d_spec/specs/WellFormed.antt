-- Which scenes a file can hold, as a test: words against their rules, texts without a zero, at most 16 levels, one root. This is of the lenient mode; what
-- the strict one asks of colours besides is in Colours.
use Rattle.std.specs.Prelude.{ℕ, zero, suc, Bool, true, false, ◌&&◌, List, [], ◌∷◌, length, ltb, eqb}
use Rattle.std.proofs.Math.Option.{Option, none}
use Rattle.layout.specs.WellFormed.{all, row_fits, text_fits}
use Rattle.b3d_spec.specs.Rules.{texture_row, brush_row, brush_ids, node_row, vertex_row, triangle_row, weight_row, key_row, anim_row, bone_limit, bone_limit_below, levels, file_head, brushes_head, mesh_head, vertices_head, triangles_head, keys_head}
use Rattle.b3d_spec.specs.declared.Mode.TheVariants.{Lenient}
use Rattle.b3d_spec.specs.Scene.{Texture, Brush, TriangleSet, Mesh, Kind, pivot, mesh, bone, Keys, Anim, no_anim, anim, Data, Forest, no_nodes, node, Scene}

-- texture t can stand in a file
abbrev pub texture_fits : Texture → Bool
texture_fits t = text_fits t.name.bytes && row_fits texture_row t.words

-- brush b can stand in a file with n_texs `slots` and this number of `textures`
abbrev pub brush_fits : ℕ → ℕ → Brush → Bool
brush_fits slots textures b = text_fits b.name.bytes && (row_fits (brush_row Lenient) b.words && row_fits (brush_ids slots textures) b.ids)

-- triangle set x can stand in a file with this number of `brushes`, in a mesh with this number of `vertices`
abbrev pub triangles_fit : ℕ → ℕ → TriangleSet → Bool
triangles_fit brushes vertices x = row_fits (triangles_head brushes) (x.brush ∷ []) && all (row_fits (triangle_row vertices)) x.triangles

-- mesh m can stand in a file with this number of `brushes`: it has one triangle set or more
abbrev pub mesh_fits : ℕ → Mesh → Bool
mesh_fits brushes m =
    row_fits (mesh_head brushes) (m.brush ∷ [])
    && (row_fits vertices_head (m.flags ∷ m.sets ∷ m.size ∷ [])
    && (all (row_fits (vertex_row Lenient m.flags m.sets m.size)) m.vertices
    && (all (triangles_fit brushes (length m.vertices)) m.triangle_sets && ltb 0 (length m.triangle_sets))))

-- key list k can stand in a file
abbrev pub keys_fit : Keys → Bool
keys_fit k = row_fits keys_head (k.flags ∷ []) && all (row_fits (key_row k.flags)) k.items

-- a node's kind can stand in a file with this number of `brushes`, where a bone may name this number of `vertices`
abbrev pub kind_fits : ℕ → ℕ → Kind → Bool
kind_fits brushes vertices pivot = true
kind_fits brushes vertices (mesh m) = mesh_fits brushes m
kind_fits brushes vertices (bone ws) = all (row_fits (weight_row vertices)) ws

-- a node's ANIM can stand in a file; so can none
abbrev pub anim_fits : Anim → Bool
anim_fits no_anim = true
anim_fits (anim ws) = row_fits anim_row ws

-- the data d of a node can stand in a file with this number of `brushes`, where a bone may name this number of `vertices`
abbrev pub data_fits : ℕ → ℕ → Data → Bool
data_fits brushes vertices d =
    text_fits d.name.bytes && (row_fits node_row d.words && (kind_fits brushes vertices d.kind && (all keys_fit d.keys && anim_fits d.anim)))

-- the nodes can stand in a file with this number of `brushes`, with l levels left; `above`: how many vertices their bones may name, none for the root
abbrev pub nodes_fit : ℕ → ℕ → Option ℕ → Forest → Bool
nodes_fit zero brushes above no_nodes = true
nodes_fit zero brushes above (node d f g) = false
nodes_fit (suc l) brushes above no_nodes = true
nodes_fit (suc l) brushes above (node d f g) =
    data_fits brushes (bone_limit above) d && (nodes_fit l brushes (bone_limit_below above d) f && nodes_fit (suc l) brushes above g)

-- at most one node has no node above it
abbrev pub one_root : Forest → Bool
one_root no_nodes = true
one_root (node d f no_nodes) = true
one_root (node d f (node e g h)) = false

-- n can be the n_texs of a file with these brushes: 0 where there is no brush
abbrev pub slots_fit : ℕ → List Brush → Bool
slots_fit n [] = eqb n 0
slots_fit n (b ∷ l) = row_fits brushes_head (n ∷ [])

-- scene t can stand in a file
unfoldable pub fits : Scene → Bool
fits t =
    row_fits file_head (t.version ∷ [])
    && (all texture_fits t.textures
    && (slots_fit t.slots t.brushes
    && (all (brush_fits t.slots (length t.textures)) t.brushes
    && (nodes_fit levels (length t.brushes) none t.nodes && one_root t.nodes))))
