-- The rules of the format, each said once: ranges, ids, how many words an item has, which vertices a bone may name, limits.
use Rattle.std.specs.Prelude.{ℕ, ◌+◌, ◌*◌, ◌/◌, ◌%◌, Bool, true, false, List, [], ◌∷◌, ◌++◌, length, replicate}
use Rattle.std.proofs.Math.Option.{Option, none, some}
use Rattle.layout.specs.Rules.{Rule, any, up_to, names, names_or_none, unit}
use Rattle.b3d_spec.specs.declared.Mode.{Mode}
use Rattle.b3d_spec.specs.declared.Mode.TheVariants.{Strict, Lenient}
use Rattle.b3d_spec.specs.Scene.{Kind, pivot, mesh, bone, Anim, no_anim, anim, Data}

-- ---- ranges

-- 01: the highest version is 99
abbrev pub highest_version : ℕ
highest_version = 99

-- 01: from 0 to `highest_version`
abbrev pub version : Rule
version = up_to highest_version

-- 01: n_texs is at most 8
abbrev pub most_slots : ℕ
most_slots = 8

-- 01: from 0 to `most_slots`
abbrev pub slots : Rule
slots = up_to most_slots

-- 01: the highest VRTS flags are 3
abbrev pub highest_vertex_flags : ℕ
highest_vertex_flags = 3

-- 01: from 0 to `highest_vertex_flags`
abbrev pub vertex_flags : Rule
vertex_flags = up_to highest_vertex_flags

-- 01: a vertex has at most 8 sets of coordinates
abbrev pub most_sets : ℕ
most_sets = 8

-- 01: from 0 to `most_sets`
abbrev pub sets : Rule
sets = up_to most_sets

-- 01: a set has at most 4 coordinates
abbrev pub largest_set : ℕ
largest_set = 4

-- 01: from 0 to `largest_set`
abbrev pub set_size : Rule
set_size = up_to largest_set

-- 01: the highest KEYS flags are 7
abbrev pub highest_key_flags : ℕ
highest_key_flags = 7

-- 01: from 0 to `highest_key_flags`
abbrev pub key_flags : Rule
key_flags = up_to highest_key_flags

-- a red, green, blue or alpha (E8): from 0 to 1 in the strict mode, any float in the lenient one
abbrev pub colour : Mode → Rule
colour Strict = unit
colour Lenient = any

-- ---- ids

-- 01 and E2: a texture id names one of this number of `textures`, or is -1
abbrev pub texture_id : ℕ → Rule
texture_id textures = names_or_none textures

-- 01: a brush id is -1 or names one of this number of `brushes`
abbrev pub brush_id : ℕ → Rule
brush_id brushes = names_or_none brushes

-- 01: a vertex id names one of this number of `vertices`; -1 is not allowed
abbrev pub vertex_id : ℕ → Rule
vertex_id vertices = names vertices

-- ---- how many words

-- n where the flags have this bit, else 0
abbrev pub when : ℕ → ℕ → ℕ → ℕ
when bit flags n = flags / bit % 2 * n

-- the words of a vertex in the file: 3 position, 3 normal if flag 1, 4 colour if flag 2, sets x set size
unfoldable pub vertex_words : ℕ → ℕ → ℕ → ℕ
vertex_words flags sets size = 3 + when 1 flags 3 + when 2 flags 4 + sets * size

-- the words of a key in the file: the frame, 3 position if flag 1, 3 scale if flag 2, 4 rotation if flag 4
unfoldable pub key_words : ℕ → ℕ
key_words flags = 1 + when 1 flags 3 + when 2 flags 3 + when 4 flags 4

-- ---- the chunks: fixed data, then an item; a text stands before the row of a texture, a brush and a node

-- the header of any chunk: tag, length
abbrev pub header : List Rule
header = any ∷ any ∷ []

-- BB3D, fixed data: version
abbrev pub file_head : List Rule
file_head = version ∷ []

-- TEXS, an item behind its text: flags, blend, position x y, scale x y, rotation
abbrev pub texture_row : List Rule
texture_row = replicate 7 any

-- BRUS, fixed data: n_texs
abbrev pub brushes_head : List Rule
brushes_head = slots ∷ []

-- BRUS, an item behind its text: red green blue alpha, shininess, blend, fx
abbrev pub brush_row : Mode → List Rule
brush_row mode = replicate 4 (colour mode) ++ replicate 3 any

-- BRUS, the end of an item: n_texs texture ids
abbrev pub brush_ids : ℕ → ℕ → List Rule
brush_ids slots textures = replicate slots (texture_id textures)

-- NODE, fixed data behind its text: 3 position, 3 scale, 4 rotation
abbrev pub node_row : List Rule
node_row = replicate 10 any

-- MESH, fixed data: brush id
abbrev pub mesh_head : ℕ → List Rule
mesh_head brushes = brush_id brushes ∷ []

-- VRTS, fixed data: flags, sets, set size
abbrev pub vertices_head : List Rule
vertices_head = vertex_flags ∷ sets ∷ set_size ∷ []

-- VRTS, an item: 3 position; 3 normal if flag 1; 4 colour if flag 2; sets x set size floats. Only the strict mode looks at the colours
abbrev pub vertex_row : Mode → ℕ → ℕ → ℕ → List Rule
vertex_row Strict flags sets size = replicate (3 + when 1 flags 3) any ++ (replicate (when 2 flags 4) (colour Strict) ++ replicate (sets * size) any)
vertex_row Lenient flags sets size = replicate (vertex_words flags sets size) any

-- TRIS, fixed data: brush id
abbrev pub triangles_head : ℕ → List Rule
triangles_head brushes = brush_id brushes ∷ []

-- TRIS, an item: 3 vertex ids, each below `vertices`
abbrev pub triangle_row : ℕ → List Rule
triangle_row vertices = vertex_id vertices ∷ vertex_id vertices ∷ vertex_id vertices ∷ []

-- BONE, an item: vertex id, below `vertices`, and weight
abbrev pub weight_row : ℕ → List Rule
weight_row vertices = vertex_id vertices ∷ any ∷ []

-- KEYS, fixed data: flags
abbrev pub keys_head : List Rule
keys_head = key_flags ∷ []

-- KEYS, an item: frame; 3 position if flag 1; 3 scale if flag 2; 4 rotation if flag 4
abbrev pub key_row : ℕ → List Rule
key_row flags = replicate (key_words flags) any

-- ANIM, fixed data: flags, frames, fps
abbrev pub anim_row : List Rule
anim_row = replicate 3 any

-- ---- bones

-- how many vertices the MESH of a node of this kind has; 0 without a MESH
abbrev pub own_vertices : Kind → ℕ
own_vertices pivot = 0
own_vertices (mesh m) = length m.vertices
own_vertices (bone ws) = 0

-- how many vertices a BONE of a node may name, from what holds above it; 0 for the root, above which there is no node
abbrev pub bone_limit : Option ℕ → ℕ
bone_limit none = 0
bone_limit (some n) = n

-- there is an ANIM
abbrev pub animated : Anim → Bool
animated no_anim = false
animated (anim ws) = true

-- how many vertices a BONE below a node may name (E3): `own`, those of the node's own MESH, if the node is the root (none) or has an ANIM (a is true); else
-- n, as for the node's own BONE. So the nearest node above a bone with an ANIM decides, and the root where there is none
abbrev pub bone_limit_from : Option ℕ → Bool → ℕ → Option ℕ
bone_limit_from none a own = some own
bone_limit_from (some n) true own = some own
bone_limit_from (some n) false own = some n

-- how many vertices a BONE below the node with data d may name, from what holds `above` the node
abbrev pub bone_limit_below : Option ℕ → Data → Option ℕ
bone_limit_below above d = bone_limit_from above (animated d.anim) (own_vertices d.kind)

-- ---- limits

-- 01: nodes nest at most 16 deep, the root being 1
abbrev pub levels : ℕ
levels = 16

-- E12: a table has at most 2,097,151 rows
abbrev pub row_limit : ℕ
row_limit = 2097151
