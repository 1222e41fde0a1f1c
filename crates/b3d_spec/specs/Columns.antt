-- The columns of the ten tables (01): at which word of a row a cell stands, as include/kelompuris.h names them.
use Rattle.std.specs.Prelude.{ℕ}

-- ---- the names of textures, brushes and nodes

-- the place of the name
abbrev pub name_place : ℕ
name_place = 0

-- the length of the name, without the zero that ends it
abbrev pub name_length : ℕ
name_length = 1

-- ---- table 1, textures

-- the flags of a texture, the first word behind its name
abbrev pub texture_flags : ℕ
texture_flags = 2

-- the blend of a texture
abbrev pub texture_blend : ℕ
texture_blend = 3

-- the position of a texture, x and y
abbrev pub texture_position : ℕ
texture_position = 4

-- the scale of a texture, x and y
abbrev pub texture_scale : ℕ
texture_scale = 6

-- the rotation of a texture
abbrev pub texture_rotation : ℕ
texture_rotation = 8

-- ---- table 2, brushes

-- red, green, blue and alpha of a brush, the first words behind its name
abbrev pub brush_colour : ℕ
brush_colour = 2

-- the shininess of a brush
abbrev pub brush_shininess : ℕ
brush_shininess = 6

-- the blend of a brush
abbrev pub brush_blend : ℕ
brush_blend = 7

-- the fx of a brush
abbrev pub brush_fx : ℕ
brush_fx = 8

-- the eight texture slots of a brush
abbrev pub brush_textures : ℕ
brush_textures = 9

-- ---- table 3, nodes

-- the parent of a node
abbrev pub node_parent : ℕ
node_parent = 2

-- the position of a node, x y z; scale and rotation follow
abbrev pub node_position : ℕ
node_position = 3

-- the scale of a node, x y z
abbrev pub node_scale : ℕ
node_scale = 6

-- the rotation of a node, w x y z
abbrev pub node_rotation : ℕ
node_rotation = 9

-- the kind of a node: 0 pivot, 1 mesh, 2 bone
abbrev pub node_kind : ℕ
node_kind = 13

-- the mesh of a node, or its first weight
abbrev pub node_first : ℕ
node_first = 14

-- 1 for a node with a mesh, how many weights for a bone, else 0
abbrev pub node_count : ℕ
node_count = 15

-- 1 if a node has an ANIM, whose three numbers follow
abbrev pub node_anim : ℕ
node_anim = 16

-- the flags of the ANIM of a node
abbrev pub node_anim_flags : ℕ
node_anim_flags = 17

-- the frames of the ANIM of a node
abbrev pub node_anim_frames : ℕ
node_anim_frames = 18

-- the frames per second of the ANIM of a node
abbrev pub node_anim_fps : ℕ
node_anim_fps = 19

-- how many nodes are below a node, at all depths (E4)
abbrev pub node_below : ℕ
node_below = 20

-- ---- table 4, meshes

-- the node of a mesh
abbrev pub mesh_node : ℕ
mesh_node = 0

-- the brush of a mesh
abbrev pub mesh_brush : ℕ
mesh_brush = 1

-- the VRTS flags of a mesh
abbrev pub mesh_flags : ℕ
mesh_flags = 2

-- the sets of coordinates of a vertex of a mesh
abbrev pub mesh_sets : ℕ
mesh_sets = 3

-- the coordinates of a set of a mesh
abbrev pub mesh_set_size : ℕ
mesh_set_size = 4

-- the first vertex of a mesh
abbrev pub mesh_first_vertex : ℕ
mesh_first_vertex = 5

-- how many vertices a mesh has
abbrev pub mesh_vertices : ℕ
mesh_vertices = 6

-- the first triangle set of a mesh
abbrev pub mesh_first_triangle_set : ℕ
mesh_first_triangle_set = 7

-- how many triangle sets a mesh has
abbrev pub mesh_triangle_sets : ℕ
mesh_triangle_sets = 8

-- ---- table 5, vertices

-- the position of a vertex, x y z
abbrev pub vertex_position : ℕ
vertex_position = 0

-- the normal of a vertex, x y z
abbrev pub vertex_normal : ℕ
vertex_normal = 3

-- red, green, blue and alpha of a vertex
abbrev pub vertex_colour : ℕ
vertex_colour = 6

-- the coordinates of a vertex: coordinate c of set s is 4 * s + c words further
abbrev pub vertex_coordinates : ℕ
vertex_coordinates = 10

-- ---- table 6, triangle sets

-- the mesh of a triangle set
abbrev pub triangle_set_mesh : ℕ
triangle_set_mesh = 0

-- the brush of a triangle set
abbrev pub triangle_set_brush : ℕ
triangle_set_brush = 1

-- the first triangle of a triangle set
abbrev pub triangle_set_first_triangle : ℕ
triangle_set_first_triangle = 2

-- how many triangles a triangle set has
abbrev pub triangle_set_triangles : ℕ
triangle_set_triangles = 3

-- ---- table 8, weights; the three words of a triangle (table 7) are its vertex ids

-- the vertex of a weight
abbrev pub weight_vertex : ℕ
weight_vertex = 0

-- the weight itself
abbrev pub weight_weight : ℕ
weight_weight = 1

-- ---- table 9, key lists

-- the node of a key list
abbrev pub key_list_node : ℕ
key_list_node = 0

-- the KEYS flags of a key list
abbrev pub key_list_flags : ℕ
key_list_flags = 1

-- the first key of a key list
abbrev pub key_list_first_key : ℕ
key_list_first_key = 2

-- how many keys a key list has
abbrev pub key_list_keys : ℕ
key_list_keys = 3

-- ---- tables 6 and 9 alike, where code serves both

-- the first item of a triangle set or a key list
abbrev pub group_first : ℕ
group_first = 2

-- how many items a triangle set or a key list has
abbrev pub group_count : ℕ
group_count = 3

-- ---- table 10, keys

-- the frame of a key
abbrev pub key_frame : ℕ
key_frame = 0

-- the position of a key, x y z
abbrev pub key_position : ℕ
key_position = 1

-- the scale of a key, x y z
abbrev pub key_scale : ℕ
key_scale = 4

-- the rotation of a key, w x y z
abbrev pub key_rotation : ℕ
key_rotation = 7
