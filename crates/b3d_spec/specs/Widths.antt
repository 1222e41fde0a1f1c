-- How many words a row of each of the ten tables has (01, the ten tables).
use Rattle.std.specs.Prelude.{ℕ}

-- table 1, textures: name place and length, 7 words
abbrev pub texture_width : ℕ
texture_width = 9

-- table 2, brushes: name place and length, 7 words, 8 texture slots
abbrev pub brush_width : ℕ
brush_width = 17

-- table 3, nodes: 01's 20, and the nodes below it (E4)
abbrev pub node_width : ℕ
node_width = 21

-- table 4, meshes
abbrev pub mesh_width : ℕ
mesh_width = 9

-- table 5, vertices: position, normal, colour, 8 sets of 4 coordinates. No row of another table has more words
abbrev pub vertex_width : ℕ
vertex_width = 42

-- table 6, triangle sets
abbrev pub triangle_set_width : ℕ
triangle_set_width = 4

-- table 7, triangles: three vertex ids
abbrev pub triangle_width : ℕ
triangle_width = 3

-- table 8, weights: a vertex id and a weight
abbrev pub weight_width : ℕ
weight_width = 2

-- table 9, key lists
abbrev pub key_list_width : ℕ
key_list_width = 4

-- table 10, keys: frame, position, scale, rotation
abbrev pub key_width : ℕ
key_width = 11
