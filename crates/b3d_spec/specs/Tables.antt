-- The ten tables of a scene: `rows k t` the rows of table k, `table k t` their words one after the other.
use Rattle.std.specs.Prelude.{ℕ, suc, ◌+◌, ◌-◌, List, [], ◌∷◌, ◌++◌, map, length, replicate, eqb}
use Rattle.wire.specs.Test.{if}
use Rattle.layout.specs.Rules.{NONE}
use Rattle.layout.specs.Rows.{name_cells, joined}
use Rattle.b3d_spec.specs.declared.Counts.{Counts}
pub use Rattle.b3d_spec.specs.Widths.{texture_width, brush_width, node_width, mesh_width, vertex_width, triangle_set_width, triangle_width, weight_width, key_list_width, key_width}
use Rattle.b3d_spec.specs.Rules.{most_slots}
use Rattle.b3d_spec.specs.Mask.{padded, vertex_mask, key_mask}
use Rattle.b3d_spec.specs.Scene.{Texture, Brush, TriangleSet, Mesh, Kind, pivot, mesh, bone, Keys, Anim, no_anim, anim, Data, Forest, no_nodes, node, Scene}

-- how many words a row of table k has (01, the ten tables)
unfoldable pub width : ℕ → ℕ
width k =
    if (eqb k 1) texture_width
    (if (eqb k 2) brush_width
    (if (eqb k 3) node_width
    (if (eqb k 4) mesh_width
    (if (eqb k 5) vertex_width
    (if (eqb k 6) triangle_set_width
    (if (eqb k 7) triangle_width
    (if (eqb k 8) weight_width
    (if (eqb k 9) key_list_width
    (if (eqb k 10) key_width 0)))))))))

-- no row came before, in any table
abbrev pub no_rows : Counts
no_rows = record { nodes = 0; meshes = 0; vertices = 0; sets = 0; triangles = 0; weights = 0; lists = 0; keys = 0 }

-- the row counts at the beginning of a file: no row came before
unfoldable pub start : Counts
start = no_rows

-- how many rows of table k came before, by the counts n; 0 for tables 1 and 2, which are not counted
unfoldable pub reached : ℕ → Counts → ℕ
reached k n =
    if (eqb k 3) n.nodes
    (if (eqb k 4) n.meshes
    (if (eqb k 5) n.vertices
    (if (eqb k 6) n.sets
    (if (eqb k 7) n.triangles
    (if (eqb k 8) n.weights
    (if (eqb k 9) n.lists
    (if (eqb k 10) n.keys 0)))))))

-- ---- what a node has: at most one mesh, weights, key lists

-- the mesh of a node's kind, as a list of one; none without a MESH
unfoldable pub meshes_of : Kind → List Mesh
meshes_of pivot = []
meshes_of (mesh m) = m ∷ []
meshes_of (bone ws) = []

-- the weights of a node's kind; none without a BONE
unfoldable pub weights_of : Kind → List (List ℕ)
weights_of pivot = []
weights_of (mesh m) = []
weights_of (bone ws) = ws

-- ---- single rows

-- the row of texture x: name place, name length, 7 words
unfoldable pub texture_row : Texture → List ℕ
texture_row x = name_cells x.name ++ x.words

-- the row of brush b: name place, name length, 7 words, 8 texture slots, the unused NONE
unfoldable pub brush_row : Brush → List ℕ
brush_row b = name_cells b.name ++ (b.words ++ (b.ids ++ replicate (most_slots - length b.ids) NONE))

-- cells kind, first and count of a node, when n rows came before: mesh number and 1, first weight and weights, or 0 and 0
unfoldable pub kind_cells : Kind → Counts → List ℕ
kind_cells pivot n = 0 ∷ 0 ∷ 0 ∷ []
kind_cells (mesh m) n = 1 ∷ n.meshes ∷ 1 ∷ []
kind_cells (bone ws) n = 2 ∷ n.weights ∷ length ws ∷ []

-- cells ANIM present and its 3 values; 0 where there is no ANIM
unfoldable pub anim_cells : Anim → List ℕ
anim_cells no_anim = 0 ∷ 0 ∷ 0 ∷ 0 ∷ []
anim_cells (anim vs) = 1 ∷ vs

-- the row of a node with data d under parent p, with `below` nodes below it at all depths (E4), when n rows came before
unfoldable pub node_row : Data → ℕ → ℕ → Counts → List ℕ
node_row d p below n = name_cells d.name ++ (p ∷ (d.words ++ (kind_cells d.kind n ++ (anim_cells d.anim ++ (below ∷ [])))))

-- the row of mesh m, when n rows came before: node, brush, flags, sets, set size, first vertex, vertices, first triangle set, sets of triangles
unfoldable pub mesh_row : Mesh → Counts → List ℕ
mesh_row m n = n.nodes ∷ m.brush ∷ m.flags ∷ m.sets ∷ m.size ∷ n.vertices ∷ length m.vertices ∷ n.sets ∷ length m.triangle_sets ∷ []

-- ---- runs of rows

-- the rows of the vertices of mesh m; cells for absent parts hold 0
unfoldable pub vertex_rows : Mesh → List (List ℕ)
vertex_rows m = map (padded (vertex_mask m.flags m.sets m.size)) m.vertices

-- the rows of the triangle sets of mesh i, the first triangle being number r: mesh, brush, first triangle, triangles
unfoldable pub set_rows : ℕ → ℕ → List TriangleSet → List (List ℕ)
set_rows i r [] = []
set_rows i r (s ∷ ss) = (i ∷ s.brush ∷ r ∷ length s.triangles ∷ []) ∷ set_rows i (r + length s.triangles) ss

-- the rows of the triangles of the sets: vertex ids as encoded
unfoldable pub triangle_rows : List TriangleSet → List (List ℕ)
triangle_rows [] = []
triangle_rows (s ∷ ss) = s.triangles ++ triangle_rows ss

-- the rows of the key lists of node i, the first key being number k: node, KEYS flags, first key, keys
unfoldable pub list_rows : ℕ → ℕ → List Keys → List (List ℕ)
list_rows i k [] = []
list_rows i k (x ∷ xs) = (i ∷ x.flags ∷ k ∷ length x.items ∷ []) ∷ list_rows i (k + length x.items) xs

-- the rows of the keys of the lists; cells for absent parts hold 0
unfoldable pub key_rows : List Keys → List (List ℕ)
key_rows [] = []
key_rows (x ∷ xs) = map (padded (key_mask x.flags)) x.items ++ key_rows xs

-- ---- a node, then the nodes in it, then those after it

-- how many nodes there are, at all depths
unfoldable pub nodes_in : Forest → ℕ
nodes_in no_nodes = 0
nodes_in (node d ch sib) = suc (nodes_in ch + nodes_in sib)

-- the rows of table k that a mesh adds, when n rows came before its node; none without a mesh
unfoldable pub mesh_rows : ℕ → List Mesh → Counts → List (List ℕ)
mesh_rows k [] n = []
mesh_rows k (m ∷ ms) n =
    if (eqb k 4) (mesh_row m n ∷ [])
    (if (eqb k 5) (vertex_rows m)
    (if (eqb k 6) (set_rows n.meshes n.triangles m.triangle_sets)
    (if (eqb k 7) (triangle_rows m.triangle_sets) [])))

-- the rows of table k that a node with data d adds itself, under parent p and with `below` nodes below it, when n rows came before
unfoldable pub own_rows : ℕ → Data → ℕ → ℕ → Counts → List (List ℕ)
own_rows k d p below n =
    if (eqb k 3) (node_row d p below n ∷ [])
    (if (eqb k 8) (weights_of d.kind)
    (if (eqb k 9) (list_rows n.nodes n.keys d.keys)
    (if (eqb k 10) (key_rows d.keys) (mesh_rows k (meshes_of d.kind) n))))

-- the row counts n after a node's mesh, if there is one
unfoldable pub with_meshes : List Mesh → Counts → Counts
with_meshes [] n = n
with_meshes (m ∷ ms) n =
    record {
      nodes = n.nodes;
      meshes = n.meshes + 1;
      vertices = n.vertices + length m.vertices;
      sets = n.sets + length m.triangle_sets;
      triangles = n.triangles + length (triangle_rows m.triangle_sets);
      weights = n.weights;
      lists = n.lists;
      keys = n.keys;
    }

-- the row counts n after a node with data d itself, without the nodes below it
unfoldable pub with_node : Data → Counts → Counts
with_node d n =
    let x = with_meshes (meshes_of d.kind) n in
    record {
      nodes = x.nodes + 1;
      meshes = x.meshes;
      vertices = x.vertices;
      sets = x.sets;
      triangles = x.triangles;
      weights = x.weights + length (weights_of d.kind);
      lists = x.lists + length d.keys;
      keys = x.keys + length (key_rows d.keys);
    }

-- the row counts n after all nodes of a forest
unfoldable pub with_forest : Forest → Counts → Counts
with_forest no_nodes n = n
with_forest (node d ch sib) n = with_forest sib (with_forest ch (with_node d n))

-- the rows of table k of the nodes under parent p and the nodes below them, when n rows came before: a node, then the nodes in it, then those after it
unfoldable pub forest_rows : ℕ → Forest → ℕ → Counts → List (List ℕ)
forest_rows k no_nodes p n = []
forest_rows k (node d ch sib) p n =
    let m = with_node d n in
    own_rows k d p (nodes_in ch) n ++ (forest_rows k ch n.nodes m ++ forest_rows k sib p (with_forest ch m))

-- ---- the tables

-- the rows of table k of scene t, in file order; the root's parent is NONE
unfoldable pub rows : ℕ → Scene → List (List ℕ)
rows k t =
    if (eqb k 1) (map texture_row t.textures)
    (if (eqb k 2) (map brush_row t.brushes) (forest_rows k t.nodes NONE start))

-- the words of table k of scene t, row after row
unfoldable pub table : ℕ → Scene → List ℕ
table k t = joined (rows k t)

-- the tables of what nodes have, 4 to 10
abbrev pub part_tables : List ℕ
part_tables = 4 ∷ 5 ∷ 6 ∷ 7 ∷ 8 ∷ 9 ∷ 10 ∷ []

-- the tables of nodes and of what they have, 3 to 10
unfoldable pub node_tables : List ℕ
node_tables = 3 ∷ part_tables

-- the ten tables, 1 to 10
unfoldable pub tables : List ℕ
tables = 1 ∷ 2 ∷ node_tables

-- the ten row counts of scene t
unfoldable pub counts : Scene → List ℕ
counts t = map (λ (k : ℕ). length (rows k t)) tables
