-- Back from tables to the scene: put together without a look at what must agree, then held to the rules and to the tables it would have.
use Rattle.std.specs.Prelude.{◌≡◌, ℕ, zero, suc, ◌+◌, ◌*◌, Bool, true, false, ◌&&◌, List, [], ◌∷◌, ◌++◌, map, length, take, drop, get_or, leb, eqb}
use Rattle.std.proofs.Math.Option.{Option, none, some}
use Rattle.wire.specs.Test.{if}
use Rattle.layout.specs.WellFormed.{all}
use Rattle.layout.specs.Parts.{Name}
use Rattle.b3d_spec.specs.declared.Mode.{Mode}
use Rattle.b3d_spec.specs.Colours.{passes}
use Rattle.b3d_spec.specs.WellFormed.{fits}
use Rattle.b3d_spec.specs.Mask.{present_words, vertex_mask, key_mask}
use Rattle.b3d_spec.specs.Rules.{row_limit}
use Rattle.b3d_spec.specs.Scene.{Texture, Brush, TriangleSet, Mesh, Kind, pivot, mesh, bone, Keys, Anim, no_anim, anim, Data, Forest, no_nodes, node, Scene}
use Rattle.b3d_spec.specs.Tables.{width, start, reached, with_node, rows, tables}
use Rattle.b3d_spec.specs.declared.Counts.{Counts}
use Rattle.b3d_spec.specs.Columns as columns

-- what the writer is lent beside the bytes that hold the names
pub record Lent : Type 0 where
  pub version : ℕ
  -- n_texs
  pub slots : ℕ
  -- the row count of each table, by its number
  pub count : ℕ → ℕ
  -- the words of each table, by its number; they may go on past the counted rows
  pub words : ℕ → List ℕ

-- the first c rows of w words of ws
unfoldable pub cut : ℕ → ℕ → List ℕ → List (List ℕ)
cut w zero ws = []
cut w (suc c) ws = take w ws ∷ cut w c (drop w ws)

-- the counted rows of table k that T lends
unfoldable pub lent_rows : Lent → ℕ → List (List ℕ)
lent_rows T k = cut (width k) (T.count k) (T.words k)

-- the counted rows of table k are no more than the limit, and all of their words are lent
unfoldable pub has_counted_rows : Lent → ℕ → Bool
has_counted_rows T k = leb (T.count k) row_limit && leb (width k * T.count k) (length (T.words k))

-- ---- rows to parts; ns are the bytes that hold the names

-- the name of row x: its place, and the bytes of ns there
unfoldable pub name_from : List ℕ → List ℕ → Name
name_from ns x = record { place = get_or x columns.name_place 0; bytes = take (get_or x columns.name_length 0) (drop (get_or x columns.name_place 0) ns) }

-- the texture of row x
unfoldable pub texture_from : List ℕ → List ℕ → Texture
texture_from ns x = record { name = name_from ns x; words = drop columns.texture_flags x }

-- the brush of row x, with its first `slots` texture slots as ids
unfoldable pub brush_from : List ℕ → ℕ → List ℕ → Brush
brush_from ns slots x = record { name = name_from ns x; words = take 7 (drop columns.brush_colour x); ids = take slots (drop columns.brush_textures x) }

-- the triangle sets of the rows xs, their triangles being the first of ts
unfoldable pub sets_from : List (List ℕ) → List (List ℕ) → List TriangleSet
sets_from [] ts = []
sets_from (x ∷ xs) ts =
    record { brush = get_or x columns.triangle_set_brush 0; triangles = take (get_or x columns.triangle_set_triangles 0) ts } ∷ sets_from xs
    (drop (get_or x columns.triangle_set_triangles 0) ts)

-- the mesh of row x, its vertices, triangle sets and triangles being the first of vs, ss and ts
unfoldable pub mesh_from : List ℕ → List (List ℕ) → List (List ℕ) → List (List ℕ) → Mesh
mesh_from x vs ss ts =
    record {
      brush = get_or x columns.mesh_brush 0;
      flags = get_or x columns.mesh_flags 0;
      sets = get_or x columns.mesh_sets 0;
      size = get_or x columns.mesh_set_size 0;
      vertices = map (present_words (vertex_mask (get_or x columns.mesh_flags 0) (get_or x columns.mesh_sets 0) (get_or x columns.mesh_set_size 0)))
          (take (get_or x columns.mesh_vertices 0) vs);
      triangle_sets = sets_from (take (get_or x columns.mesh_triangle_sets 0) ss) ts;
    }

-- the first key list rows that are those of node i
unfoldable pub owned_by : ℕ → List (List ℕ) → List (List ℕ)
owned_by i [] = []
owned_by i (x ∷ xs) =
    let r = x ∷ owned_by i xs in
    if (eqb (get_or x columns.key_list_node 0) i) r []

-- the key lists of the rows xs, their keys being the first of ks
unfoldable pub keys_from : List (List ℕ) → List (List ℕ) → List Keys
keys_from [] ks = []
keys_from (x ∷ xs) ks =
    record {
      flags = get_or x columns.key_list_flags 0;
      items = map (present_words (key_mask (get_or x columns.key_list_flags 0))) (take (get_or x columns.key_list_keys 0) ks);
    } ∷ keys_from xs
    (drop (get_or x columns.key_list_keys 0) ks)

-- the ANIM of the cells x, ANIM present and 3 values; none unless the first is 1
unfoldable pub anim_from : List ℕ → Anim
anim_from x = if (eqb (get_or x 0 0) 1) (anim (drop 1 x)) no_anim

-- the rows of each table, by its number
abbrev pub Rows : Type 0
Rows = ℕ → List (List ℕ)

-- table k of R goes on, after n rows, with S k
abbrev pub From : Rows → Counts → Rows → ℕ → Type 0
From R n S k = drop (reached k n) (R k) ≡ S k

-- the kind of a node whose row has kind k and count c, when n rows came before it in the tables R
unfoldable pub kind_from : Rows → Counts → ℕ → ℕ → Kind
kind_from R n k c =
    if (eqb k 1) (mesh (mesh_from (get_or (drop n.meshes (R 4)) 0 []) (drop n.vertices (R 5)) (drop n.sets (R 6)) (drop n.triangles (R 7))))
    (if (eqb k 2) (bone (take c (drop n.weights (R 8)))) pivot)

-- the data of the node of row x, when n rows came before it in the tables R; its name is in ns
unfoldable pub data_from : List ℕ → Rows → List ℕ → Counts → Data
data_from ns R x n =
    let y = drop columns.node_kind x in
    record {
      name = name_from ns x;
      words = take 10 (drop columns.node_position x);
      kind = kind_from R n (get_or y 0 0) (get_or y 2 0);
      keys = keys_from (owned_by n.nodes (drop n.lists (R 9))) (drop n.keys (R 10));
      anim = anim_from (take 4 (drop 3 y));
    }

-- ---- nodes in file order, each with its parent and how many are below it, and their tree

-- a node as its row has it: the number of its parent, how many nodes are below it, and its data
pub record Placed : Type 0 where
  pub parent : ℕ
  pub below : ℕ
  pub item : Data

-- the nodes of the rows xs, in file order, when n rows came before them in the tables R; their names are in ns
unfoldable pub walk : List ℕ → Rows → List (List ℕ) → Counts → List Placed
walk ns R [] n = []
walk ns R (x ∷ xs) n =
    let d = data_from ns R x n in
    record { parent = get_or x columns.node_parent 0; below = get_or x columns.node_below 0; item = d } ∷ walk ns R xs (with_node d n)

-- nodes of one parent: its number, and the nodes with all below them
pub record Group : Type 0 where
  pub of : ℕ
  pub nodes : Forest

-- the nodes that were taken off a list of groups, and the groups that are left
pub record Off : Type 0 where
  pub took : Forest
  pub left : List Group

-- takes off the first group, if its nodes are those of parent p; no node otherwise
unfoldable pub off : ℕ → List Group → Off
off p [] = record { took = no_nodes; left = [] }
off p (g ∷ gs) = if (eqb g.of p) (record { took = g.nodes; left = gs }) (record { took = no_nodes; left = g ∷ gs })

-- nodes from number i on as groups: a node takes its children off the groups after it, and then its later siblings
unfoldable pub groups : ℕ → List Placed → List Group
groups i [] = []
groups i (x ∷ r) =
    let a = off i (groups (suc i) r) in
    let b = off x.parent a.left in
    record { of = x.parent; nodes = node x.item a.took b.took } ∷ b.left

-- the tree of nodes in file order: the first is the root
unfoldable pub tree : List Placed → Forest
tree [] = no_nodes
tree (x ∷ r) = node x.item (off 0 (groups 1 r)).took no_nodes

-- the scene that the lent tables T put together, with names in ns, without a look at what must agree
unfoldable pub assembled : List ℕ → Lent → Scene
assembled ns T =
    record {
      version = T.version;
      textures = map (texture_from ns) (lent_rows T 1);
      slots = T.slots;
      brushes = map (brush_from ns T.slots) (lent_rows T 2);
      nodes = tree (walk ns (lent_rows T) (lent_rows T 3) start);
    }

-- ---- what must agree

-- two lists of words are equal
unfoldable pub same : List ℕ → List ℕ → Bool
same [] [] = true
same [] (y ∷ ys) = false
same (x ∷ xs) [] = false
same (x ∷ xs) (y ∷ ys) = eqb x y && same xs ys

-- two lists of rows are equal
unfoldable pub same_rows : List (List ℕ) → List (List ℕ) → Bool
same_rows [] [] = true
same_rows [] (y ∷ ys) = false
same_rows (x ∷ xs) [] = false
same_rows (x ∷ xs) (y ∷ ys) = same x y && same_rows xs ys

-- the names of nodes, in file order, before r
unfoldable pub node_names : Forest → List Name → List Name
node_names no_nodes r = r
node_names (node d ch sib) r = d.name ∷ node_names ch (node_names sib r)

-- all names of scene t: of textures, brushes, nodes
unfoldable pub names : Scene → List Name
names t = map (λ (x : Texture). x.name) t.textures ++ (map (λ (x : Brush). x.name) t.brushes ++ node_names t.nodes [])

-- the bytes of name x are in ns at its place
unfoldable pub stands : List ℕ → Name → Bool
stands ns x = leb (x.place + length x.bytes) (length ns) && same (take (length x.bytes) (drop x.place ns)) x.bytes

-- the lent tables T, with names in ns, are sound, t being the scene that they put together: t can stand in a file, its names are in ns, and its rows are the
-- lent rows
unfoldable pub sound : List ℕ → Lent → Scene → Bool
sound ns T t = fits t && (all (stands ns) (names t) && all (λ (k : ℕ). same_rows (rows k t) (lent_rows T k)) tables)

-- the scene of the lent tables T, with names in ns, just where they are sound and their colours pass in the mode; none otherwise
unfoldable pub rebuild : Mode → Lent → List ℕ → Option Scene
rebuild mode T ns =
    let t = assembled ns T in
    if (all (has_counted_rows T) tables) (if (passes mode (lent_rows T) && sound ns T t) (some t) none) none
