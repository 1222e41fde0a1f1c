-- The rows of the ten tables, from the flat run of a file's chunks and running counts. Cells are as `Tables` has them.
use Rattle.std.specs.Prelude.{ℕ, suc, ◌+◌, ◌-◌, List, [], ◌∷◌, ◌++◌, map, length, drop, get_or, eqb, leb}
use Rattle.wire.specs.Test.{if}
use Rattle.layout.specs.Chunks.{done, stop, chunk}
use Rattle.layout.specs.Result.{Result, accept, reject}
use Rattle.layout.specs.Parts.{Name, Step, named, words_of}
use Rattle.layout.specs.Rules.{NONE}
use Rattle.b3d_spec.specs.declared.Counts.{Counts}
use Rattle.b3d_spec.specs.declared.Tag.{Tag}
use Rattle.b3d_spec.specs.declared.Tag.TheVariants.{BB3D, TEXS, BRUS, NODE, MESH, VRTS, TRIS, BONE, KEYS, ANIM}
use Rattle.b3d_spec.specs.Mask.{padded, key_mask}
use Rattle.b3d_spec.specs.Rules.{node_row as node_words}
use Rattle.b3d_spec.specs.Scene.{Kind, pivot, mesh, bone, Keys, Anim, no_anim, anim}
use Rattle.b3d_spec.specs.Tables.{start, texture_row, brush_row, node_row, mesh_rows, with_meshes}
use Rattle.b3d_spec.specs.Tags.{Chunks, is}
use Rattle.b3d_spec.specs.Parse.{texture_of, brush_of}
use Rattle.b3d_spec_plain_rows.specs.Plain.{plain_keys, plain_weights, plain_anim, plain_mesh, named_items}
use Rattle.b3d_spec_plain_rows.specs.Flat.{rest, flat}

-- ---- running counts

-- the counts n and one more node
unfoldable pub add_node : Counts → Counts
add_node n =
    record {
      nodes = n.nodes + 1;
      meshes = n.meshes;
      vertices = n.vertices;
      sets = n.sets;
      triangles = n.triangles;
      weights = n.weights;
      lists = n.lists;
      keys = n.keys;
    }

-- the counts n and the weights ws
unfoldable pub add_weights : List (List ℕ) → Counts → Counts
add_weights ws n =
    record {
      nodes = n.nodes;
      meshes = n.meshes;
      vertices = n.vertices;
      sets = n.sets;
      triangles = n.triangles;
      weights = n.weights + length ws;
      lists = n.lists;
      keys = n.keys;
    }

-- the counts n and one more key list, with its keys
unfoldable pub add_keys : Keys → Counts → Counts
add_keys k n =
    record {
      nodes = n.nodes;
      meshes = n.meshes;
      vertices = n.vertices;
      sets = n.sets;
      triangles = n.triangles;
      weights = n.weights;
      lists = n.lists + 1;
      keys = n.keys + length k.items;
    }

-- the counts n after a chunk of a tag, with header place p and body b
abbrev pub counted : Tag → ℕ → List ℕ → Counts → Counts
counted BB3D p b n = n
counted TEXS p b n = n
counted BRUS p b n = n
counted NODE p b n = add_node n
counted MESH p b n = with_meshes (plain_mesh p b ∷ []) n
counted VRTS p b n = n
counted TRIS p b n = n
counted BONE p b n = add_weights (plain_weights b) n
counted KEYS p b n = add_keys (plain_keys b) n
counted ANIM p b n = n

-- ---- tables 4 to 10

-- the counts n before the node that is being read: one node less
unfoldable pub current : Counts → Counts
current n =
    record {
      nodes = n.nodes - 1;
      meshes = n.meshes;
      vertices = n.vertices;
      sets = n.sets;
      triangles = n.triangles;
      weights = n.weights;
      lists = n.lists;
      keys = n.keys;
    }

-- the rows of table k for the weights ws: themselves in table 8, none in others
unfoldable pub weight_rows : ℕ → List (List ℕ) → List (List ℕ)
weight_rows k ws = if (eqb k 8) ws []

-- the row of a key list x of node i, its first key being number j
unfoldable pub list_row : ℕ → ℕ → Keys → List ℕ
list_row i j x = i ∷ x.flags ∷ j ∷ length x.items ∷ []

-- the rows of table k for a key list x of node i, its first key being number j: one in table 9, one for each key in table 10
unfoldable pub key_list_rows : ℕ → ℕ → ℕ → Keys → List (List ℕ)
key_list_rows k i j x = if (eqb k 9) (list_row i j x ∷ []) (if (eqb k 10) (map (padded (key_mask x.flags)) x.items) [])

-- the rows of table k for one chunk of a tag, with header place p and body b, the counts before it being n
abbrev pub chunk_rows : ℕ → Tag → ℕ → List ℕ → Counts → List (List ℕ)
chunk_rows k BB3D p b n = []
chunk_rows k TEXS p b n = []
chunk_rows k BRUS p b n = []
chunk_rows k NODE p b n = []
chunk_rows k MESH p b n = mesh_rows k (plain_mesh p b ∷ []) (current n)
chunk_rows k VRTS p b n = []
chunk_rows k TRIS p b n = []
chunk_rows k BONE p b n = weight_rows k (plain_weights b)
chunk_rows k KEYS p b n = key_list_rows k (n.nodes - 1) n.keys (plain_keys b)
chunk_rows k ANIM p b n = []

-- the rows of table k for a flat run, the counts before it being n
unfoldable pub flat_rows : ℕ → Counts → Chunks → List (List ℕ)
flat_rows k n done = []
flat_rows k n (stop i p) = []
flat_rows k n (chunk t p b r) = chunk_rows k t p b n ++ flat_rows k (counted t p b n) r

-- ---- table 3

-- a node's kind, from its chunks before the next NODE: the first MESH or BONE decides, a pivot where there is none
unfoldable pub kind_of : Chunks → Kind
kind_of done = pivot
kind_of (stop n p) = pivot
kind_of (chunk t p b r) = if (is t NODE) pivot (if (is t MESH) (mesh (plain_mesh p b)) (if (is t BONE) (bone (plain_weights b)) (kind_of r)))

-- a node's first ANIM, from its chunks before the next NODE; `no_anim` where there is none
unfoldable pub anim_of : Chunks → Anim
anim_of done = no_anim
anim_of (stop n p) = no_anim
anim_of (chunk t p b r) = if (is t NODE) no_anim (if (is t ANIM) (anim (plain_anim b)) (anim_of r))

-- a node that may be open at a later place
pub record Open : Type 0 where
  -- the place behind the node's last byte
  pub end : ℕ
  -- the node's row in table 3, from 0
  pub index : ℕ

-- the parent of a node at place p: of the nodes read before it, the last first, the number of the first that has not ended at p; NONE where all have
unfoldable pub parent_at : ℕ → List Open → ℕ
parent_at p [] = NONE
parent_at p (o ∷ l) = if (leb o.end p) (parent_at p l) o.index

-- how many NODEs of a flat run come before the first one that begins at place e or later
unfoldable pub nodes_before : ℕ → Chunks → ℕ
nodes_before e done = 0
nodes_before e (stop n p) = 0
nodes_before e (chunk t p b r) = if (is t NODE) (if (leb e p) 0 (suc (nodes_before e r))) (nodes_before e r)

-- a node's row by its text and ten numbers, the chunks cs behind them, its parent, its end and the counts n before it; empty where text or numbers are cut
unfoldable pub row_of : Result (Step (Name × List ℕ)) → Chunks → ℕ → ℕ → Counts → List ℕ
row_of (accept x) cs parent end n =
    node_row (record { name = x.value.0; words = x.value.1; kind = kind_of cs; keys = []; anim = anim_of cs }) parent (nodes_before end cs) n
row_of (reject i p) cs parent end n = []

-- the list l of nodes with the node number i in front, whose header is at p and whose body is b
abbrev pub opened : ℕ → List ℕ → ℕ → List Open → List Open
opened p b i l = record { end = p + 8 + length b; index = i } ∷ l

-- the rows of table 3 for a flat run, l being the nodes read before, the last first, and n the counts
unfoldable pub node_rows : List Open → Counts → Chunks → List (List ℕ)
node_rows l n done = []
node_rows l n (stop i p) = []
node_rows l n (chunk t p b r) =
    if (is t NODE) (row_of (named node_words (p + 8) b) r (parent_at p l) (p + 8 + length b) n ∷ node_rows (opened p b n.nodes l) (counted t p b n) r)
    (node_rows l (counted t p b n) r)

-- ---- tables 1 and 2

-- what `one` makes of the first chunk of tag k, by its header's place and its body; nothing where there is none
unfoldable pub first_of : Tag → (ℕ → List ℕ → List (List ℕ)) → Chunks → List (List ℕ)
first_of k one done = []
first_of k one (stop n p) = []
first_of k one (chunk t p b r) = if (is t k) (one p b) (first_of k one r)

-- the rows of table 1 for a TEXS with header place p and body b
unfoldable pub texture_rows : ℕ → List ℕ → List (List ℕ)
texture_rows p b = map texture_row (map texture_of (named_items 7 (p + 8) b))

-- the rows of table 2 for brushes of `ids` texture ids each, in s from place p on; none where `ids` is over 8, for a row has room for eight
unfoldable pub brushes_of : ℕ → ℕ → List ℕ → List (List ℕ)
brushes_of ids p s = if (leb ids 8) (map brush_row (map brush_of (named_items (7 + ids) p s))) []

-- the rows of table 2 for a BRUS with header place p and body b: its n_texs, then its brushes
unfoldable pub brush_rows : ℕ → List ℕ → List (List ℕ)
brush_rows p b = brushes_of (get_or (words_of 1 b) 0 0) (p + 12) (drop 4 b)

-- ---- the file

-- the rows of 01's table k, 1 to 10, of the file s: table 1 from its first TEXS, table 2 from its first BRUS, the others from its flat run
unfoldable pub file_rows : ℕ → List ℕ → List (List ℕ)
file_rows k s =
    if (eqb k 1) (first_of TEXS texture_rows (rest s 12))
    (if (eqb k 2) (first_of BRUS brush_rows (rest s 12))
    (if (eqb k 3) (node_rows [] start (flat s)) (flat_rows k start (flat s))))
