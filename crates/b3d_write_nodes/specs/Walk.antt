-- Nodes that stand in lent tables, and what is written and counted of them.
use Rattle.std.specs.Prelude.{◌≡◌, ℕ, ◌*◌, ◌<◌, ◌≤◌, List, [], ◌++◌, length}
use Rattle.std.proofs.Math.Option.{Option}
use Rattle.layout.specs.Lists.{All}
use Rattle.shared_output.specs.Writing.{Room, Put}
use Rattle.b3d_spec.specs.declared.Counts.{Counts}
use Rattle.b3d_spec.specs.Encode.{node_chunks, write_node}
use Rattle.b3d_spec.specs.Rebuild.{Rows, node_names}
use Rattle.b3d_spec.specs.Scene.{Data, Forest, no_nodes, node}
use Rattle.b3d_spec.specs.Tables.{reached, with_node, with_forest, forest_rows, node_tables, node_width, mesh_width, vertex_width, triangle_set_width, triangle_width, weight_width, key_list_width, key_width}
use Rattle.b3d_spec.specs.Tags.{write_chunks}
use Rattle.b3d_spec.specs.Fitting.{FitNodes, Stands}
use Rattle.b3d_check_spec.specs.Below.{Here}
use Rattle.b3d_check_spec.specs.Rooms.{Limited}

-- ---- bytes

-- the NODE chunks of the nodes f
unfoldable pub nodes_bytes : Forest → List ℕ
nodes_bytes f = write_chunks (node_chunks f)

-- the body of a NODE: what is its own, d, then the nodes ch below
unfoldable pub body_bytes : Data → Forest → List ℕ
body_bytes d ch = write_node d (node_chunks ch)

-- ---- tables

-- tables of just the rows that a counts
pub record TablesSized (a : Counts) (t₃ t₄ t₅ t₆ t₇ t₈ t₉ t₁₀ : List ℕ) : Type 0 where
  pub nodes : length t₃ ≡ node_width * a.nodes
  pub meshes : length t₄ ≡ mesh_width * a.meshes
  pub vertices : length t₅ ≡ vertex_width * a.vertices
  pub sets : length t₆ ≡ triangle_set_width * a.sets
  pub triangles : length t₇ ≡ triangle_width * a.triangles
  pub weights : length t₈ ≡ weight_width * a.weights
  pub lists : length t₉ ≡ key_list_width * a.lists
  pub keys : length t₁₀ ≡ key_width * a.keys
  -- no count is above the row limit
  pub limited : Limited a

-- ---- nodes in tables

-- no count of n passes the rows that R has
abbrev pub There : Rows → Counts → Type 0
There R n = All (λ k. reached k n ≤ length (R k)) node_tables

-- the nodes f stand in the rows R after the counts n, with parent p, before the rows S
pub record Stand (ns : List ℕ) (R : Rows) (levels b : ℕ) (above : Option ℕ) (f : Forest) (p : ℕ) (n : Counts) (S : Rows) : Type 0 where
  -- R holds their rows, then S
  pub here : Here R f p n S
  -- the parent comes before them
  pub low : p < n.nodes
  -- the rows before them are there
  pub there : There R n
  -- they keep the rules
  pub fits : FitNodes levels b above f
  -- their names are in ns
  pub names : All (Stands ns) (node_names f [])

-- the node d with the nodes ch below it stands in the rows R after the counts n, with parent p; sib come after it, then the rows S
pub record First (ns : List ℕ) (R : Rows) (levels b : ℕ) (above : Option ℕ) (d : Data) (ch sib : Forest) (p : ℕ) (n : Counts) (S : Rows) : Type 0 where
  -- R holds its rows, those of sib, then S
  pub here : Here R (node d ch sib) p n S
  -- the rows before it are there
  pub there : There R n
  -- the rows of ch follow its own
  pub below : Here R ch n.nodes (with_node d n) (λ k. forest_rows k sib p (with_forest ch (with_node d n)) ++ S k)
  -- it keeps the rules, with those below
  pub fits : FitNodes levels b above (node d ch no_nodes)
  -- the names of both are in ns
  pub names : All (Stands ns) (node_names (node d ch no_nodes) [])

-- ---- what is asked, and what is left

-- what `write_nodes` asks: some nodes stand there, and there is room for them
pub record Writable (ns : List ℕ) (R : Rows) (levels p : ℕ) (n : Counts) (out : List ℕ) : Type 0 where
  -- how many brushes there are
  pub brushes : ℕ
  -- the bone limit that they get; `none` for the root
  pub above : Option ℕ
  -- the nodes
  pub forest : Forest
  -- the rows after them
  pub after : Rows
  -- they stand there
  pub stand : Stand ns R levels brushes above forest p n after
  -- their bytes have room in the output
  pub room : Room (nodes_bytes forest) out

-- what `write_nodes` promises of the output before it (out) and after it (put), the size, and the counts m
pub record WritesNodes (ns : List ℕ) (R : Rows) (levels p : ℕ) (n : Counts) (out put : List ℕ) (size : ℕ) (m : Counts) : Type 0 where
  -- the size fits a word
  pub small : size < 4294967296
  -- whatever nodes stand there are written
  pub bytes : (b : ℕ) (above : Option ℕ) (f : Forest) (S : Rows) → Stand ns R levels b above f p n S → Room (nodes_bytes f) out → Put (nodes_bytes f) out put size
  -- whatever nodes stand there are counted
  pub counts : (b : ℕ) (above : Option ℕ) (f : Forest) (S : Rows) → Stand ns R levels b above f p n S → Room (nodes_bytes f) out → m ≡ with_forest f n

-- a node that stands in the rows R after the counts n, with all that it stands among
pub record NodePlaced (ns : List ℕ) (R : Rows) (levels : ℕ) (n : Counts) : Type 0 where
  -- how many brushes there are
  pub brushes : ℕ
  -- the bone limit that it gets; `none` for the root
  pub above : Option ℕ
  -- the node without those below it
  pub own : Data
  -- the nodes below it
  pub children : Forest
  -- the nodes after it with the same parent
  pub siblings : Forest
  -- its parent
  pub parent : ℕ
  -- the rows after all these
  pub after : Rows
  -- it stands there
  pub stand : First ns R levels brushes above own children siblings parent n after

-- the NODE chunk of the node d with the nodes ch below it
unfoldable pub node_bytes : Data → Forest → List ℕ
node_bytes d ch = nodes_bytes (node d ch no_nodes)

-- what `write_node` asks: a node stands there, and there is room for it
pub record WritableFirst (ns : List ℕ) (R : Rows) (levels : ℕ) (n : Counts) (out : List ℕ) : Type 0 where
  -- the node
  pub placed : NodePlaced ns R levels n
  -- its bytes, with those of the nodes below it, have room in the output
  pub room : Room (node_bytes placed.own placed.children) out

-- what `write_node` promises of the output before it (out) and after it (put), the size, and the counts m
pub record WritesFirst (ns : List ℕ) (R : Rows) (levels : ℕ) (n : Counts) (out put : List ℕ) (size : ℕ) (m : Counts) : Type 0 where
  -- the size fits a word
  pub small : size < 4294967296
  -- whatever node stands there is written, with those below it
  pub bytes : (x : NodePlaced ns R levels n) → Room (node_bytes x.own x.children) out → Put (node_bytes x.own x.children) out put size
  -- whatever node stands there is counted, with those below it
  pub counts : (x : NodePlaced ns R levels n) → Room (node_bytes x.own x.children) out → m ≡ with_forest x.children (with_node x.own n)
