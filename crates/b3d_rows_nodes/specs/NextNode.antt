-- Rows of nodes that are still to come.
use Rattle.std.specs.Prelude as std
use Rattle.b3d_rows_nodes.specs.declared.FoundNode.{FoundNode}
use Rattle.std.specs.Prelude.{◌≡◌, ℕ, ◌+◌, ◌<◌, ◌≤◌, Bool, true, false, ◌&&◌, List, [], ◌∷◌, length, T, leb, ltb, Some, None}
use Rattle.wire.specs.Test.{if}
use Rattle.wire.specs.Cursors.{left}
use Rattle.wire.specs.declared.Cursor.{Cursor}
use Rattle.layout.specs.Chunks.{done, stop, chunk}
use Rattle.layout.specs.Parts.{named}
use Rattle.b3d_spec.specs.declared.Counts.{Counts}
use Rattle.b3d_spec.specs.declared.Tag.TheVariants.{NODE}
use Rattle.b3d_spec.specs.Rules.{node_row, levels}
use Rattle.b3d_spec.specs.Tags.{Chunks, is}
use Rattle.b3d_spec_plain_rows.specs.Flat.{flat_at}
use Rattle.b3d_spec_plain_rows.specs.Rows.{Open, parent_at, opened, row_of, counted}
use Rattle.b3d_chunk_walk.specs.Walks.{BodyAt, NodeRead}
use Rattle.b3d_rows_nodes.specs.NodeStack.{open_at, stack_of, OpenNodesAt}
use Rattle.b3d_rows_nodes.specs.declared.OpenNodes.{OpenNodes}
use Rattle.b3d_rows_positions.specs.Positions.{Comes, NoRow}
use Rattle.b3d_rows_positions.specs.declared.Position.{Position}
use Rattle.b3d_rows_nodes.specs.declared.RowCursor.{RowCursor}
use Rattle.b3d_rows_nodes.specs.declared.NextCursor.{NextCursor}

-- ---- how deep nodes nest

-- where n nodes came before, of which l are open, no node of a flat run stands in more than 15 others
unfoldable pub shallow : ℕ → List Open → Chunks → Bool
shallow n l done = true
shallow n l (stop i p) = true
shallow n l (chunk t p b r) = if (is t NODE) (ltb (length (open_at p l)) levels && shallow (n + 1) (opened p b n (open_at p l)) r) (shallow n l r)

pub record Shallow (n : ℕ) (l : List Open) (cs : Chunks) : Type 0 where
  -- the test says yes
  pub is : T (shallow n l cs)

-- the rows of table 3 for a flat run, up to the first node that stands in 16 others; l are the nodes read before that may be open, n the counts
unfoldable pub shallow_rows : List Open → Counts → Chunks → List (List ℕ)
shallow_rows l n done = []
shallow_rows l n (stop i p) = []
shallow_rows l n (chunk t p b r) =
    if (is t NODE)
    (if (leb levels (length (open_at p l))) []
    (row_of (named node_row (p + 8) b) r (parent_at p l) (p + 8 + length b) n ∷ shallow_rows (opened p b n.nodes (open_at p l)) (counted t p b n) r))
    (shallow_rows l (counted t p b n) r)

-- ---- the next NODE

-- the rows under the open nodes l, after counts n, are that of the NODE at p and those behind it, none where it stands in 16 others
pub record NodeRowsFound (s : List ℕ) (from p : ℕ) (b : Cursor) (q meshes weights : ℕ) (l : List Open) (n : Counts) : Type 0 where
  pub counts : Counts
  pub nodes_are : counts.nodes ≡ n.nodes
  pub meshes_are : counts.meshes ≡ meshes
  pub weights_are : counts.weights ≡ weights
  pub rows : shallow_rows l n (flat_at s from)
      ≡ if (leb levels (length (open_at p l))) []
      (row_of (named node_row (p + 8) (left b s)) (flat_at s q) (parent_at p l) (p + 8 + length (left b s)) counts
      ∷ shallow_rows (opened p (left b s) counts.nodes (open_at p l)) (counted NODE p (left b s) counts) (flat_at s q))

-- the first NODE from the place `from` on has its header at p and the body b; the run goes on at q, and `meshes` meshes and `weights` weights came before
pub record NodeFound (s : List ℕ) (from m w p : ℕ) (b : Cursor) (q meshes weights : ℕ) : Type 0 where
  -- under any open nodes, the rows are its row and those behind it, or none
  pub rows : (l : List Open) (n : Counts) → n.meshes ≡ m → n.weights ≡ w → NodeRowsFound s from p b q meshes weights l n
  -- its fixed data is read from its body
  pub node : NodeRead s p b
  -- its body is b
  pub body : BodyAt s p b
  -- it stands at `from` or behind it
  pub since : from ≤ p
  -- the run goes on behind its header
  pub behind : p + 8 ≤ q
  -- within the file
  pub to : q ≤ length s
  -- a mesh takes more than a byte
  pub few_meshes : meshes ≤ p
  -- and a weight does
  pub few_weights : weights ≤ p

-- no NODE stands from the place `from` on
pub record NoNode (s : List ℕ) (from m w : ℕ) : Type 0 where
  -- no row is to come
  pub rows : (l : List Open) (n : Counts) → n.meshes ≡ m → n.weights ≡ w → shallow_rows l n (flat_at s from) ≡ []

abbrev pub NodeFoundIs : List ℕ → ℕ → ℕ → ℕ → std.Option FoundNode → Type 0
NodeFoundIs s from m w (Some f) = NodeFound s from m w f.at f.body f.next f.meshes f.weights
NodeFoundIs s from m w None = NoNode s from m w

-- what `find_node` returns
pub record NodeFinds (s : List ℕ) (from m w : ℕ) (r : std.Option FoundNode) : Type 0 where
  -- by the case of the answer
  pub is : NodeFoundIs s from m w r

-- ---- the next row

unfoldable pub nodes_ahead : List ℕ → Position → OpenNodes → List (List ℕ)
nodes_ahead s x path = shallow_rows (stack_of path) x.counts (flat_at s x.at)

-- a position in table 3
pub record NodePosition (s : List ℕ) (x : Position) (path : OpenNodes) : Type 0 where
  -- the run goes on within the file
  pub run : x.at ≤ length s
  -- places are numbers of four bytes
  pub small : length s < 0x100000000
  -- the open nodes are kept as they must be
  pub path_at : OpenNodesAt path
  -- there are no more nodes before than bytes
  pub nodes : x.counts.nodes ≤ x.at
  -- and no more meshes
  pub meshes : x.counts.meshes ≤ x.at
  -- and no more weights
  pub weights : x.counts.weights ≤ x.at

-- the step from x under the open nodes of `path` to r, over a row of table 3
pub record NodeNext (s : List ℕ) (x : Position) (path : OpenNodes) (row put : List ℕ) (r : RowCursor) : Type 0 where
  -- the next row is stored, and the others are to come
  pub comes : Comes 3 (nodes_ahead s x path) (nodes_ahead s r.position r.path) row put
  -- the cursor behind it is one in table 3
  pub position : NodePosition s r.position r.path

-- no row is to come, and r is the cursor x under the open nodes of `path`
pub record NodeEnds (s : List ℕ) (x : Position) (path : OpenNodes) (row put : List ℕ) (r : RowCursor) : Type 0 where
  -- no row is to come, and the lent row stays
  pub ended : NoRow (nodes_ahead s x path) row put
  -- and the cursor does
  pub still : r ≡ record { position = x; path = path }

abbrev pub NodeNextIs : List ℕ → Position → OpenNodes → List ℕ → List ℕ → Bool → RowCursor → Type 0
NodeNextIs s x path row put true r = NodeNext s x path row put r
NodeNextIs s x path row put false r = NodeEnds s x path row put r

-- what `next_node` does
pub record NodeNexts (s : List ℕ) (x : Position) (path : OpenNodes) (row put : List ℕ) (r : NextCursor) : Type 0 where
  -- by whether a row is given
  pub is : NodeNextIs s x path row put r.given r.cursor
