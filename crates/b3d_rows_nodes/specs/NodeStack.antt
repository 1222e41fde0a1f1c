-- The nodes that are open at a place of a file, the last first, and as code keeps them: the first `depth` cells of two arrays.
use Rattle.std.specs.Prelude.{◌≡◌, ℕ, zero, suc, ◌≤◌, List, [], ◌∷◌, length, get_or, leb}
use Rattle.wire.specs.Test.{if}
use Rattle.layout.specs.Rules.{NONE}
use Rattle.b3d_spec.specs.Rules.{levels}
use Rattle.b3d_spec_plain_rows.specs.Rows.{Open, parent_at}
use Rattle.b3d_rows_nodes.specs.declared.OpenNodes.{OpenNodes}
use Rattle.b3d_rows_nodes.specs.declared.EnteredNode.{EnteredNode}

-- those from the first on that is still open at a place
unfoldable pub open_at : ℕ → List Open → List Open
open_at p [] = []
open_at p (o ∷ l) = if (leb o.end p) (open_at p l) (o ∷ l)

unfoldable pub stack_to : List ℕ → List ℕ → ℕ → List Open
stack_to ends nodes zero = []
stack_to ends nodes (suc d) = record { end = get_or ends d 0; index = get_or nodes d 0 } ∷ stack_to ends nodes d

abbrev pub stack_of : OpenNodes → List Open
stack_of x = stack_to x.ends x.nodes x.depth

-- the row number of the last of the first d nodes, NONE where d is 0
unfoldable pub top_of : List ℕ → ℕ → ℕ
top_of nodes zero = NONE
top_of nodes (suc d) = get_or nodes d 0

-- open nodes as code keeps them
pub record OpenNodesAt (x : OpenNodes) : Type 0 where
  -- at most 16 nodes are open
  pub deep : x.depth ≤ levels
  -- there are 16 cells of ends
  pub ends : length x.ends ≡ levels
  -- and of row numbers
  pub nodes : length x.nodes ≡ levels

-- of the first `depth` nodes r are open at p
pub record NodesOpenAt (ends : List ℕ) (depth p r : ℕ) : Type 0 where
  -- no more than there were
  pub low : r ≤ depth
  -- those that are open at p, whatever their row numbers
  pub is : (nodes : List ℕ) → stack_to ends nodes r ≡ open_at p (stack_to ends nodes depth)

-- a node with this end and this number is entered at p
pub record Enters (x : OpenNodes) (p end index : ℕ) (r : EnteredNode) : Type 0 where
  -- its parent is the last node that is open at p
  pub parent : r.parent ≡ parent_at p (stack_of x)
  -- the node is open behind those that are open at p
  pub stack : stack_of r.path ≡ record { end = end; index = index } ∷ open_at p (stack_of x)
  -- the result is kept as open nodes are
  pub path : OpenNodesAt r.path
