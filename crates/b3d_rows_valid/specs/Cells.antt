-- Open nodes as they come from a caller.
use Rattle.std.specs.Prelude.{◌≡◌, length}
use Rattle.b3d_rows_nodes.specs.declared.OpenNodes.{OpenNodes}

-- open nodes are kept in two times 16 cells
pub record SixteenCells (x : OpenNodes) : Type 0 where
  -- of ends
  pub ends : length x.ends ≡ 16
  -- and of row numbers
  pub nodes : length x.nodes ≡ 16
