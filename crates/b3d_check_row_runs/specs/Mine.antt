-- Which key lists belong to a node.
use Rattle.std.specs.Prelude.{◌≡◌, ℕ, ◌-◌, ◌≤◌, List}
use Rattle.b3d_spec.specs.Rebuild.{owned_by}
use Rattle.b3d_spec.specs.Tables.{key_list_width}
use Rattle.b3d_check_rows.specs.Rows.{rows_at}

-- what `lists_of` promises: of the key lists from `first` on, those of the node end before number r
pub record MineTo (node first all : ℕ) (t : List ℕ) (r : ℕ) : Type 0 where
  -- r is not before `first`
  pub low : first ≤ r
  -- r is not past `all`
  pub high : r ≤ all
  -- the rows from `first` up to r are the node's
  pub is : owned_by node (rows_at key_list_width first (all - first) t) ≡ rows_at key_list_width first (r - first) t
