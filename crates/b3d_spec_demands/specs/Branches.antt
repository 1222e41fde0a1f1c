-- What a terminal relies on to fold away a branch: the rows behind a node's, as many as its last word says, are the nodes below it.
use Rattle.std.specs.Prelude.{◌≡◌, ℕ, ◌+◌, ◌≤◌, ◌<◌, List, [], length, get_or}
use Rattle.layout.specs.Result.{accept}
use Rattle.b3d_spec.specs.declared.Mode.{Mode}
use Rattle.b3d_spec.specs.Answers.{judge}
use Rattle.b3d_spec.specs.Scene.{Scene}
use Rattle.b3d_spec.specs.Tables.{rows}
use Rattle.b3d_spec.specs.Columns as columns

-- the parent that row j of the node rows xs says; the root's is NONE
abbrev pub parent_of : List (List ℕ) → ℕ → ℕ
parent_of xs j = get_or (get_or xs j []) columns.node_parent 0

-- the number of nodes below it that row r of the node rows xs says (E4, its 21st word)
abbrev pub branch_of : List (List ℕ) → ℕ → ℕ
branch_of xs r = get_or (get_or xs r []) columns.node_below 0

-- row j of the node rows xs is below row r, by the parents
pub data Under (xs : List (List ℕ)) (r : ℕ) : ℕ → Type 0 where
  -- r is its parent
  child : (j : ℕ) → j < length xs → parent_of xs j ≡ r → Under xs r j
  -- its parent is below r
  deeper : (j : ℕ) → j < length xs → Under xs r (parent_of xs j) → Under xs r j

-- the rows r + 1 to r + branch of the node rows xs are exactly those below row r
pub record Branch (xs : List (List ℕ)) (r : ℕ) : Type 0 where
  -- there are such rows
  pub within : r + branch_of xs r < length xs
  -- each of them is below row r
  pub below : (j : ℕ) → r < j → j ≤ r + branch_of xs r → Under xs r j
  -- each row that is below row r is one of them
  pub only : (j : ℕ) → Under xs r j → (r < j) × (j ≤ r + branch_of xs r)

-- E4, in table 3 of a file s that a mode accepts: each node's branch is the next rows, as many as its last word says
abbrev pub Branches : Mode → List ℕ → Type 0
Branches mode s = (t : Scene) → judge mode s ≡ accept t → (r : ℕ) → r < length (rows 3 t) → Branch (rows 3 t) r
