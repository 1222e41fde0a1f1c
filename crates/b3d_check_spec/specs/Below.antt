-- Where the rows of a forest stand among those of a scene.
use Rattle.std.specs.Prelude.{◌≡◌, ◌⊎◌, ℕ, ◌≤◌, ◌<◌, List, [], ◌∷◌, ◌++◌, get_or}
use Rattle.layout.specs.Lists.{All}
use Rattle.layout.specs.Rules.{NONE}
use Rattle.b3d_spec.specs.Rebuild.{Rows, From}
use Rattle.b3d_spec.specs.Scene.{Forest}
use Rattle.b3d_spec.specs.Tables.{with_forest, forest_rows, node_tables}
use Rattle.b3d_spec.specs.declared.Counts.{Counts}
use Rattle.b3d_spec.specs.Columns as columns

-- the first of these node rows is no child of node i nor of a later node; nothing is said where there is none
abbrev pub Above : ℕ → List (List ℕ) → Type 0
Above i [] = Unit {0}
Above i (x ∷ xs) = (get_or x columns.node_parent 0 < i) ⊎ (get_or x columns.node_parent 0 ≡ NONE)

-- the first of these key lists belongs to node i or to a later one; nothing is said where there is none
abbrev pub Later : ℕ → List (List ℕ) → Type 0
Later i [] = Unit {0}
Later i (x ∷ xs) = i ≤ get_or x columns.key_list_node 0

-- the tables R, from row counts n on, hold the rows of the forest t with parent p and then the rows S
pub record Here (R : Rows) (t : Forest) (p : ℕ) (n : Counts) (S : Rows) : Type 0 where
  -- so it is in each of tables 3 to 10
  pub begins : All (From R n (λ k. forest_rows k t p n ++ S k)) node_tables
  -- S's first node is no child of p nor of a later node
  pub above : Above p (S 3)
  -- S's first key list belongs to a node after those of t
  pub later : Later (with_forest t n).nodes (S 9)
