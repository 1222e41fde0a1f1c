-- Which vertices a bone may name (E3), read off the tables: up from its parent to the nearest node with an ANIM, else to the root; those of that node's MESH.
use Rattle.std.specs.Prelude.{◌⊎◌, ◌≡◌, ℕ, ◌+◌, ◌<◌, List, [], length, get_or, eqb}
use Rattle.wire.specs.Test.{if}
use Rattle.layout.specs.Result.{accept}
use Rattle.layout.specs.Rules.{NONE}
use Rattle.b3d_spec.specs.declared.Mode.{Mode}
use Rattle.b3d_spec.specs.Answers.{judge}
use Rattle.b3d_spec.specs.Rebuild.{Rows}
use Rattle.b3d_spec.specs.Scene.{Scene}
use Rattle.b3d_spec.specs.Tables.{rows}
use Rattle.b3d_spec.specs.Columns as columns
use Rattle.b3d_spec_demands.specs.Branches.{parent_of}

-- the kind in row j of the node rows xs: 0 pivot, 1 mesh, 2 bone
abbrev pub kind_of : List (List ℕ) → ℕ → ℕ
kind_of xs j = get_or (get_or xs j []) columns.node_kind 0

-- cell `first` in row j of the node rows xs: the mesh number or the first weight
abbrev pub first_of : List (List ℕ) → ℕ → ℕ
first_of xs j = get_or (get_or xs j []) columns.node_first 0

-- cell `count` in row j of the node rows xs
abbrev pub count_of : List (List ℕ) → ℕ → ℕ
count_of xs j = get_or (get_or xs j []) columns.node_count 0

-- cell ANIM present in row j of the node rows xs: 1, or 0
abbrev pub anim_of : List (List ℕ) → ℕ → ℕ
anim_of xs j = get_or (get_or xs j []) columns.node_anim 0

-- from row j of the node rows xs up by the parents: c is the nearest row with an ANIM, or the root if there is none
pub data Nearest (xs : List (List ℕ)) (c : ℕ) : ℕ → Type 0 where
  -- row j is that row: it has an ANIM, or is the root
  itself : (j : ℕ) → j ≡ c → (anim_of xs j ≡ 1) ⊎ (parent_of xs j ≡ NONE) → Nearest xs c j
  -- row j has no ANIM and is not the root: go up to its parent
  above : (j : ℕ) → anim_of xs j ≡ 0 → (parent_of xs j ≡ NONE → ⊥) → Nearest xs c (parent_of xs j) → Nearest xs c j

-- how many vertices the MESH of node c has, in the tables R; 0 where it has no MESH
unfoldable pub mesh_vertices : Rows → ℕ → ℕ
mesh_vertices R c = if (eqb (kind_of (R 3) c) 1) (get_or (get_or (R 4) (first_of (R 3) c) []) columns.mesh_vertices 0) 0

-- the vertex id of weight i of node r, in the tables R
abbrev pub weight_id : Rows → ℕ → ℕ → ℕ
weight_id R r i = get_or (get_or (R 8) (first_of (R 3) r + i) []) columns.weight_vertex 0

-- row w of the weights is one of a bone's, xs being the node rows
pub record WeightOf (xs : List (List ℕ)) (w : ℕ) : Type 0 where
  -- the bone's row
  pub by : ℕ
  -- which of its weights, from 0 on
  pub number : ℕ
  -- there is such a node row
  pub row : by < length xs
  -- it is a bone
  pub kind : kind_of xs by ≡ 2
  -- it has such a weight
  pub few : number < count_of xs by
  -- that weight is row w
  pub is : w ≡ first_of xs by + number

-- weight i of node r, in the tables R, names a vertex as E3 says
pub record WeightNearest (R : Rows) (r i : ℕ) : Type 0 where
  -- the node whose MESH it is measured against
  pub of : ℕ
  -- from r's parent up, that node is the nearest with an ANIM, or the root if no node above has one
  pub nearest : Nearest (R 3) of (parent_of (R 3) r)
  -- no other node is
  pub only : (c : ℕ) → Nearest (R 3) c (parent_of (R 3) r) → c ≡ of
  -- the vertex id names a vertex of that node's MESH; without a MESH no vertex id is right
  pub names : weight_id R r i < mesh_vertices R of

-- E3, in the tables of a file s that a mode accepts
pub record BonesNearest (mode : Mode) (s : List ℕ) : Type 0 where
  -- each weight of each bone names a vertex of the MESH of the nearest node above with an ANIM, else of the root's
  pub bones : (t : Scene) → judge mode s ≡ accept t → (r : ℕ) → r < length (rows 3 t) → kind_of (rows 3 t) r ≡ 2 → (i : ℕ) → i < count_of (rows 3 t) r
      → WeightNearest (λ k. rows k t) r i
  -- each row of the weights is a weight of some bone
  pub each : (t : Scene) → judge mode s ≡ accept t → (w : ℕ) → w < length (rows 8 t) → WeightOf (rows 3 t) w
