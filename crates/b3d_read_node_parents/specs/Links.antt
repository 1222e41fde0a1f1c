-- Rows of nodes in a table, as the way up from a node to those above it.
use Rattle.std.specs.Prelude.{◌≡◌, ℕ, ◌+◌, ◌*◌, ◌<◌, ◌≤◌, List, [], ◌∷◌, length, get_or}
use Rattle.wire.specs.Bytes.{word_at}
use Rattle.layout.specs.Rules.{NONE}
use Rattle.b3d_spec.specs.Tables.{node_width}
use Rattle.b3d_spec.specs.Columns as columns
use Rattle.b3d_spec_plain_rows.specs.Rows.{Open, parent_at}

-- the row of node o, the nodes before it being l; the node begins no later than p
pub record Link (s rows : List ℕ) (p : ℕ) (l : List Open) (o : Open) : Type 0 where
  -- the place of the node's header
  pub head : ℕ
  -- the header is not past p
  pub before : head ≤ p
  -- the node ends in the file
  pub within : o.end ≤ length s
  -- its number is that of the nodes before it
  pub index_is : o.index ≡ length l
  -- cell 0 of its row is the place behind the header
  pub name_is : get_or rows (node_width * length l) 0 ≡ head + 8
  -- its end is given by the length in the header
  pub end_is : o.end ≡ head + 8 + word_at s (head + 4)
  -- cell 2 of its row is its parent
  pub above_is : get_or rows (node_width * length l + columns.node_parent) 0 ≡ parent_at head l

-- the table `rows` has the row of each of these nodes, the last first, and all begin no later than p
abbrev pub Linked : List ℕ → List ℕ → ℕ → List Open → Type 0
Linked s rows p [] = Unit {0}
Linked s rows p (o ∷ l) = Link s rows p l o × Linked s rows p l

-- what `parent_at` asks: the table has the rows of `nodes` nodes that begin no later than p
pub record Climbable (s rows : List ℕ) (nodes p : ℕ) : Type 0 where
  -- those nodes, the last first
  pub opens : List Open
  -- the table has their rows
  pub linked : Linked s rows p opens
  -- they are `nodes` nodes
  pub long : length opens ≡ nodes
  -- the table is long enough for their rows
  pub room : node_width * nodes ≤ length rows
  -- their numbers are below NONE
  pub few : nodes < NONE
  -- places in the file fit a word
  pub small : length s < 0x100000000

-- what `parent_at` promises of its answer r
pub record ParentIs (s rows : List ℕ) (nodes p r : ℕ) : Type 0 where
  -- whatever nodes l the rows stand for, r is the number of the last that has not ended at p, or NONE
  pub is : (l : List Open) → Linked s rows p l → length l ≡ nodes → r ≡ parent_at p l
