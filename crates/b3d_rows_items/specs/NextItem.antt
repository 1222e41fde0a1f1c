-- The next row of a table of items, and the position behind it.
use Rattle.std.specs.Prelude as std
use Rattle.std.specs.Prelude.{ℕ, List, Some, None}
use Rattle.b3d_rows_positions.specs.Positions.{items_ahead, ItemPosition, Comes, NoRow}
use Rattle.b3d_rows_positions.specs.declared.Position.{Position}

-- the step from x to y, over a row of table k
pub record ItemNext (k : ℕ) (s : List ℕ) (x : Position) (row put : List ℕ) (y : Position) : Type 0 where
  -- the next row is stored, and the others are to come
  pub comes : Comes k (items_ahead k s x) (items_ahead k s y) row put
  -- the position behind it is one in table k
  pub position : ItemPosition k s y

abbrev pub ItemNextIs : ℕ → List ℕ → Position → List ℕ → List ℕ → std.Option Position → Type 0
ItemNextIs k s x row put (Some y) = ItemNext k s x row put y
ItemNextIs k s x row put None = NoRow (items_ahead k s x) row put

-- what `next_item` does
pub record ItemNexts (k : ℕ) (s : List ℕ) (x : Position) (row put : List ℕ) (r : std.Option Position) : Type 0 where
  -- by the case of the answer
  pub is : ItemNextIs k s x row put r
