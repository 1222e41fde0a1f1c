-- Items whose words mean the same.
use Rattle.std.specs.Prelude.{◌≡◌, ℕ, ◌+◌, ◌*◌, ◌≤◌, Bool, true}
use Rattle.b3d_rows_open_items.specs.ItemsLeft.{ItemTable}
use Rattle.b3d_rows_open_items.specs.declared.OpenItems.{OpenItems}

-- what `is_items` returns
pub record IsItems (k : ℕ) (r : Bool) : Type 0 where
  -- where the answer is yes
  pub is : r ≡ true → ItemTable k

-- what `has_item` returns
pub record HasItem (i : OpenItems) (r : Bool) : Type 0 where
  -- where the answer is yes
  pub is : r ≡ true → i.rest.at + 4 * i.words ≤ i.rest.end

-- the items i and j of table k have words that mean the same, and each has an item
pub record SameShape (k : ℕ) (i j : OpenItems) : Type 0 where
  -- k is a table of items
  pub table : ItemTable k
  -- as many words
  pub words : i.words ≡ j.words
  -- of the same meaning
  pub flags : i.flags ≡ j.flags
  pub sets : i.sets ≡ j.sets
  pub size : i.size ≡ j.size
  -- an item is left of each
  pub first_some : i.rest.at + 4 * i.words ≤ i.rest.end
  pub second_some : j.rest.at + 4 * j.words ≤ j.rest.end

-- what `same_shape` returns
pub record IsSameShape (k : ℕ) (i j : OpenItems) (r : Bool) : Type 0 where
  -- where the answer is yes
  pub is : r ≡ true → SameShape k i j
