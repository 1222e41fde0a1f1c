-- Items of two open chunks, pair by pair.
use Rattle.std.specs.Prelude.{◌≡◌, ℕ, ◌+◌, ◌≤◌, Bool, List, ◌++◌, length}
use Rattle.wire.specs.Cursors.{Inside}
use Rattle.shared_put_or_count.specs.Emits.{Emits}
use Rattle.b3d_spec.specs.Rules.{row_limit}
use Rattle.b3d_rows_open_items.specs.ItemsLeft.{item_rows, Measured}
use Rattle.b3d_rows_open_items.specs.declared.OpenItems.{OpenItems}
use Rattle.b3d_rows_past.specs.Past.{items_past}
use Rattle.b3d_compare_spec.specs.Changes.{table_changes}
use Rattle.b3d_compare_spec.specs.List.{list_bytes}
use Rattle.b3d_compare_shapes.specs.Shapes.{SameShape}
use Rattle.b3d_compare_items.specs.declared.ItemsPut.{ItemsPut}

-- the items i of file a and j of file b can be compared pair by pair, the first of them row r of table k
pub record ItemPairs (k r : ℕ) (a b : List ℕ) (i j : OpenItems) : Type 0 where
  -- they have the same shape
  pub shape : SameShape k i j
  -- they lie in their files
  pub first_in : Inside i.rest (length a)
  pub second_in : Inside j.rest (length b)
  -- and have the words that their numbers say
  pub measured : Measured k i
  -- there are no more rows than a table may have
  pub most : r + length (item_rows k a i) ≤ row_limit

-- what `put_items` returns: the entries of some pairs, the first of them row r of table k, were put or counted from `at` on
pub record PutItems (k r : ℕ) (a b : List ℕ) (i j : OpenItems) (wet : Bool) (xs : List ℕ) (at : ℕ) (ys : List ℕ) (t : ItemsPut) : Type 0 where
  -- at least one pair was passed
  pub some : 1 ≤ t.rows
  -- the rows of each file
  pub firsts : List (List ℕ)
  pub seconds : List (List ℕ)
  -- they are as many
  pub first_long : length firsts ≡ t.rows
  pub second_long : length seconds ≡ t.rows
  -- their items lie in the open chunks
  pub first_there : i.rest.at + t.bytes ≤ i.rest.end
  pub second_there : j.rest.at + t.bytes ≤ j.rest.end
  -- the rows of i and j are those and the ones behind them
  pub first : item_rows k a i ≡ firsts ++ item_rows k a (items_past t.bytes i)
  pub second : item_rows k b j ≡ seconds ++ item_rows k b (items_past t.bytes j)
  -- their entries were put, or counted
  pub put : Emits wet (list_bytes (table_changes k a b r firsts seconds)) xs at ys t.next
