-- Entries of two items, by their words.
use Rattle.std.specs.Prelude.{◌≡◌, ℕ, ◌+◌, Bool, true, false, List, [], ◌∷◌, ◌++◌, length, eqb, leb}
use Rattle.wire.specs.Test.{if}
use Rattle.b3d_spec.specs.Mask.{mask, vertex_has, key_has}
use Rattle.b3d_compare_spec.specs.Changes.{Change}
use Rattle.b3d_compare_rows.specs.Rows.{word_entry}

-- word w of an item's row of table k is there
unfoldable pub item_has : ℕ → ℕ → ℕ → ℕ → ℕ → Bool
item_has k flags sets size w = if (eqb k 5) (vertex_has flags sets size w) (if (eqb k 10) (key_has flags w) true)

-- word w of an item's row of table k, which is 5, 7, 8 or 10, is a float: each of a vertex, none of a triangle, all but the first of a weight and of a key
unfoldable pub item_float : ℕ → ℕ → Bool
item_float k w = if (eqb k 5) true (if (eqb k 7) false (leb 1 w))

-- the words from w on that are there by a mask
unfoldable pub columns : ℕ → List Bool → List ℕ
columns w [] = []
columns w (true ∷ m) = w ∷ columns (w + 1) m
columns w (false ∷ m) = columns (w + 1) m

-- cols begin with the words of an item's row of table k that are there
pub record ItemColumns (k flags sets size : ℕ) (cols : List ℕ) : Type 0 where
  -- they are 42
  pub long : length cols ≡ 42
  -- what follows them
  pub rest : List ℕ
  -- those that are there come first
  pub is : cols ≡ columns 0 (mask (item_has k flags sets size) 42 0) ++ rest

-- the entries of the words xs and ys of two items, row r of table k, which stand at these words of their rows
unfoldable pub item_entries : ℕ → ℕ → List ℕ → List ℕ → List ℕ → List Change
item_entries k r [] xs ys = []
item_entries k r (w ∷ cols) [] ys = []
item_entries k r (w ∷ cols) (x ∷ xs) [] = []
item_entries k r (w ∷ cols) (x ∷ xs) (y ∷ ys) = word_entry k r w x y ++ item_entries k r cols xs ys
