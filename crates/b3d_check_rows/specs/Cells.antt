-- A test of single words as a test of rows of one word.
use Rattle.std.specs.Prelude.{ℕ, Bool, List, get_or}

-- the test g of the first word of row r, 0 where there is none
unfoldable pub of_cell : (ℕ → Bool) → List ℕ → Bool
of_cell g r = g (get_or r 0 0)
