-- Entries of two rows.
use Rattle.std.specs.Prelude.{◌≡◌, ℕ, ◌<◌, ◌≤◌, List, [], ◌∷◌, get_or, eqb}
use Rattle.wire.specs.Test.{if}
use Rattle.b3d_compare_spec.specs.Words.{words_of}
use Rattle.b3d_compare_spec.specs.Changes.{Change, number, cell_at}

-- the entry of word w where it is a number, p in the first file and q in the second
unfoldable pub word_entry : ℕ → ℕ → ℕ → ℕ → ℕ → List Change
word_entry k r w p q = if (eqb p q) [] (record { table = k; row = r; word = w; first = number p; second = number q } ∷ [])

-- the words of table k from w on are numbers
pub record NumbersFrom (k from : ℕ) : Type 0 where
  -- the table is that wide at least
  pub start : from ≤ words_of k
  -- each cell of them is the number that the row has there, whatever the file
  pub numbers : (w : ℕ) → from ≤ w → w < words_of k → (s x : List ℕ) → cell_at k s x w ≡ number (get_or x w 0)
