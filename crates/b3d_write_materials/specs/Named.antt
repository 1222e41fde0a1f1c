-- Rows that begin with a name: its place and its length in the bytes ns that hold the names.
use Rattle.std.specs.Prelude.{ℕ, ◌+◌, ◌≤◌, List, [], ◌∷◌, length, take, drop, get_or}
use Rattle.layout.specs.Write.{write_words, write_text}
use Rattle.b3d_spec.specs.Columns as columns

-- the name of the row of t that begins at word i is in ns
pub record NameThere (ns t : List ℕ) (i : ℕ) : Type 0 where
  -- place plus length is not past their end
  pub there : get_or t i 0 + get_or t (i + columns.name_length) 0 ≤ length ns

-- the name of the row of t at word i, its zero, and the `count` words of t from word `first` on
unfoldable pub named_bytes : List ℕ → List ℕ → ℕ → ℕ → ℕ → List ℕ
named_bytes ns t i first count = write_text (take (get_or t (i + columns.name_length) 0) (drop (get_or t i 0) ns)) (write_words (take count (drop first t)) [])

-- the name of each row is in ns
unfoldable pub NamesThere : List ℕ → List (List ℕ) → Type 0
NamesThere ns [] = Unit {0}
NamesThere ns (x ∷ xs) = (get_or x columns.name_place 0 + get_or x columns.name_length 0 ≤ length ns) × NamesThere ns xs

-- the name of row x, its zero, and the `many` words behind its two cells
unfoldable pub row_bytes : List ℕ → ℕ → List ℕ → List ℕ
row_bytes ns many x = write_text (take (get_or x columns.name_length 0) (drop (get_or x columns.name_place 0) ns)) (write_words (take many (drop 2 x)) [])
