-- A row as groups of cells: in each some words of the file, then zeros.
use Rattle.std.specs.Prelude.{ℕ, zero, suc, ◌+◌, ◌-◌, ◌*◌, List, [], ◌++◌, replicate}
use Rattle.shared_table_words.specs.Words.{words_at}

-- the n words of the bytes s from place p on, then m zeros
unfoldable pub piece_at : ℕ → ℕ → List ℕ → ℕ → List ℕ
piece_at n m s p = words_at n s p ++ replicate m 0

-- a row of the words of s from place p on: h words; a words in three cells; b words in `wide` cells; then what `last` makes from behind these words
unfoldable pub parts_at : ℕ → ℕ → ℕ → ℕ → (List ℕ → ℕ → List ℕ) → List ℕ → ℕ → List ℕ
parts_at h a wide b last s p =
    piece_at h 0 s p ++ (piece_at a (3 - a) s (p + 4 * h) ++ (piece_at b (wide - b) s (p + 4 * h + 4 * a) ++ last s (p + 4 * h + 4 * a + 4 * b)))

-- n rows, each as `row` makes it, the first of the words of s from place p on, each next one `size` words later
unfoldable pub rows_at : (List ℕ → ℕ → List ℕ) → ℕ → ℕ → List ℕ → ℕ → List ℕ
rows_at row size zero s p = []
rows_at row size (suc n) s p = row s p ++ rows_at row size n s (p + 4 * size)
