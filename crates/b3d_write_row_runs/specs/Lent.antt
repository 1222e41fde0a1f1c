-- Tables as the functions that write are lent them, all of whose rows count; and what is written row by row.
use Rattle.std.specs.Prelude.{ℕ, ◌/◌, List, [], ◌∷◌, ◌++◌, length, take, drop}
use Rattle.b3d_spec.specs.Rebuild.{cut}

-- all rows of w words that the table ws has
unfoldable pub rows_in : ℕ → List ℕ → List (List ℕ)
rows_in w ws = cut w (length ws / w) ws

-- the `count` rows of w words of the table ws from row `first` on
abbrev pub rows_from : ℕ → List ℕ → ℕ → ℕ → List (List ℕ)
rows_from w ws first count = take count (drop first (rows_in w ws))

-- what `piece` makes of each row, one after the other
unfoldable pub each_row : (List ℕ → List ℕ) → List (List ℕ) → List ℕ
each_row piece [] = []
each_row piece (x ∷ xs) = piece x ++ each_row piece xs
