-- The first of the lent tables that is too short.
use Rattle.std.specs.Prelude.{ℕ, ◌-◌, ◌*◌, List, [], ◌∷◌, get_or, ltb}
use Rattle.wire.specs.Test.{if}

-- the number that the list ns has for table k, tables counting from 1; 0 past the list's end
abbrev pub number_of : List ℕ → ℕ → ℕ
number_of ns k = get_or ns (k - 1) 0

-- the first of these tables that has no room for its rows, where table k has count k rows of width k words and room k words; 0 if there is none
unfoldable pub first_short : (ℕ → ℕ) → (ℕ → ℕ) → (ℕ → ℕ) → List ℕ → ℕ
first_short width count room [] = 0
first_short width count room (k ∷ ks) = if (ltb (room k) (width k * count k)) k (first_short width count room ks)
