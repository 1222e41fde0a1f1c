-- A rule for every one of a list.
use Rattle.std.specs.Prelude.{List, [], ◌∷◌}

-- P holds of each element of the list
abbrev pub All : {A : Type 0} → (A → Type 0) → List A → Type 0
All P [] = Unit {0}
All P (a ∷ l) = P a × All P l
