-- The cells of a bone.
use Rattle.std.specs.Prelude.{ℕ, List, [], ◌∷◌, ◌++◌}

-- a bone's row: place and length of its name, its 20 numbers, and how many children came before
abbrev pub bone_cells : ℕ → ℕ → List ℕ → ℕ → List ℕ
bone_cells place size numbers before = (place ∷ size ∷ []) ++ (numbers ++ (before ∷ []))
