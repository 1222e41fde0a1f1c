-- What the tests of WellFormed say, as statements.
use Rattle.std.specs.Prelude.{ℕ, ◌<◌, List, [], ◌∷◌, T}
use Rattle.wire.specs.Bytes.{IsWord}
use Rattle.layout.specs.Lists.{All}
use Rattle.layout.specs.Rules.{Rule, holds}

-- there is a word for each rule, which it keeps, and no word more
abbrev pub Fits : List Rule → List ℕ → Type 0
Fits [] [] = Unit {0}
Fits [] (w ∷ ws) = ⊥
Fits (r ∷ rs) [] = ⊥
Fits (r ∷ rs) (w ∷ ws) = IsWord w × T (holds r w) × Fits rs ws

-- the bytes cs can stand in a text: each is a byte and none is zero
abbrev pub FitText : List ℕ → Type 0
FitText cs = All (λ (c : ℕ). (0 < c) × (c < 256)) cs
