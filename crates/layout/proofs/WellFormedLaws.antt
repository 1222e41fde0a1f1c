-- The tests of specs/WellFormed say what the statements of specs/Fitting say.
use Prim.Native.Nat.{ℕ}
use mathlib.Core.List.{List, [], ◌∷◌}
use Rattle.layout.specs.Rules.{Rule, holds}
use Rattle.layout.specs.WellFormed.{all, row_fits, text_fits}
use Rattle.layout.proofs.AllLaws.{All}
pub use Rattle.layout.specs.Fitting.{Fits, FitText}
use Rattle.layout.proofs.TestLaws.{Tests, both, via, yes-is, no-is, bool_is, lt-is, all-is}

pub row_is : (rs : List Rule) (ws : List ℕ) → Tests (row_fits rs ws) (Fits rs ws)
row_is [] [] = yes-is
row_is [] (w ∷ ws) = no-is
row_is (r ∷ rs) [] = no-is
row_is (r ∷ rs) (w ∷ ws) =
    via (λ h. (h.0, h.1.0, h.1.1)) (λ h. (h.0, (h.1, h.2))) (both (lt-is w 4294967296) (both (bool_is (holds r w)) (row_is rs ws)))

pub rows_is : (rs : List Rule) (l : List (List ℕ)) → Tests (all (row_fits rs) l) (All (Fits rs) l)
rows_is rs l = all-is (row_is rs) l

pub text-is : (cs : List ℕ) → Tests (text_fits cs) (FitText cs)
text-is cs = all-is (λ c. both (lt-is 0 c) (lt-is c 256)) cs
