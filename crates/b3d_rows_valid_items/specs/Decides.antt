-- What a test tells: that something holds, or that it does not.
use Rattle.std.specs.Prelude.{Bool, true, false}

abbrev pub DecidesIs : Type 0 → Bool → Type 0
DecidesIs P true = P
DecidesIs P false = P → ⊥

-- the answer r of a test is whether P holds
pub record Decides (P : Type 0) (r : Bool) : Type 0 where
  -- by the case of the answer
  pub is : DecidesIs P r
