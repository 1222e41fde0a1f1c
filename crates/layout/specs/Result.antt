-- What a reading step gives: a value, or a refusal with its number and its place.
use Rattle.std.specs.Prelude.{Bool, true, false, ℕ}

-- what a reading step gives
pub data Result (A : Type 0) : Type 0 where
  -- the value
  accept : A → Result A
  -- a refusal: its number and its place
  reject : ℕ → ℕ → Result A

-- `o >>= f` goes on by f from the value of o; a refusal of o stays
abbrev pub ◌>>=◌ : {A B : Type 0} → Result A → (A → Result B) → Result B
◌>>=◌ (accept a) f = f a
◌>>=◌ (reject n p) f = reject n p

-- goes on where the test holds, else refuses with n at place p
unfoldable pub check : Bool → ℕ → ℕ → Result (Unit {0})
check true n p = accept tt
check false n p = reject n p

infixl 10 ◌>>=◌
