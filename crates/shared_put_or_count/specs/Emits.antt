-- What a walk puts into an output, or only counts.
use Rattle.std.specs.Prelude.{◌≡◌, ℕ, ◌+◌, ◌<◌, ◌≤◌, Bool, true, false, List, length}
use Rattle.std.proofs.lemmas.List.Edits.{sets}

-- an output with w put into it from a place on, where the walk is wet
unfoldable pub written : Bool → List ℕ → ℕ → List ℕ → List ℕ
written true w at xs = sets xs at w
written false w at xs = xs

-- how far a walk may go: to the output's end; one that is dry as far as numbers of four bytes do
abbrev pub room_of : Bool → List ℕ → ℕ
room_of true xs = length xs
room_of false xs = 4294967295

-- w has room from a place on
pub record RoomFrom (wet : Bool) (w : List ℕ) (at : ℕ) (xs : List ℕ) : Type 0 where
  -- it ends where the walk may go, or before
  pub room : at + length w ≤ room_of wet xs
  -- and at a place of four bytes
  pub small : at + length w < 4294967296

-- w was put into xs from `at` on, which gave ys, or counted; it ends at `next`
pub record Emits (wet : Bool) (w xs : List ℕ) (at : ℕ) (ys : List ℕ) (next : ℕ) : Type 0 where
  -- the output afterwards
  pub is : ys ≡ written wet w at xs
  -- it is as long as it was
  pub long : length ys ≡ length xs
  -- the place after w
  pub to : next ≡ at + length w
