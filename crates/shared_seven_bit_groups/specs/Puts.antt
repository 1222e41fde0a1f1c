-- What an output holds after bytes were put into it.
use Rattle.std.specs.Prelude.{◌≡◌, ℕ, ◌+◌, List, length}
use Rattle.std.proofs.lemmas.List.Edits.{sets}

-- the bytes w were put into the output xs from `at` on, where it has room
pub record PutAt (w xs : List ℕ) (at : ℕ) (ys : List ℕ) (next : ℕ) : Type 0 where
  -- ys is xs with w there
  pub is : ys ≡ sets xs at w
  -- the output is as long as it was
  pub long : length ys ≡ length xs
  -- `next` is the place after w
  pub to : next ≡ at + length w
