-- What a lent slice holds after a text was put into it: as much of the text as there was room for.
use Rattle.std.specs.Prelude.{◌≡◌, ℕ, ◌+◌, ◌-◌, List, length}
use Rattle.std.proofs.lemmas.List.Edits.{sets}

-- what a function that puts the text w into xs from `at` on promises: of ys, the slice afterwards, and of `next`, where the next text goes
pub record Puts (w xs : List ℕ) (at : ℕ) (ys : List ℕ) (next : ℕ) : Type 0 where
  -- as much of w as has room is stored, and no other byte is changed
  pub is : ys ≡ sets xs at w
  -- the slice is as long as it was
  pub long : length ys ≡ length xs
  -- the next text goes behind w, or to the end of the slice where that comes first
  pub reached : next ≡ length xs - (length xs - (at + length w))
