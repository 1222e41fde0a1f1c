-- The answer for bytes of which only the size is known.
use Rattle.std.specs.Prelude.{◌≡◌, ℕ, List, length}
use Rattle.b3d_spec.specs.Answers.{room_for, written}
use Rattle.b3d_spec.specs.declared.Written.{Written}

-- what `answer_of` promises of its answer r
pub record OfSize (size room : ℕ) (r : Written) : Type 0 where
  -- r is the answer for whatever bytes of this size and an output of `room` bytes
  pub is : (b : List ℕ) → length b ≡ size → r ≡ written (room_for room b)
