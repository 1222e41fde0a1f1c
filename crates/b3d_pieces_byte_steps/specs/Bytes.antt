-- The value of a number of which one more byte came, and how many bytes came.
use Rattle.std.specs.Prelude.{ℕ, zero, suc, ◌+◌, ◌*◌, ◌<◌, ◌≡◌}
use Rattle.wire.specs.Bytes.{IsWord}
use Rattle.b3d_pieces_spec.specs.declared.Part.{Part}
use Rattle.b3d_pieces_spec.specs.declared.Part.TheVariants.{Text, Row, Skip}
use Rattle.b3d_pieces_spec.specs.Good.{worth}

-- the value of j bytes of a number, worth acc, and one more, b
abbrev pub gathers : ℕ → ℕ → ℕ → ℕ
gathers zero acc b = b
gathers (suc zero) acc b = acc + 256 * b
gathers (suc (suc zero)) acc b = acc + 65536 * b
gathers (suc (suc (suc j))) acc b = acc + 16777216 * b

-- r is the value of j bytes of a number, worth acc, and one more, b
pub record AddsByte (j acc b r : ℕ) : Type 0 where
  -- r is what `gathers` gives
  pub is : r ≡ gathers j acc b
  -- if the number is not complete, r is below what j + 1 bytes can be
  pub low : j < 3 → r < worth (j + 1)
  -- if the number is not complete, r has at most three bytes
  pub most : j < 3 → r < 16777216
  -- r is a word of four bytes
  pub word : IsWord r

-- how many bytes of the file came, the part m standing at `at`
unfoldable pub came_of : Part → ℕ → ℕ
came_of (Text fixed start) at = at
came_of (Row fixed start i j acc k) at = at + j
came_of (Skip until) at = at

-- how many of the bytes that came belong to a number that is not complete yet
unfoldable pub spare_of : Part → ℕ
spare_of (Text fixed start) = 0
spare_of (Row fixed start i j acc k) = j
spare_of (Skip until) = 0
