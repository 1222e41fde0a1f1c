-- Where a cursor stands, in the body of a chunk or among the chunks inside one, and the chunks that it has left there.
use Rattle.std.specs.Prelude.{◌≡◌, ℕ, ◌≤◌, ◌+◌, List}
use Rattle.wire.specs.Cursors.{left}
use Rattle.wire.specs.declared.Cursor.{Cursor}
use Rattle.layout.specs.Rows.{most_bytes}
use Rattle.b3d_spec.specs.declared.Tag.{Tag}
use Rattle.b3d_spec.specs.Tags.{Chunks, split}
use Rattle.b3d_spec.specs.Nesting.{Reached, order}

-- b is the body of a chunk whose header stands at `at`, in a file of n bytes
pub record Body (at : ℕ) (b : Cursor) (n : ℕ) : Type 0 where
  -- it begins behind the header
  pub head : b.at ≡ at + 8
  -- it ends behind its beginning, or there
  pub room : b.at ≤ b.end
  -- it ends in the file
  pub within : b.end ≤ n
  -- the file is within the size limit
  pub small : n ≤ most_bytes

-- cursor c stands among the chunks inside a chunk whose header stands at `at`, in a file of n bytes
pub record Among (at : ℕ) (c : Cursor) (n : ℕ) : Type 0 where
  -- it is behind the header
  pub head : at + 8 ≤ c.at
  -- it is not past its end
  pub room : c.at ≤ c.end
  -- its end is in the file
  pub within : c.end ≤ n
  -- the file is within the size limit
  pub small : n ≤ most_bytes

-- the chunks of s from cursor c on, inside a chunk of tag k whose header is at `head`, after chunks that came to r
unfoldable pub rest_in : List ℕ → Tag → ℕ → Reached → Cursor → Chunks
rest_in s k head r c = order k head r (split c.at (left c s))
