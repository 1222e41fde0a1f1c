-- How many bytes may be taken at once.
use Rattle.std.specs.Prelude.{◌≡◌, ℕ, ◌+◌, ◌<◌, ◌≤◌, List, get_or}
use Rattle.b3d_pieces_spec.specs.Limits.{most_counted}

-- r of at most n bytes from `at` on
pub record BytesBefore (at end n r : ℕ) : Type 0 where
  -- r is at most n
  pub most : r ≤ n
  -- if r is not 0, the place after these bytes is before the end
  pub inside : (r ≡ 0 → ⊥) → at + r < end

-- r is the place up to which no byte of p from `from` on is zero
pub record UntilZero (p : List ℕ) (from last r : ℕ) : Type 0 where
  -- r is not before `from`
  pub ahead : from ≤ r
  -- r is at most `last`
  pub within : r ≤ last
  -- no byte before r is zero
  pub text : (k : ℕ) → from ≤ k → k < r → get_or p k 0 ≡ 0 → ⊥

-- r of the next `left` bytes may be taken at once after `size` bytes
pub record RoomIs (size left r : ℕ) : Type 0 where
  -- r is at most `left`
  pub most : r ≤ left
  -- if r is not 0, BB3D's header is over
  pub body : (r ≡ 0 → ⊥) → 8 ≤ size
  -- if r is not 0, with these bytes the file is at most one byte longer than the longest file
  pub file : (r ≡ 0 → ⊥) → size + r ≤ most_counted
