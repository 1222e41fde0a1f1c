-- A number up to the most that it may be, and how many words an item has.
use Rattle.std.specs.Prelude.{◌≡◌, ℕ, ◌≤◌, Bool, true, false}
use Rattle.b3d_spec.specs.Mask.{ones, key_mask}

-- r is x, or `most` where x is larger
pub record Clipped (x most r : ℕ) : Type 0 where
  pub low : r ≤ most
  pub same : x ≤ most → r ≡ x
  pub top : most ≤ x → r ≡ most

-- how many words an item has: of a KEYS with these flags (true), or of a TRIS (false)
abbrev pub group_width : Bool → ℕ → ℕ
group_width true flags = ones (key_mask flags)
group_width false flags = 3
