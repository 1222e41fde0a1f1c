-- Which rows are judged, and rows that are passed over whole.
use Rattle.std.specs.Prelude.{◌≡◌, ℕ, ◌+◌, ◌*◌, ◌<◌, ◌≤◌, Bool, true, false, List, length}
use Rattle.b3d_spec.specs.declared.Tag.{Tag}
use Rattle.b3d_pieces_spec.specs.declared.Totals.{Totals}
use Rattle.b3d_pieces_spec.specs.declared.Kept.{Kept}
use Rattle.b3d_pieces_skip_numbers.specs.declared.RowPlace.{RowPlace}
use Rattle.b3d_pieces_skip_numbers.specs.declared.JudgedNumbers.{JudgedNumbers}
use Rattle.b3d_pieces_skip_numbers.specs.declared.RowRules.{RowRules}
use Rattle.b3d_pieces_skip_numbers.specs.Places.{JudgedIs, Plain, Sound, Advanced}

-- the first `past` numbers of a row are ids below `names`, the others are not judged
abbrev pub ids_of : ℕ → ℕ → JudgedNumbers
ids_of past names = record { first = 0; past = past; colour = false; names = names }

-- what q says of a row is right for every chunk
pub record AnyRow (q : JudgedNumbers) : Type 0 where
  -- whatever its tag, its fixed data and the totals
  pub is : (fixed : Bool) (t : Tag) (k : Kept) (g : Totals) → JudgedIs q fixed t k g

-- what q says is right for the fixed data of a chunk of tag t
pub record FixedIs (t : Tag) (q : JudgedNumbers) : Type 0 where
  -- whatever its numbers and the totals
  pub is : (k : Kept) (g : Totals) → JudgedIs q true t k g

-- r says that rows of numbers follow each other in a chunk of tag t
pub record AgainIs (fixed : Bool) (t : Tag) (r : Bool) : Type 0 where
  -- if r is true, the rows are items of numbers only
  pub is : r ≡ true → Plain fixed t

-- r rows of n numbers lie in a bytes, and one more after them in b bytes
pub record WholeRows (a b n r : ℕ) : Type 0 where
  -- the r rows are at most a bytes
  pub here : 4 * (r * n) ≤ a
  -- if there are any, they and one more row are at most b bytes
  pub there : (r ≡ 0 → ⊥) → 4 * (r * n) + 4 * n ≤ b
  -- if there are any, a row has numbers
  pub some : (r ≡ 0 → ⊥) → 0 < n
  -- the rows are no more than their numbers
  pub few : r ≤ r * n

-- rows from x to r are passed over, whatever their bytes
pub record Skips (last : ℕ) (q : RowRules) (x r : RowPlace) : Type 0 where
  -- what holds of a place holds of r
  pub sound : Sound last r
  -- the machine comes from x to r over the bytes of any p
  pub took : (p : List ℕ) → last ≤ length p → Advanced p last q x r
