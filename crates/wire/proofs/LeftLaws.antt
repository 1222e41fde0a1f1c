-- The bytes that a cursor has left: how many, the first ones, and what other cursors have of them.
use Prim.Native.Nat.{ℕ, suc, ◌+◌, ◌-◌, ◌<◌, ◌≤◌}
use native.Mathlib.Omega.{arith}
use mathlib.Core.Path.{◌≡◌, refl, sym}
use mathlib.Core.List.{List, [], ◌∷◌, ◌++◌}
use lib.ListN.{length, take, drop, get_or, length-take, length-drop, drop_of_length-le, take-append-drop}
use lib.Seq.{slice, slice-cons, length-slice, drop-drop, drop_at, take-take, take-add, length-take-le}
use Rattle.wire.specs.Bytes.{AllBytes}
use Rattle.wire.specs.Cursors.{Inside, left}
use Rattle.wire.specs.declared.Cursor.{Cursor}
use Rattle.wire.proofs.WordLaws.{take-bytes, drop-bytes}

-- the cursor from a place to an end
abbrev pub span : ℕ → ℕ → Cursor
span at end = record { at = at; end = end }

-- no byte is zero
abbrev pub NoZero : List ℕ → Type 0
NoZero [] = Unit {0}
NoZero (x ∷ s) = (0 < x) × NoZero s

module _ (s : List ℕ) (c : Cursor) where
  pub left-length : Inside c (length s) → length (left c s) ≡ c.end - c.at
  unfolding left
  left-length i = length-slice c.at c.end s i.within

  pub left-most : length (left c s) ≤ c.end - c.at
  unfolding left
  left-most = simp (length-drop, length-take) (omega arith)

  pub left-nil : c.end ≤ c.at → left c s ≡ []
  unfolding left
  left-nil h = drop_of_length-le (take c.end s) {i = c.at} (simp length-take (omega arith))

  -- the byte at a place before the end, and what is left from the next place
  next : (j k : ℕ) → Inside c (length s) → j < c.end → k ≡ suc j → slice j c.end s ≡ get_or s j 0 ∷ slice k c.end s
  next j k i h e = rw e (slice-cons j c.end s 0 h i.within)

  pub left-cons : Inside c (length s) → c.at < c.end → left c s ≡ get_or s c.at 0 ∷ left (record { at = c.at + 1; end = c.end }) s
  unfolding left
  left-cons i h = next c.at (c.at + 1) i h (omega arith)

  pub left-four : (n : Cursor) → Inside c (length s) → c.at + 4 ≤ c.end → n.at ≡ c.at + 4 → n.end ≡ c.end
      → left c s ≡ get_or s c.at 0 ∷ get_or s (c.at + 1) 0 ∷ get_or s (c.at + 2) 0 ∷ get_or s (c.at + 3) 0 ∷ left n s
  unfolding left
  left-four n i h a e =
      rw (
        a,
        e,
        next c.at (c.at + 1) i (omega arith) (omega arith),
        next (c.at + 1) (c.at + 2) i (omega arith) (omega arith),
        next (c.at + 2) (c.at + 3) i (omega arith) (omega arith),
        next (c.at + 3) (c.at + 4) i (omega arith) (omega arith),
      )

  pub left-drop : (k : ℕ) (n : Cursor) → n.at ≡ c.at + k → n.end ≡ c.end → left n s ≡ drop k (left c s)
  unfolding left
  left-drop k n a e = rw (a, e) (sym (drop-drop k c.at (take c.end s)))

  pub left-take : (k : ℕ) (b : Cursor) → Inside c (length s) → c.at + k ≤ c.end → b.at ≡ c.at → b.end ≡ c.at + k → left b s ≡ take k (left c s)
  unfolding left
  left-take k b i h a e =
      let room : c.at ≤ length (take c.end s) = rw (length-take-le c.end s i.within) i.before in
      rw (a, e, ← take-take (c.at + k) c.end s h, take-add c.at k (take c.end s))
      (drop_at (take c.at (take c.end s)) _ c.at (length-take-le c.at (take c.end s) room))

  -- what is left up to a place, and from there
  pub left_split : (p : ℕ) → Inside c (length s) → c.at ≤ p → p ≤ c.end
      → left c s ≡ left (span c.at p) s ++ left (span p c.end) s
  left_split p i h k =
      rw (left-take (p - c.at) (span c.at p) i (omega arith) refl (omega arith), left-drop (p - c.at) (span p c.end) (omega arith) refl)
      (sym (take-append-drop (p - c.at) (left c s)))

  pub left-bytes : AllBytes s → AllBytes (left c s)
  unfolding left
  left-bytes h = drop-bytes c.at (take c.end s) (take-bytes c.end s h)
