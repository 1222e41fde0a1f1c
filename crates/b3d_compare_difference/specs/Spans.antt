-- Spans that lie in a file, and the numbers of a difference.
use Rattle.std.specs.Prelude.{◌≡◌, ℕ, ◌+◌, ◌≤◌, not, List, [], ◌∷◌, length, take, drop, T}
use Rattle.std.specs.Float.{binary32}
use Rattle.std.specs.Float.Ieee.{to_bits, is_nan}
use Rattle.b3d_compare_spec.specs.declared.Span.{Span}
use Rattle.b3d_compare_spec.specs.declared.Difference.{Difference}
use Rattle.b3d_compare_spec.specs.declared.Difference.TheVariants.{Wholes, Floats, Texts}
use Rattle.b3d_compare_spec.specs.Differences.{span_text}

-- the span x lies in the file s
pub record SpanWithin (s : List ℕ) (x : Span) : Type 0 where
  -- it ends where the file does, or before
  pub within : x.place + x.length ≤ length s

-- the span of the bytes that stand in s from a place on, at most `size` of them
pub record SpanIs (s : List ℕ) (place size : ℕ) (x : Span) : Type 0 where
  -- it lies in the file
  pub lies : SpanWithin s x
  -- and its text is these bytes
  pub is : span_text s x ≡ take size (drop place s)

-- table, row, word, and the two cells, or the lengths of the two texts
unfoldable pub entry_numbers : ℕ → ℕ → ℕ → Difference → List ℕ
entry_numbers k r w (Wholes x y) = k ∷ r ∷ w ∷ x ∷ y ∷ []
entry_numbers k r w (Floats x y) = k ∷ r ∷ w ∷ to_bits binary32 x ∷ to_bits binary32 y ∷ []
entry_numbers k r w (Texts x y) = k ∷ r ∷ w ∷ x.length ∷ y.length ∷ []

-- floats are no NaNs
abbrev pub Clean : Difference → Type 0
Clean (Wholes x y) = Unit {0}
Clean (Floats x y) = T (not (is_nan x)) × T (not (is_nan y))
Clean (Texts x y) = Unit {0}
