-- A difference by value, with the paper's values for each case.
use Rattle.std.specs.Prelude.{ℕ, Bool, true, false, not, ◌&&◌, List, take, drop}
use Rattle.std.specs.Float.{binary32}
use Rattle.std.specs.Float.Ieee.{of_bits, to_bits, nan_bits}
use Rattle.wire.specs.Test.{if}
use Rattle.b3d_compare_spec.specs.declared.WordKind.{WordKind}
use Rattle.b3d_compare_spec.specs.declared.WordKind.TheVariants.{Whole, Float, Name, Length}
use Rattle.b3d_compare_spec.specs.declared.Span.{Span}
use Rattle.b3d_compare_spec.specs.declared.Difference.{Difference}
use Rattle.b3d_compare_spec.specs.declared.Difference.TheVariants.{Wholes, Floats, Texts}
use Rattle.b3d_compare_spec.specs.Changes.{Cell, number, text}

-- the text that a span is of a file
unfoldable pub span_text : List ℕ → Span → List ℕ
span_text s x = take x.length (drop x.place s)

-- the first file's cell, floats by their bits
unfoldable pub first_of : List ℕ → Difference → Cell
first_of a (Wholes x y) = number x
first_of a (Floats x y) = number (to_bits binary32 x)
first_of a (Texts x y) = text (span_text a x)

-- the second file's
unfoldable pub second_of : List ℕ → Difference → Cell
second_of b (Wholes x y) = number y
second_of b (Floats x y) = number (to_bits binary32 y)
second_of b (Texts x y) = text (span_text b y)

unfoldable pub is_float : WordKind → Bool
is_float Whole = false
is_float Float = true
is_float Name = false
is_float Length = false

-- of two words that are numbers: floats as values, but where one is a NaN both by their bits
unfoldable pub numbers_of : Bool → ℕ → ℕ → Difference
numbers_of float x y = if (float && (not (nan_bits binary32 x) && not (nan_bits binary32 y))) (Floats (of_bits binary32 x) (of_bits binary32 y)) (Wholes x y)
