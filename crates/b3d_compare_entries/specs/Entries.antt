-- The entry of a difference between files a and b.
use Rattle.std.specs.Prelude.{ℕ, List, [], ◌++◌}
use Rattle.b3d_compare_spec.specs.declared.Difference.{Difference}
use Rattle.b3d_compare_spec.specs.declared.Difference.TheVariants.{Wholes, Floats, Texts}
use Rattle.b3d_compare_spec.specs.Changes.{Change}
use Rattle.b3d_compare_spec.specs.Differences.{span_text, first_of, second_of}
use Rattle.b3d_compare_difference.specs.Spans.{SpanWithin}

-- spans lie in their files
abbrev pub Lies : List ℕ → List ℕ → Difference → Type 0
Lies a b (Wholes x y) = Unit {0}
Lies a b (Floats x y) = Unit {0}
Lies a b (Texts x y) = SpanWithin a x × SpanWithin b y

-- what a difference of word w of row r of table k is in the list
unfoldable pub change_of : List ℕ → List ℕ → ℕ → ℕ → ℕ → Difference → Change
change_of a b k r w d = record { table = k; row = r; word = w; first = first_of a d; second = second_of b d }

-- the texts behind the numbers
unfoldable pub texts_of : List ℕ → List ℕ → Difference → List ℕ
texts_of a b (Wholes x y) = []
texts_of a b (Floats x y) = []
texts_of a b (Texts x y) = span_text a x ++ span_text b y
