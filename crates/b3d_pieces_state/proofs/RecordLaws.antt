-- The laws of tags and records as numbers.
use mathlib.Core.Path.{◌≡◌}
use Prim.Native.Nat.{ℕ}
use borrow.Author.Tests.{ne_eqb}
use Rattle.wire.specs.Test.{if}
use Rattle.b3d_spec.specs.declared.Tag.{Tag}
use Rattle.b3d_spec.specs.declared.Tag.TheVariants.{ANIM}
use Rattle.b3d_pieces_spec.specs.declared.Open.{Open}
use Rattle.b3d_spec.specs.Tags.{tag_number}
use Rattle.b3d_pieces_spec.specs.Row.{tag_by}
use Rattle.b3d_pieces_spec.proofs.RowLaws.{tag_back, of_words}
use Rattle.b3d_pieces_state.specs.Records.{open_in, record_of}

pub tag-known : (n : ℕ) (t : Tag) → n ≡ tag_number t → t ≡ tag_by n
tag-known n t e = rw (e, tag_back t)

pub tag-last : (n : ℕ) → (n ≡ 0 → ⊥) → (n ≡ 1 → ⊥) → (n ≡ 2 → ⊥) → (n ≡ 3 → ⊥) → (n ≡ 4 → ⊥) → (n ≡ 5 → ⊥) → (n ≡ 6 → ⊥) → (n ≡ 7 → ⊥) → (n ≡ 8 → ⊥) → ANIM ≡ tag_by n
unfolding tag_by if
tag-last n a b c d e f g h i = simp (ne_eqb n 0 a, ne_eqb n 1 b, ne_eqb n 2 c, ne_eqb n 3 d, ne_eqb n 4 e, ne_eqb n 5 f, ne_eqb n 6 g, ne_eqb n 7 h, ne_eqb n 8 i)

pub ruleset tag_laws = (tag-known, tag-last)

-- ---- a record says the chunk whose it is

pub record_back : (f : Open) → open_in (record_of f) ≡ f
unfolding open_in record_of
record_back f = of_words f
