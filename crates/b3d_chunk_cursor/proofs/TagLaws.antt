-- What a tag's number says: a known tag has its own, and any other number has none; two tags are one where their numbers are.
use Rattle.std.specs.Prelude.{Some, None}
use Prim.Native.Nat.{ℕ}
use mathlib.Core.Path.{◌≡◌, refl, ap₂}
use mathlib.Core.Option.{Option, none, some}
use native.Mathlib.Omega.{arith}
use lib.Dec.{eqb}
use borrow.Author.Tests.{ne_eqb}
use Rattle.wire.specs.Test.{if}
use Rattle.b3d_spec.specs.declared.Tag.{Tag}
use Rattle.b3d_spec.specs.declared.Tag.TheVariants.{BB3D, TEXS, BRUS, NODE, MESH, VRTS, TRIS, BONE, KEYS, ANIM}
use Rattle.b3d_spec.specs.Tags.{code, is, tag_of}
use Rattle.b3d_spec.proofs.Files.TagCodeLaws.{tag-code}
use Rattle.b3d_chunk_cursor.specs.Chunks.{tagged}

pub tag-known : (n : ℕ) (t : Tag) → n ≡ code t → Some t ≡ tagged (tag_of n)
tag-known n t e = rw (e, tag-code t)

pub tag-other :
    (n : ℕ) → (n ≡ code BB3D → ⊥) → (n ≡ code TEXS → ⊥) → (n ≡ code BRUS → ⊥) → (n ≡ code NODE → ⊥) → (n ≡ code MESH → ⊥)
    → (n ≡ code VRTS → ⊥) → (n ≡ code TRIS → ⊥) → (n ≡ code BONE → ⊥) → (n ≡ code KEYS → ⊥) → (n ≡ code ANIM → ⊥) → None ≡ tagged (tag_of n)
unfolding tag_of if
tag-other n a b c d e f g h i j =
    simp (ne_eqb n (code BB3D) a, ne_eqb n (code TEXS) b, ne_eqb n (code BRUS) c, ne_eqb n (code NODE) d, ne_eqb n (code MESH) e, ne_eqb n (code VRTS) f, ne_eqb n (code TRIS) g, ne_eqb n (code BONE) h, ne_eqb n (code KEYS) i, ne_eqb n (code ANIM) j)

pub same_letters : (a b : Tag) (x y : ℕ) → x ≡ code a → y ≡ code b → eqb x y ≡ is a b
same_letters a b x y e f = ap₂ eqb e f

pub ruleset tagging = (tag-known, tag-other)

-- what an answer says

pub known-tag : (o : Option Tag) (t : Tag) → Some t ≡ tagged o → o ≡ some t
known-tag none t e = let z : ◌≡◌ {A = ℕ} 0 1 = cc in absurd (omega arith)
known-tag (some u) t e = cc

pub other_tag : (o : Option Tag) → None ≡ tagged o → o ≡ none
other_tag none e = refl
other_tag (some u) e = let z : ◌≡◌ {A = ℕ} 0 1 = cc in absurd (omega arith)
