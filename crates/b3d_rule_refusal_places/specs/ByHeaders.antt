-- A file by the headers of its chunks, from its BB3D downward.
use Rattle.std.specs.Prelude.{◌⊎◌, ◌≡◌, ℕ, ◌+◌, ◌-◌, ◌<◌, ◌≤◌, Bool, true, List, length, take, drop}
use Rattle.std.proofs.Math.Option.{Option, none, some}
use Rattle.wire.specs.Bytes.{word_at}
use Rattle.layout.specs.Result.{accept}
use Rattle.layout.specs.Parts.{Name, Step, named}
use Rattle.layout.specs.Refusals as refusals
use Rattle.b3d_spec.specs.declared.Tag.{Tag}
use Rattle.b3d_spec.specs.declared.Tag.TheVariants.{BB3D, TEXS, BRUS, NODE, MESH, VRTS, TRIS, BONE, KEYS, ANIM}
use Rattle.b3d_spec.specs.Nesting.{Reached, start}
use Rattle.b3d_spec.specs.Rules.{node_row}
use Rattle.b3d_spec.specs.Tags.{tag_of}
use Rattle.b3d_rule_nesting_lookup.specs.Entries.{entry_of}
use Rattle.b3d_rule_nesting_order.specs.ByTable.{permitted_by, after_by, missing_before}

-- ---- a chunk of the file s whose header stands at place h

-- the known tag of the chunk whose header is at h, if it has one
abbrev pub tag_at : List ℕ → ℕ → Option Tag
tag_at s h = tag_of (word_at s h)

-- the place where the chunk whose header is at h ends
abbrev pub end_of : List ℕ → ℕ → ℕ
end_of s h = h + 8 + word_at s (h + 4)

-- the bytes of s from place p to place q
abbrev pub part : List ℕ → ℕ → ℕ → List ℕ
part s p q = take (q - p) (drop p s)

-- b is the place where the chunks inside a chunk of tag k begin, whose body goes from place p to q: behind its fixed data, a NODE's name and ten floats, a
-- MESH's brush id. The bodies of all others but the file's BB3D are never read as chunks
abbrev pub Begin : List ℕ → Tag → ℕ → ℕ → ℕ → Type 0
Begin s BB3D p q b = ⊥
Begin s TEXS p q b = ⊥
Begin s BRUS p q b = ⊥
Begin s NODE p q b = (x : Step (Name × List ℕ)) × (named node_row p (part s p q) ≡ accept x) × (b ≡ x.place)
Begin s MESH p q b = (b ≡ p + 4) × (b ≤ q)
Begin s VRTS p q b = ⊥
Begin s TRIS p q b = ⊥
Begin s BONE p q b = ⊥
Begin s KEYS p q b = ⊥
Begin s ANIM p q b = ⊥

-- ---- the table

-- the table says that inside a chunk of tag k, after chunks that came to r, one of tag t may stand
abbrev pub may_stand : Tag → Reached → Tag → Bool
may_stand k r t = permitted_by (missing_before k r (entry_of k t).turn) r (entry_of k t)

-- how far chunks inside one of tag k that had come to r come with one of tag t
abbrev pub with_chunk : Tag → Reached → Tag → Reached
with_chunk k r t = after_by r (entry_of k t)

-- ---- the walk over the headers

-- what is looked for, said of a tag k, places `head`, h and `last`, and r: inside a chunk of tag k, whose header is at `head` and which ends at `last`, the
-- chunks up to place h have come to r
abbrev pub Looked : Type 1
Looked = Tag → ℕ → ℕ → ℕ → Reached → Type 0

-- E holds at place h or further on, among the chunks of known tags that may stand where they do and the chunks inside them
pub data Meets (s : List ℕ) (E : Looked) : Tag → ℕ → ℕ → ℕ → Reached → Type 0 where
  -- at place h
  here : (k : Tag) (head h last : ℕ) (r : Reached) → E k head h last r → Meets s E k head h last r
  -- behind a chunk of another tag at h, which is passed over and counts for no order
  passed : (k : Tag) (head h last : ℕ) (r : Reached) → end_of s h ≤ last → tag_at s h ≡ none → Meets s E k head (end_of s h) last r → Meets s E k head h last r
  -- behind a chunk at h that may stand there
  behind : (k : Tag) (head h last : ℕ) (r : Reached) (t : Tag) → end_of s h ≤ last → tag_at s h ≡ some t → may_stand k r t ≡ true
      → Meets s E k head (end_of s h) last (with_chunk k r t) → Meets s E k head h last r
  -- among the chunks inside a chunk at h that may stand there
  within : (k : Tag) (head h last : ℕ) (r : Reached) (t : Tag) → end_of s h ≤ last → tag_at s h ≡ some t → may_stand k r t ≡ true
      → (b : ℕ) → Begin s t (h + 8) (end_of s h) b → Meets s E t h b (end_of s h) start → Meets s E k head h last r

-- E holds somewhere in the file s: among the chunks of its BB3D, behind the version
abbrev pub InFile : List ℕ → Looked → Type 0
InFile s E = Meets s E BB3D 0 12 (length s) start

-- refusal n at p comes before what is met at place m: p is a lower place; or n is a 5 at p, of a chunk that ends at m without the fixed data that it needs
abbrev pub Sooner : ℕ → ℕ → ℕ → Type 0
Sooner m n p = (p < m) ⊎ ((p ≤ m) × (n ≡ refusals.cut_item))
