-- Where in a file a chunk header is due, and the two kinds of 3: too few bytes for it, or a length past what encloses it.
use Rattle.std.specs.Prelude.{ℕ, ◌+◌, ◌<◌, ◌≤◌, ◌≡◌, List, length}
use Rattle.std.proofs.Math.Option.{some}
use Rattle.b3d_spec.specs.declared.Tag.{Tag}
use Rattle.b3d_rule_refusal_places.specs.ByHeaders.{tag_at, end_of, Begin}

-- a chunk may begin at place h, inside a BB3D, a NODE or a MESH that ends at `last`
pub data Due (s : List ℕ) : ℕ → ℕ → Type 0 where
  -- behind the version: BB3D ends where the file does
  first : (h last : ℕ) → h ≡ 12 → last ≡ length s → Due s h last
  -- behind the chunk at c
  behind : (h last : ℕ) (c : ℕ) → Due s c last → end_of s c ≤ last → h ≡ end_of s c → Due s h last
  -- inside the NODE or MESH at c, behind its fixed data
  inside : (h last : ℕ) (c most : ℕ) (t : Tag) → Due s c most → end_of s c ≤ most → tag_at s c ≡ some t → Begin s t (c + 8) (end_of s c) h
      → last ≡ end_of s c → Due s h last

-- 1 to 7 bytes are left at place p, where a header is due
abbrev pub Spare : List ℕ → ℕ → Type 0
Spare s p = (last : ℕ) × Due s p last × (p < last) × (last < p + 8)

-- at place p stands a header whose length passes the end of what encloses it
abbrev pub Past : List ℕ → ℕ → Type 0
Past s p = (last : ℕ) × Due s p last × (p + 8 ≤ last) × (last < end_of s p)
