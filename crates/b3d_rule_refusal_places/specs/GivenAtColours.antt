-- Where in a file its colours stand, and the statement that the strict mode's 6 is given at the first that does not pass.
use Rattle.std.specs.Prelude.{◌⊎◌, ◌≡◌, ℕ, ◌+◌, ◌*◌, ◌<◌, ◌≤◌, true, false, List, replicate}
use Rattle.std.proofs.Math.Option.{some}
use Rattle.wire.specs.Bytes.{word_at}
use Rattle.layout.specs.Result.{accept, reject}
use Rattle.layout.specs.Parts.{Name, Step, named}
use Rattle.layout.specs.Rules.{any, unit, holds}
use Rattle.layout.specs.Refusals as refusals
use Rattle.b3d_spec.specs.declared.Mode.TheVariants.{Strict, Lenient}
use Rattle.b3d_spec.specs.declared.Tag.{Tag}
use Rattle.b3d_spec.specs.declared.Tag.TheVariants.{BRUS, VRTS}
use Rattle.b3d_spec.specs.Answers.{judge}
use Rattle.b3d_spec.specs.Nesting.{Reached}
use Rattle.b3d_spec.specs.Rules.{when, vertex_words}
use Rattle.b3d_rule_refusal_places.specs.ByHeaders.{tag_at, end_of, part, may_stand, InFile, Sooner}

-- ---- items

-- the brush that begins at place q of a chunk that ends at `last` ends at e: a name, seven numbers and `slots` ids
abbrev pub BrushTo : List ℕ → ℕ → ℕ → ℕ → ℕ → Type 0
BrushTo s slots last q e = (x : Step (Name × List ℕ)) × (named (replicate (7 + slots) any) q (part s q last) ≡ accept x) × (e ≡ x.place)

-- the vertex that begins at place q of a chunk that ends at `last` ends at e: `numbers` numbers
abbrev pub VertexTo : ℕ → ℕ → ℕ → ℕ → Type 0
VertexTo numbers last q e = (e ≡ q + 4 * numbers) × (e ≤ last)

-- p is the place of a colour in an item from place q on; `To` says where an item ends, which ends with `numbers` numbers, of which `colours` are colours, the
-- first of them behind `before` others
pub data ColourIn (To : ℕ → ℕ → Type 0) (numbers before colours p : ℕ) : ℕ → Type 0 where
  -- it is colour c of the item at q
  this : (q e : ℕ) → To q e → (c : ℕ) → c < colours → p + 4 * numbers ≡ e + 4 * (before + c) → ColourIn To numbers before colours p q
  -- it is in an item behind the one at q
  later : (q e : ℕ) → To q e → ColourIn To numbers before colours p e → ColourIn To numbers before colours p q

-- ---- colours in a file

-- p is the place of a red, green, blue or alpha of a brush in the BRUS whose header is at h; three numbers and the ids follow them
abbrev pub BrushColour : List ℕ → ℕ → ℕ → Type 0
BrushColour s h p = ColourIn (BrushTo s (word_at s (h + 8)) (end_of s h)) (7 + word_at s (h + 8)) 0 4 p (h + 12)

-- p is the place of a colour of a vertex from place q on, in a VRTS with these flags, sets and set size that ends at `last`: behind the position and, if flag
-- 1, the normal; only if flag 2
abbrev pub VertexColours : ℕ → ℕ → ℕ → ℕ → ℕ → ℕ → Type 0
VertexColours flags sets size last p q =
    ColourIn (VertexTo (vertex_words flags sets size) last) (vertex_words flags sets size) (3 + when 1 flags 3) (when 2 flags 4) p q

-- p is the place of a colour of a vertex in the VRTS whose header is at h
abbrev pub VertexColour : List ℕ → ℕ → ℕ → Type 0
VertexColour s h p = VertexColours (word_at s (h + 8)) (word_at s (h + 12)) (word_at s (h + 16)) (end_of s h) p (h + 20)

-- at place h stands a BRUS or a VRTS, which may stand there, and p is the place of one of its colours
pub data HasColour (s : List ℕ) (p : ℕ) : Tag → ℕ → ℕ → ℕ → Reached → Type 0 where
  -- a BRUS, and a colour of a brush
  brush : (k : Tag) (head h last : ℕ) (r : Reached) → end_of s h ≤ last → tag_at s h ≡ some BRUS → may_stand k r BRUS ≡ true → BrushColour s h p
      → HasColour s p k head h last r
  -- a VRTS, and a colour of a vertex
  vertex : (k : Tag) (head h last : ℕ) (r : Reached) → end_of s h ≤ last → tag_at s h ≡ some VRTS → may_stand k r VRTS ≡ true → VertexColour s h p
      → HasColour s p k head h last r

-- p is the place of a colour somewhere in the file s
abbrev pub Colour : List ℕ → ℕ → Type 0
Colour s p = InFile s (HasColour s p)

-- E8: what the strict mode says of the colours of the file s
pub record GivenAtColours (s : List ℕ) : Type 0 where
  -- a 6 that the lenient mode does not give is at a colour that does not pass
  pub colour : (p : ℕ) → judge Strict s ≡ reject refusals.range p → (judge Lenient s ≡ reject refusals.range p → ⊥) → Colour s p
      × (holds unit (word_at s p) ≡ false)
  -- each colour at a lower place than a 6 passes
  pub first : (p q : ℕ) → judge Strict s ≡ reject refusals.range p → Colour s q → q < p → holds unit (word_at s q) ≡ true
  -- a colour that does not pass is refused with 6 at its place, unless another refusal comes sooner
  pub given : (p : ℕ) → Colour s p → holds unit (word_at s p) ≡ false → (judge Strict s ≡ reject refusals.range p)
      ⊎ ((i : ℕ) × (q : ℕ) × (judge Strict s ≡ reject i q) × Sooner p i q)
  -- 10 is never given for a file with a colour that does not pass
  pub before_ten : (p q : ℕ) → Colour s p → holds unit (word_at s p) ≡ false → judge Strict s ≡ reject refusals.too_many_rows q → ⊥
