-- What is looked for in a file: faults of nesting and, in strict mode, colours that do not pass. What finding it says of the place where the search begins.
use mathlib.Core.Logic.{◌⊎◌, inl, inr}
use mathlib.Core.Path.{◌≡◌, sym, subst, ◌∙◌}
use Prim.Native.Nat.{ℕ, ◌+◌, ◌*◌, ◌<◌, ◌≤◌}
use native.Mathlib.Omega.{arith}
use mathlib.Core.Bool.{true, false}
use mathlib.Core.Option.{Option, none, some}
use mathlib.Core.List.{List}
use lib.ListN.{replicate, length-replicate}
use Rattle.wire.specs.Bytes.{word_at}
use Rattle.layout.specs.Rules.{any, unit, holds}
use Rattle.b3d_spec.specs.declared.Mode.{Mode}
use Rattle.b3d_spec.specs.declared.Mode.TheVariants.{Strict, Lenient}
use Rattle.b3d_spec.specs.declared.Tag.{Tag}
use Rattle.b3d_spec.specs.declared.Tag.TheVariants.{BB3D, TEXS, BRUS, NODE, MESH, VRTS, TRIS, BONE, KEYS, ANIM}
use Rattle.b3d_spec.specs.Nesting.{Reached, start, end}
use Rattle.b3d_spec.specs.Rules.{node_row, vertex_words}
use Rattle.b3d_rule_nesting_order.specs.ByTable.{missing_before}
use Rattle.b3d_rule_refusal_places.specs.ByHeaders.{tag_at, end_of, part, Begin, may_stand, with_chunk, Meets, here, passed, behind, within}
use Rattle.b3d_rule_refusal_places.specs.GivenByTable.{SaysNo, denied, owing}
use Rattle.b3d_rule_refusal_places.specs.GivenAtColours.{BrushTo, VertexTo, ColourIn, this, later, BrushColour, VertexColour}
use Rattle.b3d_rule_refusal_places.proofs.FixedDataLaws.{named-onward, named-wide}

none-some : {A : Type 0} {t : Tag} → ◌≡◌ {A = Option Tag} none (some t) → A
none-some e = let z : ◌≡◌ {A = ℕ} 0 1 = cc in absurd (omega arith)

some_same : {t u : Tag} → some t ≡ some u → t ≡ u
some_same e = cc

-- the chunks inside a chunk begin behind its header
pub begin-later : (s : List ℕ) (t : Tag) (p q b : ℕ) → Begin s t p q b → p ≤ b
begin-later s BB3D p q b g = absurd g
begin-later s TEXS p q b g = absurd g
begin-later s BRUS p q b g = absurd g
begin-later s NODE p q b g = let h = named-onward node_row p _ g.0 g.1 in omega (arith, h.later, g.2)
begin-later s MESH p q b g = omega (arith, g.0)
begin-later s VRTS p q b g = absurd g
begin-later s TRIS p q b g = absurd g
begin-later s BONE p q b g = absurd g
begin-later s KEYS p q b g = absurd g
begin-later s ANIM p q b g = absurd g

-- ---- colours

-- an item is no shorter than its numbers
abbrev pub Wide : (ℕ → ℕ → Type 0) → ℕ → Type 0
Wide To numbers = (q e : ℕ) → To q e → q + 4 * numbers ≤ e

pub brush-wide : (s : List ℕ) (slots last : ℕ) → Wide (BrushTo s slots last) (7 + slots)
brush-wide s slots last q e h = omega (arith, named-wide (replicate (7 + slots) any) q (part s q last) h.0 h.1, length-replicate (7 + slots) any, h.2)

pub vertex-wide : (numbers last : ℕ) → Wide (VertexTo numbers last) numbers
vertex-wide numbers last q e h = omega (arith, h.0)

pub colour-later : (To : ℕ → ℕ → Type 0) (numbers before colours p : ℕ) → Wide To numbers → (q : ℕ) → ColourIn To numbers before colours p q → q ≤ p
colour-later To numbers before colours p w q (this _ e h c l i) = let x = w q e h in omega arith
colour-later To numbers before colours p w q (later _ e h f) = let x = w q e h in let y = colour-later To numbers before colours p w e f in omega arith

pub colour-inside : (To : ℕ → ℕ → Type 0) (numbers before colours p last : ℕ) → ((q e : ℕ) → To q e → (q < e) × (e ≤ last)) → (q : ℕ) → ColourIn To numbers before colours p q → q < last
colour-inside To numbers before colours p last w q (this _ e h c l i) = omega (arith, w q e h)
colour-inside To numbers before colours p last w q (later _ e h f) = omega (arith, w q e h)

-- the colours of the chunk of tag t at h
abbrev pub ColourOf : List ℕ → Tag → ℕ → ℕ → Type 0
ColourOf s BB3D h p = ⊥
ColourOf s TEXS h p = ⊥
ColourOf s BRUS h p = BrushColour s h p
ColourOf s NODE h p = ⊥
ColourOf s MESH h p = ⊥
ColourOf s VRTS h p = VertexColour s h p
ColourOf s TRIS h p = ⊥
ColourOf s BONE h p = ⊥
ColourOf s KEYS h p = ⊥
ColourOf s ANIM h p = ⊥

colour-of-later : (s : List ℕ) (t : Tag) (h p : ℕ) → ColourOf s t h p → h ≤ p
colour-of-later s BB3D h p c = absurd c
colour-of-later s TEXS h p c = absurd c
colour-of-later s BRUS h p c = let x = colour-later (BrushTo s (word_at s (h + 8)) (end_of s h)) (7 + word_at s (h + 8)) _ _ p (brush-wide s (word_at s (h + 8)) (end_of s h)) (h + 12) c in omega arith
colour-of-later s NODE h p c = absurd c
colour-of-later s MESH h p c = absurd c
colour-of-later s VRTS h p c =
    let n = vertex_words (word_at s (h + 8)) (word_at s (h + 12)) (word_at s (h + 16)) in
    let x = colour-later (VertexTo n (end_of s h)) n _ _ p (vertex-wide n (end_of s h)) (h + 20) c in
    omega arith
colour-of-later s TRIS h p c = absurd c
colour-of-later s BONE h p c = absurd c
colour-of-later s KEYS h p c = absurd c
colour-of-later s ANIM h p c = absurd c

-- ---- what is looked for: refusal n at p, met at m

-- in the chunk of tag t at h: a colour that a mode does not take
abbrev pub BadColour : Mode → List ℕ → Tag → ℕ → ℕ → ℕ → ℕ → Type 0
BadColour Strict s t h n p m = (n ≡ 6) × (m ≡ p) × (holds unit (word_at s p) ≡ false) × ColourOf s t h p
BadColour Lenient s t h n p m = ⊥

bad-later : (mode : Mode) (s : List ℕ) (t : Tag) (h n p m : ℕ) → BadColour mode s t h n p m → h ≤ m
bad-later Strict s t h n p m x = omega (arith, colour-of-later s t h p x.3, x.1)
bad-later Lenient s t h n p m x = absurd x

module _ (mode : Mode) (s : List ℕ) (n p m : ℕ) where
  -- in a chunk of tag t at h that may stand there
  abbrev pub Holds : Tag → ℕ → ℕ → ℕ → Reached → Type 0
  Holds k head h last r = (t : Tag) × (end_of s h ≤ last) × (tag_at s h ≡ some t) × (may_stand k r t ≡ true) × BadColour mode s t h n p m

  abbrev pub Event : Tag → ℕ → ℕ → ℕ → Reached → Type 0
  Event k head h last r = SaysNo s n p m k head h last r ⊎ Holds k head h last r

  abbrev pub Found : Tag → ℕ → ℕ → ℕ → Reached → Type 0
  Found k head h last r = Meets s Event k head h last r

  no-later : (k : Tag) (head h last : ℕ) (r : Reached) → SaysNo s n p m k head h last r → h ≤ m
  no-later k head h last r (denied _ _ _ _ _ t l e d _ _ i) = omega arith
  no-later k head h last r (owing _ _ _ _ _ l o _ _ i) = omega arith

  -- it is met there or later
  pub met-later : (k : Tag) (head h last : ℕ) (r : Reached) → Found k head h last r → h ≤ m
  met-later k head h last r (here _ _ _ _ _ x) = elim x [ inl y ↦ no-later k head h last r y | inr y ↦ bad-later mode s y.0 h n p m y.4 ]
  met-later k head h last r (passed _ _ _ _ _ l e f) = let x = met-later k head (end_of s h) last r f in omega arith
  met-later k head h last r (behind _ _ _ _ _ t l e y f) = let x = met-later k head (end_of s h) last (with_chunk k r t) f in omega arith
  met-later k head h last r (within _ _ _ _ _ t l e y b g f) =
      let x = met-later t h b (end_of s h) start f in
      let z = begin-later s t (h + 8) (end_of s h) b g in
      omega arith

  no-inside : (k : Tag) (head h last : ℕ) (r : Reached) → SaysNo s n p m k head h last r → h ≤ last
  no-inside k head h last r (denied _ _ _ _ _ t l e d _ _ i) = omega arith
  no-inside k head h last r (owing _ _ _ _ _ l o _ _ i) = omega arith

  -- and it is looked for no further than the end
  pub found_inside : (k : Tag) (head h last : ℕ) (r : Reached) → Found k head h last r → h ≤ last
  found_inside k head h last r (here _ _ _ _ _ x) = elim x [ inl y ↦ no-inside k head h last r y | inr y ↦ omega (arith, y.1) ]
  found_inside k head h last r (passed _ _ _ _ _ l e f) = omega arith
  found_inside k head h last r (behind _ _ _ _ _ t l e y f) = omega arith
  found_inside k head h last r (within _ _ _ _ _ t l e y b g f) = omega arith

  -- inside the chunk of tag t at h
  abbrev pub Inner : Tag → ℕ → Type 0
  Inner t h = ((b : ℕ) × Begin s t (h + 8) (end_of s h) b × Found t h b (end_of s h) start) ⊎ BadColour mode s t h n p m

  module _ (k : Tag) (head h last : ℕ) (r : Reached) where
    -- no header is left: only one that is owed
    abbrev Owed : Type 0
    Owed = (h ≡ last) × (missing_before k r end ≡ true) × (n ≡ 8) × (p ≡ head)

    no_short : last < h + 8 → SaysNo s n p m k head h last r → Owed
    no_short c (denied _ _ _ _ _ t l e d _ _ i) = absurd (omega arith)
    no_short c (owing _ _ _ _ _ l o i j _) = (l, o, i, j)

    pub found-short : last < h + 8 → Found k head h last r → Owed
    found-short c (here _ _ _ _ _ x) = elim x [ inl y ↦ no_short c y | inr y ↦ absurd (omega (arith, y.1)) ]
    found-short c (passed _ _ _ _ _ l e f) = absurd (omega arith)
    found-short c (behind _ _ _ _ _ t l e y f) = absurd (omega arith)
    found-short c (within _ _ _ _ _ t l e y b g f) = absurd (omega arith)

    no-past : h < last → last < end_of s h → SaysNo s n p m k head h last r → ⊥
    no-past a c (denied _ _ _ _ _ t l e d _ _ i) = omega arith
    no-past a c (owing _ _ _ _ _ l o i j _) = omega arith

    -- a header whose length passes the end
    pub found-past : h < last → last < end_of s h → Found k head h last r → ⊥
    found-past a c (here _ _ _ _ _ x) = elim x [ inl y ↦ no-past a c y | inr y ↦ omega (arith, y.1) ]
    found-past a c (passed _ _ _ _ _ l e f) = omega arith
    found-past a c (behind _ _ _ _ _ t l e y f) = omega arith
    found-past a c (within _ _ _ _ _ t l e y b g f) = omega arith

    module _ (fits : end_of s h ≤ last) where
      no-passed : tag_at s h ≡ none → SaysNo s n p m k head h last r → ⊥
      no-passed u (denied _ _ _ _ _ t l e d _ _ i) = none-some (sym u ∙ e)
      no-passed u (owing _ _ _ _ _ l o i j _) = omega arith

      -- behind an unknown chunk
      pub found_passed : tag_at s h ≡ none → Found k head h last r → Found k head (end_of s h) last r
      found_passed u (here _ _ _ _ _ x) = elim x [ inl y ↦ absurd (no-passed u y) | inr y ↦ none-some (sym u ∙ y.2) ]
      found_passed u (passed _ _ _ _ _ l e f) = f
      found_passed u (behind _ _ _ _ _ t l e y f) = none-some (sym u ∙ e)
      found_passed u (within _ _ _ _ _ t l e y b g f) = none-some (sym u ∙ e)

      -- at a known one
      abbrev Known : Tag → Type 0
      Known t = ((may_stand k r t ≡ false) × (n ≡ 4) × (p ≡ h)) ⊎ ((may_stand k r t ≡ true) × (Inner t h ⊎ Found k head (end_of s h) last (with_chunk k r t)))

      no-known : (t : Tag) → tag_at s h ≡ some t → SaysNo s n p m k head h last r → Known t
      no-known u a (denied _ _ _ _ _ t l e d i j _) = subst Known (some_same (sym e ∙ a)) (inl (d, i, j))
      no-known u a (owing _ _ _ _ _ l o i j _) = absurd (omega arith)

      pub found-known : (t : Tag) → tag_at s h ≡ some t → Found k head h last r → Known t
      found-known u a (here _ _ _ _ _ x) = elim x [ inl y ↦ no-known u a y | inr y ↦ subst Known (some_same (sym y.2 ∙ a)) (inr (y.3, inl (inr y.4))) ]
      found-known u a (passed _ _ _ _ _ l e f) = none-some (sym e ∙ a)
      found-known u a (behind _ _ _ _ _ t l e y f) = subst Known (some_same (sym e ∙ a)) (inr (y, inr f))
      found-known u a (within _ _ _ _ _ t l e y b g f) = subst Known (some_same (sym e ∙ a)) (inr (y, inl (inl (b, g, f))))

      -- and back
      pub into_known : (t : Tag) → tag_at s h ≡ some t → may_stand k r t ≡ true → Inner t h → Found k head h last r
      into_known t e y x = elim x [ inl z ↦ within k head h last r t fits e y z.0 z.1 z.2 | inr z ↦ here k head h last r (inr (t, fits, e, y, z)) ]
