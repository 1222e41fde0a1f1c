-- VRTS: what each step of `judge_vertices` says of the vertices that the body holds.
use Rattle.layout.specs.Refused.{refusal_at}
use Rattle.std.specs.Prelude.{Ok, Err}
use Rattle.std.specs.Prelude as std
use Rattle.layout.specs.declared.Refusal.{Refusal}
use Prim.Native.Nat.{ℕ, zero, suc, ◌≤◌, ◌<◌, ◌+◌, ◌-◌, ◌*◌, ◌/◌, ◌%◌}
use native.Mathlib.Omega.{arith}
use mathlib.Core.Path.{refl, sym, ap, ap₂, ◌≡◌, ◌∙◌}
use mathlib.Core.List.{List, [], ◌∷◌, ◌++◌}
use lib.ListN.{length, replicate}
use borrow.Author.Tests.{le-leb, lt-leb}
use Rattle.wire.specs.Bytes.{word_at}
use Rattle.wire.specs.Cursors.{Inside, left}
use Rattle.wire.specs.declared.Cursor.{Cursor}
use Rattle.wire.proofs.LeftLaws.{span, left-length, left-drop}
use Rattle.layout.specs.Result.{Result, accept, reject, check}
use Rattle.layout.specs.Parts.{words_of, judged, row, items}
use Rattle.layout.specs.Rules.{Rule, any, unit}
use Rattle.layout.proofs.StepLaws.{row-enough, row-short, three-left}
use Rattle.b3d_spec.specs.declared.Mode.{Mode}
use Rattle.b3d_spec.specs.declared.Mode.TheVariants.{Strict, Lenient}
use Rattle.b3d_spec.specs.Parse.{Vertices, read_vertices}
use Rattle.b3d_spec.specs.Rules.{vertices_head, vertex_row, vertex_words}
use Rattle.b3d_judge_items.specs.Items.{part_row, colour_items, counted, divided_at, CountedIn}
use Rattle.b3d_judge_items.proofs.DividedLaws.{divided_is, counted-room, counted-before, counted_got, counted-bad}
use Rattle.b3d_spec_chunk_places.specs.Places.{Body}
use Rattle.b3d_judge_bodies.specs.Answers.{Shapes}
use Rattle.b3d_judge_bodies.specs.Colours.{before_colour, colours_of}
use Rattle.b3d_spec_chunk_places.proofs.HeadLaws.{body-inside}

-- ---- a vertex's rules: words that are not looked at, the colours that the mode looks at, and others

any-add : (a b : ℕ) → replicate (a + b) any ≡ replicate a any ++ replicate b any
any-add zero b = let e : zero + b ≡ b = omega arith in ap (λ (n : ℕ). replicate n any) e
any-add (suc a) b = let e : suc a + b ≡ suc (a + b) = omega arith in ap (λ (n : ℕ). replicate n any) e ∙ ap (λ (l : List Rule). any ∷ l) (any-add a b)

colours_are : (mode : Mode) (f s z : ℕ) → vertex_row mode f s z ≡ part_row unit (before_colour f) (colours_of mode f) (vertex_words f s z - (before_colour f + colours_of mode f))
unfolding vertex_words colours_of
colours_are Strict f s z =
    let e : s * z ≡ 3 + f / 1 % 2 * 3 + f / 2 % 2 * 4 + s * z - (3 + f / 1 % 2 * 3 + f / 2 % 2 * 4) = omega arith in
    ap (λ (n : ℕ). part_row unit (before_colour f) (colours_of Strict f) n) e
colours_are Lenient f s z =
    let e : 3 + f / 1 % 2 * 3 + f / 2 % 2 * 4 + s * z ≡ 3 + f / 1 % 2 * 3 + (3 + f / 1 % 2 * 3 + f / 2 % 2 * 4 + s * z - (3 + f / 1 % 2 * 3 + 0)) = omega arith in
    ap (λ (n : ℕ). replicate n any) e ∙ any-add (3 + f / 1 % 2 * 3) (3 + f / 1 % 2 * 3 + f / 2 % 2 * 4 + s * z - (3 + f / 1 % 2 * 3 + 0))

pub words-room : (mode : Mode) (f s z words : ℕ) → words ≡ vertex_words f s z → before_colour f + colours_of mode f ≤ words
unfolding vertex_words colours_of
words-room Strict f s z words e = omega arith
words-room Lenient f s z words e = omega arith

-- the answers of `colours_of`
pub colours_strict : (mode : Mode) (f r : ℕ) → mode ≡ Strict → r ≡ f / 2 % 2 * 4 → r ≡ colours_of mode f
unfolding colours_of
colours_strict mode f r m e = e ∙ ap (λ (x : Mode). colours_of x f) (sym m)

pub colours_lenient : (mode : Mode) (f r : ℕ) → mode ≡ Lenient → r ≡ 0 → r ≡ colours_of mode f
unfolding colours_of
colours_lenient mode f r m e = e ∙ ap (λ (x : Mode). colours_of x f) (sym m)

-- no colour: the items of so many words, by one division
pub plain-items : (s : List ℕ) (c : Cursor) (words before n : ℕ) → Inside c (length s) → 0 < words → before + n ≤ words → n ≡ 0 → (x : std.Result ℕ Refusal) → x ≡ divided_at c words
    → x ≡ counted (colour_items before n (words - (before + n)) c.at (left c s))
plain-items s c words before n i pos le z x e =
    let a : words ≡ before + (words - (before + 0)) = omega arith in
    e ∙ divided_is c words s i pos
    ∙ ap (λ (rs : List Rule). counted (items (row rs) c.at (left c s))) (ap (λ (k : ℕ). replicate k any) a ∙ any-add before (words - (before + 0)))
    ∙ ap (λ (k : ℕ). counted (colour_items before k (words - (before + k)) c.at (left c s))) (sym z)

-- the colours of the items
pub coloured-items : (mode : Mode) (f : ℕ) (s : List ℕ) (c : Cursor) (words before n : ℕ) → before ≡ before_colour f → n ≡ colours_of mode f → (x : std.Result ℕ Refusal)
    → x ≡ counted (colour_items before n (words - (before + n)) c.at (left c s))
    → x ≡ counted (colour_items (before_colour f) (colours_of mode f) (words - (before_colour f + colours_of mode f)) c.at (left c s))
coloured-items mode f s c words before n a b x e = e ∙ ap₂ (λ (i j : ℕ). counted (colour_items i j (words - (i + j)) c.at (left c s))) a b

pub plain-vertices : (mode : Mode) (f : ℕ) (s : List ℕ) (c : Cursor) (words n : ℕ) → Inside c (length s) → 0 < words → before_colour f + colours_of mode f ≤ words → n ≡ colours_of mode f → n ≡ 0
    → (x : std.Result ℕ Refusal) → x ≡ divided_at c words → x ≡ counted (colour_items (before_colour f) (colours_of mode f) (words - (before_colour f + colours_of mode f)) c.at (left c s))
plain-vertices mode f s c words n i pos le a z x e = plain-items s c words (before_colour f) (colours_of mode f) i pos le (sym a ∙ z) x e

-- the cursor after the fixed data of a body
abbrev after : Cursor → Cursor
after b = span (b.at + 12) b.end

-- the vertices from a cursor on
abbrev vertices_at : Mode → List ℕ → Cursor → ℕ → ℕ → ℕ → Result (List (List ℕ))
vertices_at mode s c flags sets size = items (row (vertex_row mode flags sets size)) c.at (left c s)

refuses : (o : Result Vertices) (b : Cursor) (n : Refusal) → o ≡ reject n.number n.place → n.place ≤ b.end → Shapes o b (Err n)
refuses o b n e h = record { is = rw e; within = h }

module _ (mode : Mode) (s : List ℕ) (at : ℕ) (b : Cursor) (body : Body at b (length s)) where
  inside : Inside b (length s)
  inside = body-inside s at b body

  pub shape-cut : b.end - b.at < 12 → Shapes (read_vertices mode at (left b s)) b (Err (refusal_at 5 b.at))
  unfolding read_vertices
  shape-cut h =
      refuses _ b (refusal_at 5 b.at) (rw (← body.head, row-short vertices_head b.at (left b s) (omega (arith, left-length s b inside)))) body.room

  module _
      (room : 12 ≤ b.end - b.at) (flags sets size : ℕ)
      (f : flags ≡ word_at s b.at) (g : sets ≡ word_at s (b.at + 4)) (h : size ≡ word_at s (b.at + 8)) where
    three : words_of 3 (left b s) ≡ flags ∷ sets ∷ size ∷ []
    three = three-left s b inside room ∙ rw (f, g, h)

    head : row vertices_head (at + 8) (left b s)
        ≡ judged vertices_head b.at (flags ∷ sets ∷ size ∷ []) (record { value = flags ∷ sets ∷ size ∷ []; place = b.at + 12; left = left (after b) s })
    head =
        rw (← body.head, left-drop s b 12 (after b) refl refl, ← three)
        (row-enough vertices_head b.at (left b s) (omega (arith, left-length s b inside)))

    pub shape-flags : 3 < flags → Shapes (read_vertices mode at (left b s)) b (Err (refusal_at 6 b.at))
    unfolding read_vertices judged check
    shape-flags o = refuses _ b (refusal_at 6 b.at) (rw (head, lt-leb _ _ o)) body.room

    module _ (f3 : flags ≤ 3) where
      pub shape-sets : 8 < sets → Shapes (read_vertices mode at (left b s)) b (Err (refusal_at 6 (b.at + 4)))
      unfolding read_vertices judged check
      shape-sets o = refuses _ b (refusal_at 6 (b.at + 4)) (rw (head, le-leb _ _ f3, lt-leb _ _ o)) (omega arith)

      module _ (s8 : sets ≤ 8) where
        pub shape_size : 4 < size → Shapes (read_vertices mode at (left b s)) b (Err (refusal_at 6 (b.at + 8)))
        unfolding read_vertices judged check
        shape_size o =
            let p : b.at + 4 + 4 ≡ b.at + 8 = omega arith in
            refuses _ b (refusal_at 6 (b.at + 8)) (rw (head, le-leb _ _ f3, le-leb _ _ s8, lt-leb _ _ o, p)) (omega arith)

        module _
            (s4 : size ≤ 4) (words : ℕ) (v : words ≡ vertex_words flags sets size) (low : 3 ≤ words) (high : words ≤ 42)
            (x : std.Result ℕ Refusal)
            (y : x ≡ counted (colour_items (before_colour flags) (colours_of mode flags) (words - (before_colour flags + colours_of mode flags)) (after b).at (left (after b) s)))
            (z : CountedIn (after b) words x) where
          whole : row vertices_head (at + 8) (left b s) ≡ accept (record { value = flags ∷ sets ∷ size ∷ []; place = b.at + 12; left = left (after b) s })
          unfolding judged check
          whole = rw (head, le-leb _ _ f3, le-leb _ _ s8, le-leb _ _ s4)

          found : x ≡ counted (vertices_at mode s (after b) flags sets size)
          found =
              y ∙ ap (λ (rs : List Rule). counted (items (row rs) (b.at + 12) (left (after b) s)))
              (ap (λ (n : ℕ). part_row unit (before_colour flags) (colours_of mode flags) (n - (before_colour flags + colours_of mode flags))) v ∙ sym (colours_are mode flags sets size))

          pub shape-bad : (n : Refusal) → x ≡ Err n → Shapes (read_vertices mode at (left b s)) b (Err n)
          unfolding read_vertices
          shape-bad n q =
              let g = counted-bad (vertices_at mode s (after b) flags sets size) n (sym found ∙ q) in
              refuses _ b n (rw (whole, g)) (counted-before (after b) words x z n q)

          pub shape-all : (k : ℕ) → x ≡ Ok k → Shapes (read_vertices mode at (left b s)) b (Ok (k, words))
          unfolding read_vertices
          shape-all k q =
              let g = counted_got (vertices_at mode s (after b) flags sets size) k (sym found ∙ q) in
              let m = counted-room (after b) words x z k q in
              record { is = rw (whole, g.1, g.2, v); within = (omega arith, low, high) }

pub ruleset vertex_laws = (shape-cut, shape-flags, shape-sets, shape_size, shape-bad, shape-all)

pub ruleset colour_laws = (colours_strict, colours_lenient, plain-vertices, coloured-items)
