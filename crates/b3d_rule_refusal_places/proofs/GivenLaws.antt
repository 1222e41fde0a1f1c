-- `parse` and `judge` give 4 and 8 exactly where the table says, and in strict mode 6 at the first colour that does not pass.
use mathlib.Core.Logic.{◌⊎◌, inl, inr}
use mathlib.Core.Path.{◌≡◌, refl, ap, sym, subst, ◌∙◌}
use Prim.Native.Nat.{ℕ, ◌<◌, ◌≤◌}
use native.Mathlib.Omega.{arith}
use mathlib.Core.Bool.{Bool, true, false}
use mathlib.Core.List.{List, [], ◌∷◌, append-nil}
use lib.ListN.{length, drop, length-drop}
use lib.Dec.{eqb, leb, leb→le, nleb→lt}
use Rattle.wire.specs.Bytes.{word_at}
use Rattle.layout.specs.Result.{Result, accept, reject, check, ◌>>=◌}
use Rattle.layout.specs.Parts.{Step, words_of, row, number}
use Rattle.layout.specs.Rows.{each_of, size_fits}
use Rattle.layout.specs.Rules.{unit, holds}
use Rattle.layout.proofs.ResultLaws.{by_test}
use Rattle.layout.proofs.StepLaws.{row_any, any-short}
use Rattle.b3d_spec.specs.declared.Mode.{Mode}
use Rattle.b3d_spec.specs.declared.Mode.TheVariants.{Strict, Lenient}
use Rattle.b3d_spec.specs.declared.Tag.{Tag}
use Rattle.b3d_spec.specs.declared.Tag.TheVariants.{BB3D, TEXS, BRUS, NODE, MESH, VRTS, TRIS, BONE, KEYS, ANIM}
use Rattle.b3d_spec.specs.Answers.{judge}
use Rattle.b3d_spec.specs.Nesting.{Reached, start}
use Rattle.b3d_spec.specs.Parse.{read_body, parse}
use Rattle.b3d_spec.specs.Rules.{header, row_limit}
use Rattle.b3d_spec.specs.Scene.{Scene}
use Rattle.b3d_spec.specs.Tables.{rows, tables}
use Rattle.b3d_spec.specs.Tags.{code}
use Rattle.b3d_spec.proofs.Laws.{refused}
use Rattle.b3d_rule_refusal_places.specs.ByHeaders.{Looked, Meets, here, passed, behind, within, end_of, with_chunk, Sooner}
use Rattle.b3d_rule_refusal_places.specs.GivenByTable.{SaysNo, denied, owing, Fault, GivenByTable}
use Rattle.b3d_rule_refusal_places.specs.GivenAtColours.{HasColour, brush, vertex, Colour, GivenAtColours}
use Rattle.b3d_rule_refusal_places.proofs.ItemPairLaws.{Pair}
use Rattle.b3d_rule_refusal_places.proofs.FaultSearchLaws.{Event, Holds, met-later, BadColour}
use Rattle.b3d_rule_refusal_places.proofs.ReaderLaws.{InBody, body_pair}
use Rattle.b3d_rule_refusal_places.proofs.ChunkFaultLaws.{Empty}

-- ---- what a file's answers say of what is found in it

record Tells (mode : Mode) (s : List ℕ) (n p : ℕ) : Type 0 where
  given : (n ≡ 4) ⊎ (n ≡ 8) → (m : ℕ) × InBody mode s n p m
  first : (i q m : ℕ) → InBody mode s i q m → ((n ≡ i) × (p ≡ q)) ⊎ Sooner m n p

-- the answer in a mode beside the lenient one
abbrev Answers : Mode → List ℕ → Result Scene → Result Scene → Type 0
Answers mode s (accept t) o = Empty (InBody mode s) × (o ≡ accept t)
Answers mode s (reject n p) o = Tells mode s n p × ((o ≡ reject n p) ⊎ InBody mode s n p p)

-- refusals of the header come first
early : (mode : Mode) (s : List ℕ) (n p : ℕ) → (n ≡ 4 → ⊥) → (n ≡ 8 → ⊥) → p < 12 → Tells mode s n p
early mode s n p a b l = record {
  given = λ c. elim c [ inl e ↦ absurd (a e) | inr e ↦ absurd (b e) ];
  first = λ i q m f. let x = met-later mode s i q m BB3D 0 12 (length s) start f in inr (inl (omega arith));
}

check_answers : (mode : Mode) (s : List ℕ) (b : Bool) (n p : ℕ) (m m' : Result Scene) → n < 4 → p < 12 → Answers mode s m m' → Answers mode s (check b n p >>= λ _. m) (check b n p >>= λ _. m')
unfolding check
check_answers mode s true n p m m' a c h = h
check_answers mode s false n p m m' a c h = (early mode s n p (λ e. omega arith) (λ e. omega arith) c, inl refl)

pair_answers : (mode : Mode) (s : List ℕ) (o o' : Result Scene) → Pair (InBody mode s) (length s) (λ _. Empty (InBody mode s)) o o' → Answers mode s o o'
pair_answers mode s (accept t) o' h = h
pair_answers mode s (reject n p) o' h = (record { given = h.0.given; first = h.0.first }, h.1)

-- a tag and a length
abbrev header_of : List ℕ → Step (List ℕ)
header_of s = record { value = words_of 2 s; place = 8; left = drop 8 s }

header_answers : (mode : Mode) (s : List ℕ) (k k' : Step (List ℕ) → Result Scene) → (8 ≤ length s → Answers mode s (k (header_of s)) (k' (header_of s))) → Answers mode s (row header 0 s >>= k) (row header 0 s >>= k')
header_answers mode s k k' h =
    by_test (leb 8 (length s))
    (λ t. let l = leb→le 8 (length s) t in subst (λ (o : Result (Step (List ℕ))). Answers mode s (o >>= k) (o >>= k')) (sym (row_any 2 0 s l)) (h l))
    (λ t. subst (λ (o : Result (Step (List ℕ))). Answers mode s (o >>= k) (o >>= k')) (sym (any-short 2 0 s (nleb→lt 8 (length s) t))) (early mode s 5 0 (λ e. omega arith) (λ e. omega arith) (omega arith), inl refl))

parse_answers : (mode : Mode) (s : List ℕ) → Answers mode s (parse mode s) (parse Lenient s)
unfolding parse
parse_answers mode s =
    check_answers mode s (size_fits (length s)) 1 0 _ _ (omega arith) (omega arith)
    (header_answers mode s _ _ (λ l.
    check_answers mode s (eqb (number (header_of s) 0) (code BB3D)) 2 0 _ _ (omega arith) (omega arith)
    (check_answers mode s (eqb (number (header_of s) 1) (length (drop 8 s))) 2 4 _ _ (omega arith) (omega arith)
    (pair_answers mode s (read_body mode 8 (drop 8 s)) (read_body Lenient 8 (drop 8 s)) (body_pair mode s (drop 8 s) (record { after = []; stands = sym (append-nil (drop 8 s)) }) (omega (arith, length-drop 8 s)))))))

-- ---- the row limits come after

each_answers : (mode : Mode) (s : List ℕ) (ok : ℕ → Bool) (ks : List ℕ) (t : Scene) → Empty (InBody mode s) → Answers mode s (each_of 10 ok ks >>= λ _. accept t) (each_of 10 ok ks >>= λ _. accept t)
unfolding each_of check
each_answers mode s ok [] t h = (h, refl)
each_answers mode s ok (k ∷ ks) t h = by (ok k) (each_answers mode s ok ks t h)
  where
    by : (b : Bool) → Answers mode s (each_of 10 ok ks >>= λ _. accept t) (each_of 10 ok ks >>= λ _. accept t)
        → Answers mode s ((check b 10 k >>= λ _. each_of 10 ok ks) >>= λ _. accept t) ((check b 10 k >>= λ _. each_of 10 ok ks) >>= λ _. accept t)
    by true x = x
    by false x = (record { given = λ c. elim c [ inl e ↦ absurd (omega arith) | inr e ↦ absurd (omega arith) ]; first = λ i q m f. absurd (h i q m f) }, inl refl)

abbrev limited : Result Scene → Result Scene
limited o = o >>= λ t. each_of 10 (λ k. leb (length (rows k t)) row_limit) tables >>= λ _. accept t

limited_answers : (mode : Mode) (s : List ℕ) (o o' : Result Scene) → Answers mode s o o' → Answers mode s (limited o) (limited o')
limited_answers mode s (accept t) o' h = subst (λ (w : Result Scene). Answers mode s (limited (accept t)) (limited w)) (sym h.1) (each_answers mode s (λ k. leb (length (rows k t)) row_limit) tables t h.0)
limited_answers mode s (reject n p) o' h = (h.0, elim h.1 [ inl e ↦ inl (ap limited e) | inr x ↦ inr x ])

judge_answers : (mode : Mode) (s : List ℕ) → Answers mode s (judge mode s) (judge Lenient s)
unfolding judge
judge_answers mode s = limited_answers mode s (parse mode s) (parse Lenient s) (parse_answers mode s)

-- ---- one thing looked for, and another

meets_as : (s : List ℕ) (E F : Looked) → ((k : Tag) (head h last : ℕ) (r : Reached) → E k head h last r → F k head h last r)
    → (k : Tag) (head h last : ℕ) (r : Reached) → Meets s E k head h last r → Meets s F k head h last r
meets_as s E F f k head h last r (here _ _ _ _ _ x) = here k head h last r (f k head h last r x)
meets_as s E F f k head h last r (passed _ _ _ _ _ l e x) = passed k head h last r l e (meets_as s E F f k head (end_of s h) last r x)
meets_as s E F f k head h last r (behind _ _ _ _ _ t l e y x) = behind k head h last r t l e y (meets_as s E F f k head (end_of s h) last (with_chunk k r t) x)
meets_as s E F f k head h last r (within _ _ _ _ _ t l e y b g x) = within k head h last r t l e y b g (meets_as s E F f t h b (end_of s h) start x)

-- something that holds wherever it is met
meets_all : (s : List ℕ) (E : Looked) (P : Type 0) → ((k : Tag) (head h last : ℕ) (r : Reached) → E k head h last r → P) → (k : Tag) (head h last : ℕ) (r : Reached) → Meets s E k head h last r → P
meets_all s E P f k head h last r (here _ _ _ _ _ x) = f k head h last r x
meets_all s E P f k head h last r (passed _ _ _ _ _ l e x) = meets_all s E P f k head (end_of s h) last r x
meets_all s E P f k head h last r (behind _ _ _ _ _ t l e y x) = meets_all s E P f k head (end_of s h) last (with_chunk k r t) x
meets_all s E P f k head h last r (within _ _ _ _ _ t l e y b g x) = meets_all s E P f t h b (end_of s h) start x

-- ---- 4 and 8

bad_six : (mode : Mode) (s : List ℕ) (t : Tag) (h n p m : ℕ) → BadColour mode s t h n p m → n ≡ 6
bad_six Strict s t h n p m x = x.0
bad_six Lenient s t h n p m x = absurd x

fault-of : (mode : Mode) (s : List ℕ) (n p m : ℕ) → (n ≡ 6 → ⊥) → InBody mode s n p m → Fault s n p m
fault-of mode s n p m a = meets_as s (Event mode s n p m) (SaysNo s n p m) (λ k head h last r x. elim x [ inl y ↦ y | inr y ↦ absurd (a (bad_six mode s y.0 h n p m y.4)) ]) BB3D 0 12 (length s) start

of-fault : (mode : Mode) (s : List ℕ) (n p m : ℕ) → Fault s n p m → InBody mode s n p m
of-fault mode s n p m = meets_as s (SaysNo s n p m) (Event mode s n p m) (λ k head h last r x. inl x) BB3D 0 12 (length s) start

-- a 4 is met at its place
four-there : (s : List ℕ) (p m : ℕ) (k : Tag) (head h last : ℕ) (r : Reached) → SaysNo s 4 p m k head h last r → m ≡ p
four-there s p m k head h last r (denied _ _ _ _ _ t l e d _ i j) = omega arith
four-there s p m k head h last r (owing _ _ _ _ _ l o i _ _) = absurd (omega arith)

module _ (mode : Mode) (answer soft : List ℕ → Result Scene) (says : (s : List ℕ) → Answers mode s (answer s) (soft s)) where
  found-given : (s : List ℕ) (n p m : ℕ) → InBody mode s n p m → (answer s ≡ reject n p) ⊎ ((i : ℕ) × (q : ℕ) × (answer s ≡ reject i q) × Sooner m i q)
  found-given s n p m f = by (answer s) refl (says s)
    where
      by : (o : Result Scene) → answer s ≡ o → Answers mode s o (soft s) → (answer s ≡ reject n p) ⊎ ((i : ℕ) × (q : ℕ) × (answer s ≡ reject i q) × Sooner m i q)
      by (accept t) e h = absurd (h.0 n p m f)
      by (reject i q) e h = elim (h.0.first n p m f) [ inl x ↦ inl (e ∙ ap (λ (j : ℕ). reject j q) x.0 ∙ ap (reject n) x.1) | inr x ↦ inr (i, q, e, x) ]

  given-by-table : ((s : List ℕ) (n p m q : ℕ) → Fault s n p m → answer s ≡ reject 10 q → ⊥) → GivenByTable answer
  given-by-table late = record {
    before_ten = late;
    four = λ s p e.
        let x = (subst (λ (o : Result Scene). Answers mode s o (soft s)) e (says s)).0.given (inl refl) in
        let f = fault-of mode s 4 p x.0 (λ z. omega arith) x.1 in
        subst (Fault s 4 p) (meets_all s (SaysNo s 4 p x.0) (x.0 ≡ p) (four-there s p x.0) BB3D 0 12 (length s) start f) f;
    eight = λ s p e. let x = (subst (λ (o : Result Scene). Answers mode s o (soft s)) e (says s)).0.given (inr refl) in (x.0, fault-of mode s 8 p x.0 (λ z. omega arith) x.1);
    given = λ s n p m f. found-given s n p m (of-fault mode s n p m f);
  }

-- ---- 10 comes after what is found in a body

same_place : {i q j p : ℕ} → ◌≡◌ {A = Result Scene} (reject i q) (reject j p) → (i ≡ j) × (q ≡ p)
same_place e = (cc, cc)

not-ten : (mode : Mode) (s : List ℕ) (i p q : ℕ) → parse mode s ≡ reject i p → judge mode s ≡ reject 10 q → ⊥
unfolding judge
not-ten mode s i p q e h = let j : judge mode s ≡ reject i p = rw e in omega (arith, (same_place (sym j ∙ h)).0, refused mode s i p e)

found-not-ten : (mode : Mode) (s : List ℕ) (n p m q : ℕ) → InBody mode s n p m → judge mode s ≡ reject 10 q → ⊥
found-not-ten mode s n p m q f h = elim (found-given mode (parse mode) (parse Lenient) (parse_answers mode) s n p m f) [ inl x ↦ not-ten mode s n p q x h | inr x ↦ not-ten mode s x.0 x.1 q x.2 h ]

pub parse-given : (mode : Mode) → GivenByTable (parse mode)
parse-given mode = given-by-table mode (parse mode) (parse Lenient) (parse_answers mode) (λ s n p m q f h. omega (arith, refused mode s 10 q h))

pub judge-given : (mode : Mode) → GivenByTable (judge mode)
judge-given mode = given-by-table mode (judge mode) (judge Lenient) (judge_answers mode) (λ s n p m q f h. found-not-ten mode s n p m q (of-fault mode s n p m f) h)

-- ---- 6 at a colour

no_six : (s : List ℕ) (p m : ℕ) (k : Tag) (head h last : ℕ) (r : Reached) → SaysNo s 6 p m k head h last r → ⊥
no_six s p m k head h last r (denied _ _ _ _ _ t l e d i _ _) = omega arith
no_six s p m k head h last r (owing _ _ _ _ _ l o i _ _) = omega arith

holds-colour : (s : List ℕ) (p m : ℕ) (k : Tag) (head h last : ℕ) (r : Reached) → Holds Strict s 6 p m k head h last r → HasColour s p k head h last r
holds-colour s p m k head h last r (BB3D, l, e, y, x) = absurd x.3
holds-colour s p m k head h last r (TEXS, l, e, y, x) = absurd x.3
holds-colour s p m k head h last r (BRUS, l, e, y, x) = brush k head h last r l e y x.3
holds-colour s p m k head h last r (NODE, l, e, y, x) = absurd x.3
holds-colour s p m k head h last r (MESH, l, e, y, x) = absurd x.3
holds-colour s p m k head h last r (VRTS, l, e, y, x) = vertex k head h last r l e y x.3
holds-colour s p m k head h last r (TRIS, l, e, y, x) = absurd x.3
holds-colour s p m k head h last r (BONE, l, e, y, x) = absurd x.3
holds-colour s p m k head h last r (KEYS, l, e, y, x) = absurd x.3
holds-colour s p m k head h last r (ANIM, l, e, y, x) = absurd x.3

colour_event : (s : List ℕ) (p : ℕ) → holds unit (word_at s p) ≡ false → (k : Tag) (head h last : ℕ) (r : Reached) → HasColour s p k head h last r → Event Strict s 6 p p k head h last r
colour_event s p n k head h last r (brush _ _ _ _ _ l e y c) = inr (BRUS, l, e, y, (refl, refl, n, c))
colour_event s p n k head h last r (vertex _ _ _ _ _ l e y c) = inr (VRTS, l, e, y, (refl, refl, n, c))

colour-found : (s : List ℕ) (p : ℕ) → InBody Strict s 6 p p → Colour s p × (holds unit (word_at s p) ≡ false)
colour-found s p f = (
  meets_as s (Event Strict s 6 p p) (HasColour s p) (λ k head h last r x. elim x [ inl y ↦ absurd (no_six s p p k head h last r y) | inr y ↦ holds-colour s p p k head h last r y ]) BB3D 0 12 (length s) start f,
  meets_all s (Event Strict s 6 p p) (holds unit (word_at s p) ≡ false) (λ k head h last r x. elim x [ inl y ↦ absurd (no_six s p p k head h last r y) | inr y ↦ y.4.2 ]) BB3D 0 12 (length s) start f,
)

colour-met : (s : List ℕ) (p : ℕ) → Colour s p → holds unit (word_at s p) ≡ false → InBody Strict s 6 p p
colour-met s p c n = meets_as s (HasColour s p) (Event Strict s 6 p p) (colour_event s p n) BB3D 0 12 (length s) start c

colour-given : (s : List ℕ) (p : ℕ) → Colour s p → holds unit (word_at s p) ≡ false → (judge Strict s ≡ reject 6 p) ⊎ ((i : ℕ) × (q : ℕ) × (judge Strict s ≡ reject i q) × Sooner p i q)
colour-given s p c n = found-given Strict (judge Strict) (judge Lenient) (judge_answers Strict) s 6 p p (colour-met s p c n)

colour-first : (s : List ℕ) (p q : ℕ) → judge Strict s ≡ reject 6 p → Colour s q → q < p → holds unit (word_at s q) ≡ true
colour-first s p q e c l = by (holds unit (word_at s q)) refl
  where
    by : (b : Bool) → holds unit (word_at s q) ≡ b → b ≡ true
    by true n = refl
    by false n = elim (colour-given s q c n) [
      | inl x ↦ absurd (omega (arith, (same_place (sym x ∙ e)).1))
      | inr x ↦ let z = same_place (sym x.2 ∙ e) in elim x.3 [ inl y ↦ absurd (omega (arith, z.1)) | inr y ↦ absurd (omega (arith, z.0, y.1)) ]
    ]

pub colours-given : (s : List ℕ) → GivenAtColours s
colours-given s = record {
  colour = λ p e n. elim (subst (λ (o : Result Scene). Answers Strict s o (judge Lenient s)) e (judge_answers Strict s)).1 [ inl x ↦ absurd (n x) | inr x ↦ colour-found s p x ];
  first = colour-first s;
  given = colour-given s;
  before_ten = λ p q c n h. found-not-ten Strict s 6 p p q (colour-met s p c n) h;
}
