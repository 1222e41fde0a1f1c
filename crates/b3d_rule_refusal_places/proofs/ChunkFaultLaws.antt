-- The chunks inside a chunk, as `order` hands them to the readers, beside the faults that the table finds among them.
use mathlib.Core.Logic.{◌⊎◌, inl, inr}
use mathlib.Core.Path.{◌≡◌, refl, ap, sym, subst, ◌∙◌}
use Prim.Native.Nat.{ℕ, zero, suc, ◌+◌, ◌<◌, ◌≤◌}
use native.Mathlib.Omega.{arith}
use mathlib.Core.Bool.{Bool, true, false}
use mathlib.Core.Option.{Option, none, some}
use mathlib.Core.List.{List, [], ◌∷◌}
use lib.ListN.{length, take, drop, length-drop}
use lib.Seq.{length-take-le}
use lib.Dec.{leb}
use borrow.Author.Tests.{leb-true, leb-false}
use Rattle.wire.specs.Bytes.{word, word_at}
use Rattle.wire.specs.Test.{if}
use Rattle.layout.specs.Chunks.{done, stop, chunk, keep, split_in, split as split_of}
use Rattle.layout.proofs.HeldLaws.{word_in}
use Rattle.layout.proofs.PlaceLaws.{At, at-four, at-eight, at_take, at_drop}
use Rattle.b3d_spec.specs.declared.Mode.{Mode}
use Rattle.b3d_spec.specs.declared.Tag.{Tag}
use Rattle.b3d_spec.specs.Nesting.{Reached, start, end, order, inside}
use Rattle.b3d_spec.specs.Tags.{Chunks, tag_of}
use Rattle.b3d_rule_nesting_order.specs.ByTable.{missing_before}
use Rattle.b3d_rule_nesting_order.proofs.ExactLaws.{four-by-table, eight-by-table}
use Rattle.b3d_rule_refusal_places.specs.ByHeaders.{tag_at, end_of, may_stand, with_chunk, here, passed, behind, Sooner}
use Rattle.b3d_rule_refusal_places.specs.GivenByTable.{denied, owing}
use Rattle.b3d_rule_refusal_places.proofs.FaultSearchLaws.{Found, met-later, Inner as InnerOf, found-short, found-past, found_passed, found-known, into_known}

-- faults: refusal, place, and where it is met
abbrev pub Faults : Type 1
Faults = ℕ → ℕ → ℕ → Type 0

abbrev pub Empty : Faults → Type 0
Empty K = (n p m : ℕ) → K n p m → ⊥

abbrev pub Within : Faults → Faults → Type 0
Within K L = (n p m : ℕ) → K n p m → L n p m

pub sooner_later : (m i n p : ℕ) → m ≤ i → Sooner m n p → Sooner i n p
sooner_later m i n p l h = elim h [ inl a ↦ inl (omega arith) | inr a ↦ inr (omega (arith, a.0), a.1) ]

-- what a refusal n at p of chunks that end at `last` says of the faults among them
pub record Says (K : Faults) (last n p : ℕ) : Type 0 where
  pub given : (n ≡ 4) ⊎ (n ≡ 8) → (m : ℕ) × K n p m
  pub first : (i q m : ℕ) → K i q m → ((n ≡ i) × (p ≡ q)) ⊎ Sooner m n p
  pub soon : Sooner last n p

pub says-as : (K L : Faults) (last n p : ℕ) → Within K L → Within L K → Says K last n p → Says L last n p
says-as K L last n p f g h = record {
  given = λ c. let x = h.given c in (x.0, f n p x.0 x.1);
  first = λ i q m x. h.first i q m (g i q m x);
  soon = h.soon;
}

-- one that is neither 4 nor 8, where there is no fault
pub says_none : (K : Faults) (last n p : ℕ) → (n ≡ 4 → ⊥) → (n ≡ 8 → ⊥) → Empty K → Sooner last n p → Says K last n p
says_none K last n p a b e h = record { given = λ c. elim c [ inl x ↦ absurd (a x) | inr x ↦ absurd (b x) ]; first = λ i q m x. absurd (e i q m x); soon = h }

module _ (mode : Mode) (s : List ℕ) where
  -- ---- faults among chunks

  -- the faults inside the chunk of tag k at place q
  abbrev pub Inner : Tag → ℕ → Faults
  Inner k q n p m = InnerOf mode s n p m k q

  -- a chunk: the faults K from its header on are those inside it, and others that are met behind it
  pub record Chunked (K : Faults) (last : ℕ) (k : Tag) (q : ℕ) (b : List ℕ) : Type 0 where
    pub stands : At s (q + 8) b
    pub size : end_of s q ≡ q + 8 + length b
    pub fits : end_of s q ≤ last
    pub into : Within (Inner k q) K
    pub parts : (n p m : ℕ) → K n p m → Inner k q n p m ⊎ (end_of s q ≤ m)

  -- chunks that end at `last` have the faults K
  abbrev pub Tie : Faults → ℕ → Chunks → Type 0
  Tie K last done = Empty K
  Tie K last (stop n p) = Says K last n p
  Tie K last (chunk k q b r) = Chunked K last k q b × (Empty (Inner k q) → Tie K last r)

  pub tie_as : (K L : Faults) (last : ℕ) (cs : Chunks) → Within K L → Within L K → Tie K last cs → Tie L last cs
  tie_as K L last done f g h = λ n p m x. h n p m (g n p m x)
  tie_as K L last (stop n p) f g h = says-as K L last n p f g h
  tie_as K L last (chunk k q b r) f g h = (
    record {
      stands = h.0.stands;
      size = h.0.size;
      fits = h.0.fits;
      into = λ n p m x. f n p m (h.0.into n p m x);
      parts = λ n p m x. h.0.parts n p m (g n p m x);
    },
    λ e. tie_as K L last r f g (h.1 e),
  )

  tie_if : (K : Faults) (last : ℕ) (c : Bool) (x y : Chunks) → (c ≡ true → Tie K last x) → (c ≡ false → Tie K last y) → Tie K last (if c x y)
  unfolding if
  tie_if K last true x y f g = f refl
  tie_if K last false x y f g = g refl

  -- the faults of chunks inside one of tag k
  abbrev pub From : Tag → ℕ → ℕ → ℕ → Reached → Faults
  From k head h last r n p m = Found mode s n p m k head h last r

  module _ (k : Tag) (head : ℕ) where
    -- ---- the chunks end

    tie_end : (h last : ℕ) (r : Reached) → h ≡ last → head + 8 ≤ h → Tie (From k head h last r) last (order k head r done)
    tie_end h last r e l = subst (Tie (From k head h last r) last) (sym (eight-by-table k head r))
        (tie_if (From k head h last r) last (missing_before k r end) (stop 8 head) done
        (λ o. record {
          given = λ _. (h, here k head h last r (inl (owing k head h last r e o refl refl refl)));
          first = λ i q m x. let y = found-short mode s i q m k head h last r (omega arith) x in inl (sym y.2, sym y.3);
          soon = inl (omega arith);
        })
        (λ o. λ i q m x. let y = found-short mode s i q m k head h last r (omega arith) x in clash (sym o ∙ y.1)))
      where
        clash : false ≡ true → ⊥
        clash e = let z : ◌≡◌ {A = ℕ} 0 1 = cc in omega arith

    -- fewer bytes than a header
    cut : (h last : ℕ) (r : Reached) → h < last → last < h + 8 → Says (From k head h last r) last 3 h
    cut h last r a b = says_none (From k head h last r) last 3 h (λ e. omega arith) (λ e. omega arith) (λ n p m x. let y = found-short mode s n p m k head h last r b x in omega (arith, y.0)) (inl (omega arith))

    -- a length past the end
    past : (h last : ℕ) (r : Reached) → h < last → last < end_of s h → Says (From k head h last r) last 3 h
    past h last r a b = says_none (From k head h last r) last 3 h (λ e. omega arith) (λ e. omega arith) (λ n p m x. found-past mode s n p m k head h last r a b x) (inl (omega arith))

    -- ---- a chunk, and the chunks cs after it

    module _ (h last : ℕ) (fits : end_of s h ≤ last) (b : List ℕ) (at : At s (h + 8) b) (size : end_of s h ≡ h + 8 + length b) (cs : Chunks)
        (rest : (r : Reached) → Tie (From k head (end_of s h) last r) last (order k head r cs)) (r : Reached) where
      abbrev K : Faults
      K = From k head h last r

      tie_known : (t : Tag) → tag_at s h ≡ some t → Tie K last (order k head r (chunk t h b cs))
      tie_known t e = subst (Tie K last) (sym (four-by-table k head r t h b cs))
          (tie_if K last (may_stand k r t) (chunk t h b (order k head (with_chunk k r t) cs)) (stop 4 h)
          (λ y. (
            record {
              stands = at;
              size = size;
              fits = fits;
              into = λ n p m x. into_known mode s n p m k head h last r fits t e y x;
              parts = λ n p m x. elim (found-known mode s n p m k head h last r fits t e x)
                  [ inl z ↦ clash (sym z.0 ∙ y) | inr z ↦ elim z.1 [ inl f ↦ inl f | inr f ↦ inr (met-later mode s n p m k head (end_of s h) last (with_chunk k r t) f) ] ];
            },
            λ o. tie_as (From k head (end_of s h) last (with_chunk k r t)) K last (order k head (with_chunk k r t) cs)
                (λ n p m x. behind k head h last r t fits e y x)
                (λ n p m x. elim (found-known mode s n p m k head h last r fits t e x)
                [ inl z ↦ clash (sym z.0 ∙ y) | inr z ↦ elim z.1 [ inl f ↦ absurd (o n p m f) | inr f ↦ f ] ])
                (rest (with_chunk k r t)),
          ))
          (λ y. record {
            given = λ _. (h, here k head h last r (inl (denied k head h last r t fits e y refl refl refl)));
            first = λ n p m x. elim (found-known mode s n p m k head h last r fits t e x) [ inl z ↦ inl (sym z.1, sym z.2) | inr z ↦ clash (sym y ∙ z.0) ];
            soon = inl (omega arith);
          }))
        where
          clash : {A : Type 0} → false ≡ true → A
          clash e = let z : ◌≡◌ {A = ℕ} 0 1 = cc in absurd (omega arith)

      tie_keep : (o : Option Tag) → tag_at s h ≡ o → Tie K last (order k head r (keep o h b cs))
      unfolding keep
      tie_keep none e = tie_as (From k head (end_of s h) last r) K last (order k head r cs)
          (λ n p m x. passed k head h last r fits e x) (λ n p m x. found_passed mode s n p m k head h last r fits e x) (rest r)
      tie_keep (some t) e = tie_known t e

    -- a header that is there: a tag and a length n; the bytes t are behind it
    module _ (h last n : ℕ) (o : Option Tag) (t : List ℕ) (tag : tag_at s h ≡ o) (size : word_at s (h + 4) ≡ n) (at : At s (h + 8) t) (long : h + 8 + length t ≡ last) (cs : Chunks)
        (rest : n ≤ length t → (r : Reached) → Tie (From k head (h + 8 + n) last r) last (order k head r cs)) (r : Reached) where
      tie_header : (c : Bool) → leb n (length t) ≡ c → Tie (From k head h last r) last (order k head r (if c (keep o h (take n t) cs) (stop 3 h)))
      unfolding if order
      tie_header true e =
          let le = leb-true n (length t) e in
          let ends : end_of s h ≡ h + 8 + n = ap (λ (z : ℕ). h + 8 + z) size in
          tie_keep h last (omega arith) (take n t) (at_take s (h + 8) n t at) (omega (arith, length-take-le n t le)) cs
          (λ q. subst (λ (z : ℕ). Tie (From k head z last q) last (order k head q cs)) (sym ends) (rest le q)) r o tag
      tie_header false e = past h last r (omega arith) (omega (arith, leb-false n (length t) e, size))

    -- ---- all of them

    pub tie_chunks : (f h last : ℕ) (b : List ℕ) → At s h b → h + length b ≡ last → length b ≤ f → head + 8 ≤ h → (r : Reached) → Tie (From k head h last r) last (order k head r (split_in tag_of f h b))
    unfolding split_in order
    tie_chunks zero h last [] at e l w r = tie_end h last r (omega arith) w
    tie_chunks zero h last (a ∷ b) at e l w r = absurd (omega arith)
    tie_chunks (suc f) h last [] at e l w r = tie_end h last r (omega arith) w
    tie_chunks (suc f) h last (a ∷ []) at e l w r = cut h last r (omega arith) (omega arith)
    tie_chunks (suc f) h last (a ∷ b ∷ []) at e l w r = cut h last r (omega arith) (omega arith)
    tie_chunks (suc f) h last (a ∷ b ∷ c ∷ []) at e l w r = cut h last r (omega arith) (omega arith)
    tie_chunks (suc f) h last (a ∷ b ∷ c ∷ d ∷ []) at e l w r = cut h last r (omega arith) (omega arith)
    tie_chunks (suc f) h last (a ∷ b ∷ c ∷ d ∷ x ∷ []) at e l w r = cut h last r (omega arith) (omega arith)
    tie_chunks (suc f) h last (a ∷ b ∷ c ∷ d ∷ x ∷ y ∷ []) at e l w r = cut h last r (omega arith) (omega arith)
    tie_chunks (suc f) h last (a ∷ b ∷ c ∷ d ∷ x ∷ y ∷ z ∷ []) at e l w r = cut h last r (omega arith) (omega arith)
    tie_chunks (suc f) h last (a ∷ b ∷ c ∷ d ∷ x ∷ y ∷ z ∷ i ∷ t) at e l w r =
        let n = word x y z i in
        let body = at-eight s h a b c d x y z i t at in
        tie_header h last n (tag_of (word a b c d)) t (ap tag_of (word_in s h a b c d _ at)) (word_in s (h + 4) x y z i t (at-four s h a b c d _ at)) body (omega arith)
        (split_in tag_of f (h + 8 + n) (drop n t))
        (λ le. tie_chunks f (h + 8 + n) last (drop n t) (at_drop s (h + 8) n t le body) (omega (arith, length-drop n t)) (omega (arith, length-drop n t)) (omega arith))
        r (leb n (length t)) refl

    pub tie_inside : (h last : ℕ) (b : List ℕ) → At s h b → h + length b ≡ last → head + 8 ≤ h → Tie (From k head h last start) last (inside k head h b)
    unfolding inside split_of
    tie_inside h last b at e w = tie_chunks (length b) h last b at e (omega arith) w start
