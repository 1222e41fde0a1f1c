-- One reading follows another: where the first gives a value the second gives one, and R holds of the two. Whatever their places: words,
-- rows, texts, items.
use mathlib.Core.Path.{◌≡◌, refl, ap, ap₂, sym, ◌∙◌, subst}
use Prim.Native.Nat.{ℕ, zero, suc, ◌+◌, ◌*◌}
use native.Mathlib.Omega.{arith}
use mathlib.Core.List.{List, [], ◌∷◌, ◌++◌, map}
use lib.ListN.{length, take, drop, length-take}
use lib.Seq.{take_at, drop_at}
use lib.Dec.{leb, leb→le, nleb→lt}
use Rattle.wire.specs.Bytes.{word}
use Rattle.layout.specs.Result.{Result, accept, ◌>>=◌}
use Rattle.layout.specs.Parts.{Name, Step, text, words, words_of, judged, row, named, items_in, items}
use Rattle.layout.specs.Rules.{Rule, holds, refusal}
use Rattle.layout.specs.Write.{write_text}
use Rattle.layout.proofs.ResultLaws.{by_test, by-check, by_got, bad_got, got_inj, check-yes}
use Rattle.layout.proofs.PartLaws.{length-text}
use Rattle.layout.proofs.StepLaws.{words-enough, words-short, Shrinks, items-step}
use Rattle.b3d_spec_demands.specs.Private.{IsName}

pub record Gives {A B : Type 0} (R : A → B → Type 0) (a : A) (o : Result B) : Type 0 where
  pub value : B
  pub is : o ≡ accept value
  pub holds : R a value

abbrev pub Follows : {A B : Type 0} → (A → B → Type 0) → Result A → Result B → Type 0
Follows {A} R m o = (a : A) → m ≡ accept a → Gives R a o

pub follow-then : {A B C D : Type 0} (R : A → B → Type 0) (Q : C → D → Type 0) (m : Result A) (o : Result B) (k : A → Result C) (l : B → Result D)
    → Follows R m o → ((a : A) (b : B) → m ≡ accept a → R a b → Follows Q (k a) (l b)) → Follows Q (m >>= k) (o >>= l)
follow-then {A} {B} R Q m o k l h f c e =
    by_got m k e (λ a ea ek. let g = h a ea in
    let d = f a g.value ea g.holds c ek in
    record { value = d.value; is = ap (λ (z : Result B). z >>= l) g.is ∙ d.is; holds = d.holds })

pub follow_bind : {A B C D : Type 0} (R : A → B → Type 0) (Q : C → D → Type 0) (m : Result A) (o : Result B) (k : A → Result C) (l : B → Result D)
    → Follows R m o → ((a : A) (b : B) → R a b → Follows Q (k a) (l b)) → Follows Q (m >>= k) (o >>= l)
follow_bind R Q m o k l h f = follow-then R Q m o k l h (λ a b ea. f a b)

pub follow_got : {A B : Type 0} (R : A → B → Type 0) (a : A) (b : B) → R a b → Follows R (accept a) (accept b)
follow_got {A} R a b h x e = record { value = b; is = refl; holds = subst (λ (z : A). R z b) (got_inj e) h }

-- of readings that are the same as these
pub follow-same : {A B : Type 0} (R : A → B → Type 0) {m n : Result A} {o q : Result B} → m ≡ n → o ≡ q → Follows R n q → Follows R m o
follow-same R e f h a ea = let g = h a (sym e ∙ ea) in record { value = g.value; is = f ∙ g.is; holds = g.holds }

pub follow-map : {A B : Type 0} (R Q : A → B → Type 0) {m : Result A} {o : Result B} → ((a : A) (b : B) → R a b → Q a b) → Follows R m o → Follows Q m o
follow-map R Q f h a ea = let g = h a ea in record { value = g.value; is = g.is; holds = f a g.value g.holds }

-- ---- words and rows

of-take : (n : ℕ) (s : List ℕ) → words_of n (take (4 * n) s) ≡ words_of n s
of-take zero s = refl
of-take (suc n) [] = let e : 4 * suc n ≡ suc (suc (suc (suc (4 * n)))) = omega arith in rw e
of-take (suc n) (a ∷ []) = let e : 4 * suc n ≡ suc (suc (suc (suc (4 * n)))) = omega arith in rw e
of-take (suc n) (a ∷ b ∷ []) = let e : 4 * suc n ≡ suc (suc (suc (suc (4 * n)))) = omega arith in rw e
of-take (suc n) (a ∷ b ∷ c ∷ []) = let e : 4 * suc n ≡ suc (suc (suc (suc (4 * n)))) = omega arith in rw e
of-take (suc n) (a ∷ b ∷ c ∷ d ∷ s) = let e : 4 * suc n ≡ suc (suc (suc (suc (4 * n)))) = omega arith in rw e (ap (λ (l : List ℕ). word a b c d ∷ l) (of-take n s))

-- words of two stretches that begin alike: the same, and what is behind them
pub record Behind (n : ℕ) (s v : List ℕ) (x y : Step (List ℕ)) : Type 0 where
  pub value : x.value ≡ y.value
  pub here : x.left ≡ drop (4 * n) s
  pub there : y.left ≡ drop (4 * n) v

words-follow : (a b n p q : ℕ) (s v : List ℕ) → take (4 * n) s ≡ take (4 * n) v → Follows (Behind n s v) (words a n p s) (words b n q v)
words-follow a b n p q s v t x e =
    by_test (leb (4 * n) (length s))
    (λ h. let le = leb→le (4 * n) (length s) h in
    let i = got_inj (sym e ∙ words-enough a n p s le) in
    let lt = ap length t in
    let ls = length-take (4 * n) s in
    let lv = length-take (4 * n) v in
    record {
      value = record { value = words_of n v; place = q + 4 * n; left = drop (4 * n) v };
      is = words-enough b n q v (omega arith);
      holds = record { value = ap (λ (y : Step (List ℕ)). y.value) i ∙ sym (of-take n s) ∙ ap (words_of n) t ∙ of-take n v; here = ap (λ (y : Step (List ℕ)). y.left) i; there = refl };
    })
    (λ h. bad_got (sym (words-short a n p s (nleb→lt (4 * n) (length s) h)) ∙ e))

-- words that keep their rules keep them at another place
judged-again : {A B : Type 0} (rs : List Rule) (p q : ℕ) (ws : List ℕ) (a x : A) (b : B) → judged rs p ws a ≡ accept x → (judged rs q ws b ≡ accept b) × (a ≡ x)
unfolding judged
judged-again [] p q ws a x b e = (refl, got_inj e)
judged-again (r ∷ rs) p q [] a x b e = (refl, got_inj e)
judged-again (r ∷ rs) p q (w ∷ ws) a x b e =
    by-check (holds r w) (refusal r) p _ e (λ t e₁. let h = judged-again rs (p + 4) (q + 4) ws a x b e₁ in (rw (check-yes (holds r w) (refusal r) q t) h.0, h.1))

judged-follow : {A B : Type 0} (R : A → B → Type 0) (rs : List Rule) (p q : ℕ) (ws vs : List ℕ) (a : A) (b : B) → ws ≡ vs → R a b → Follows R (judged rs p ws a) (judged rs q vs b)
judged-follow {A} R rs p q ws vs a b ew h x e =
    let j = judged-again rs p q ws a x b e in
    record { value = b; is = ap (λ (l : List ℕ). judged rs q l b) (sym ew) ∙ j.0; holds = subst (λ (z : A). R z b) j.1 h }

pub row-follow : (rs : List Rule) (p q : ℕ) (s v : List ℕ) → take (4 * length rs) s ≡ take (4 * length rs) v → Follows (Behind (length rs) s v) (row rs p s) (row rs q v)
unfolding row
row-follow rs p q s v t =
    follow_bind (Behind (length rs) s v) (Behind (length rs) s v) (words p (length rs) p s) (words q (length rs) q v) _ _ (words-follow p q (length rs) p q s v t)
    (λ x y h. judged-follow (Behind (length rs) s v) rs p q x.value y.value x y h.value h)

-- the same values, and L of what is left
abbrev pub Beside : {A B : Type 0} → (A → B) → (List ℕ → List ℕ → Type 0) → Step A → Step A → Type 0
Beside g L x y = (g x.value ≡ g y.value) × L x.left y.left

abbrev itself : List ℕ → List ℕ
itself w = w

-- the same stretch at two places
pub row_twice : (rs : List Rule) (p q : ℕ) (s : List ℕ) → Follows (Beside itself ◌≡◌) (row rs p s) (row rs q s)
row_twice rs p q s = follow-map (Behind (length rs) s s) (Beside itself ◌≡◌) (λ x y h. (h.value, h.here ∙ sym h.there)) (row-follow rs p q s s refl)

-- fixed data, and L of what is behind it
pub head-follow : (L : List ℕ → List ℕ → Type 0) (rs : List Rule) (p q : ℕ) (w r k : List ℕ) → length w ≡ 4 * length rs → L r k → Follows (Beside itself L) (row rs p (w ++ r)) (row rs q (w ++ k))
head-follow L rs p q w r k l z =
    follow-map (Behind (length rs) (w ++ r) (w ++ k)) (Beside itself L) (λ x y h. (h.value, rw (h.here ∙ drop_at w r (4 * length rs) l, h.there ∙ drop_at w k (4 * length rs) l) z))
    (row-follow rs p q (w ++ r) (w ++ k) (take_at w r (4 * length rs) l ∙ sym (take_at w k (4 * length rs) l)))

-- the same, where what is behind it is the same
pub head_twice : (L : List ℕ → List ℕ → Type 0) → ((z : List ℕ) → L z z) → (rs : List Rule) (p q : ℕ) (s : List ℕ) → Follows (Beside itself L) (row rs p s) (row rs q s)
head_twice L f rs p q s = follow-map (Beside itself ◌≡◌) (Beside itself L) (λ x y h. (h.0, subst (L x.left) h.1 (f x.left))) (row_twice rs p q s)

-- ---- texts

text_twice : (a b p q : ℕ) (s : List ℕ) → Follows (Beside itself ◌≡◌) (text a p s) (text b q s)
unfolding text
text_twice a b p q [] = λ x e. bad_got e
text_twice a b p q (zero ∷ s) = follow_got (Beside itself ◌≡◌) _ _ (refl, refl)
text_twice a b p q (suc c ∷ s) =
    follow_bind (Beside itself ◌≡◌) (Beside itself ◌≡◌) (text a (p + 1) s) (text b (q + 1) s) _ _ (text_twice a b (p + 1) (q + 1) s)
    (λ x y h. follow_got (Beside itself ◌≡◌) _ _ (ap (λ (l : List ℕ). suc c ∷ l) h.0, h.1))

text-is : (a p : ℕ) (n r : List ℕ) → IsName n → (x : Step (List ℕ)) × (text a p (write_text n r) ≡ accept x) × (x.left ≡ r)
unfolding text
text-is a p [] r h = (record { value = []; place = p + 1; left = r }, refl, refl)
text-is a p (zero ∷ n) r h = absurd (omega (arith, h.0))
text-is a p (suc c ∷ n) r h = let x = text-is a (p + 1) n r h.1 in (record { value = suc c ∷ x.0.value; place = x.0.place; left = x.0.left }, rw x.1, x.2)

-- a text and words: the same words, and L of what is behind them
module _ (L : List ℕ → List ℕ → Type 0) where
  abbrev pub Named : Step (Name × List ℕ) → Step (Name × List ℕ) → Type 0
  Named x y = (x.value.1 ≡ y.value.1) × L x.left y.left

  -- behind the texts they begin alike
  abbrev Begin : ℕ → Step (List ℕ) → Step (List ℕ) → Type 0
  Begin n x y = (take (4 * n) x.left ≡ take (4 * n) y.left) × L (drop (4 * n) x.left) (drop (4 * n) y.left)

  named-follow : (rs : List Rule) (p q : ℕ) (s v : List ℕ) → Follows (Begin (length rs)) (text p p s) (text q q v) → Follows Named (named rs p s) (named rs q v)
  unfolding named
  named-follow rs p q s v h =
      follow_bind (Begin (length rs)) Named (text p p s) (text q q v) _ _ h (λ n m b.
      follow_bind (Behind (length rs) n.left m.left) Named (words p (length rs) n.place n.left) (words q (length rs) m.place m.left) _ _
      (words-follow p q (length rs) n.place m.place n.left m.left b.0) (λ x y c.
      judged-follow Named rs n.place m.place x.value y.value _ _ c.value (c.value, rw (c.here, c.there) b.1)))

  pub named_twice : (rs : List Rule) (p q : ℕ) (s : List ℕ) → ((z : List ℕ) → L z z) → Follows Named (named rs p s) (named rs q s)
  named_twice rs p q s r =
      named-follow rs p q s s (follow-map (Beside itself ◌≡◌) (Begin (length rs))
      (λ x y h. (ap (take (4 * length rs)) h.1, subst (λ (z : List ℕ). L (drop (4 * length rs) x.left) (drop (4 * length rs) z)) h.1 (r (drop (4 * length rs) x.left)))) (text_twice p q p q s))

  -- under two names
  pub named_two : (rs : List Rule) (p q : ℕ) (n m w r k : List ℕ) → IsName n → IsName m → length w ≡ 4 * length rs → L r k
      → Follows Named (named rs p (write_text n (w ++ r))) (named rs q (write_text m (w ++ k)))
  named_two rs p q n m w r k hn hm lw h =
      let i = text-is p p n (w ++ r) hn in
      let j = text-is q q m (w ++ k) hm in
      named-follow rs p q (write_text n (w ++ r)) (write_text m (w ++ k)) (follow-same (Begin (length rs)) i.1 j.1 (follow_got (Begin (length rs)) i.0 j.0
      (rw (i.2, j.2, take_at w r (4 * length rs) lw, take_at w k (4 * length rs) lw, drop_at w r (4 * length rs) lw, drop_at w k (4 * length rs) lw) (refl, h))))

-- ---- items

module _ {A B : Type 0} (g : A → B) (read : ℕ → List ℕ → Result (Step A)) where
  abbrev pub Lists : List A → List A → Type 0
  Lists l m = map g l ≡ map g m

  -- an item, then the others
  step-follow : (L : List ℕ → List ℕ → Type 0) (others : ℕ → List ℕ → Result (List A)) (p q : ℕ) (s v : List ℕ) → Follows (Beside g L) (read p s) (read q v)
      → ((i j : ℕ) (a b : List ℕ) → L a b → Follows Lists (others i a) (others j b))
      → Follows Lists (read p s >>= λ x. others x.place x.left >>= λ l. accept (x.value ∷ l)) (read q v >>= λ x. others x.place x.left >>= λ l. accept (x.value ∷ l))
  step-follow L others p q s v one rest =
      follow_bind (Beside g L) Lists (read p s) (read q v) _ _ one (λ x y e.
      follow_bind Lists Lists (others x.place x.left) (others y.place y.left) _ _ (rest x.place y.place x.left y.left e.1) (λ l m k.
      follow_got Lists _ _ (ap₂ ◌∷◌ e.0 k)))

  -- the same stretch at two places
  module _ (one : (p q : ℕ) (s : List ℕ) → Follows (Beside g ◌≡◌) (read p s) (read q s)) where
    in_twice : (f p q : ℕ) (s : List ℕ) → Follows Lists (items_in f read p s) (items_in f read q s)
    unfolding items_in
    in_twice zero p q [] = follow_got Lists _ _ refl
    in_twice (suc f) p q [] = follow_got Lists _ _ refl
    in_twice zero p q (c ∷ s) = λ x e. bad_got e
    in_twice (suc f) p q (c ∷ s) =
        step-follow ◌≡◌ (items_in f read) p q (c ∷ s) (c ∷ s) (one p q (c ∷ s)) (λ i j a b k. subst (λ (z : List ℕ). Follows Lists (items_in f read i a) (items_in f read j z)) k (in_twice f i j a))

    pub items_twice : (p q : ℕ) (s : List ℕ) → Follows Lists (items read p s) (items read q s)
    unfolding items
    items_twice p q s = in_twice (length s) p q s

  -- an item under a name, and the items r and k behind it
  pub items_two : Shrinks read → (n m w r k : List ℕ) (p q : ℕ)
      → Follows (Beside g (λ (a b : List ℕ). (a ≡ r) × (b ≡ k))) (read p (write_text n (w ++ r))) (read q (write_text m (w ++ k)))
      → ((i j : ℕ) → Follows Lists (items read i r) (items read j k)) → Follows Lists (items read p (write_text n (w ++ r))) (items read q (write_text m (w ++ k)))
  items_two less n m w r k p q one rest =
      follow-same Lists (items-step read less p (write_text n (w ++ r)) (omega (arith, length-text n (w ++ r)))) (items-step read less q (write_text m (w ++ k)) (omega (arith, length-text m (w ++ k))))
      (step-follow (λ (a b : List ℕ). (a ≡ r) × (b ≡ k)) (items read) p q _ _ one (λ i j a b t. rw (t.0, t.1) (rest i j)))
