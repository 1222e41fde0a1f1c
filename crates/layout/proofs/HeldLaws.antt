-- A reading under rules some of which the other leaves out: it gives what the other gives, or it refuses with 6 at a number of the file
-- that is not from 0 to 1, and what the other then gives, if anything, does not pass.
use mathlib.Core.Logic.{◌⊎◌, inl, inr}
use mathlib.Core.Path.{◌≡◌, refl, ap, ap₂, sym, ◌∙◌, subst}
use Prim.Native.Nat.{ℕ, zero, suc, ◌+◌}
use native.Mathlib.Omega.{arith}
use mathlib.Core.Bool.{Bool, true, false, not, ◌&&◌}
use mathlib.Core.List.{List, [], ◌∷◌, ◌++◌, map}
use lib.ListN.{length, take, drop, replicate, get_or, length-map}
use lib.Dec.{T}
use lib.Seq.{get_or-drop}
use Rattle.wire.specs.Bytes.{word, word_at}
use Rattle.layout.specs.Result.{Result, accept, reject, check, ◌>>=◌}
use Rattle.layout.specs.Rules.{Rule, any, up_to, exactly, names, names_or_none, unit, holds}
use Rattle.layout.specs.Parts.{Name, Step, text, words, judged, row, named, items_in, items}
use Rattle.layout.specs.WellFormed.{all}
use Rattle.layout.proofs.ResultLaws.{by_got, bad_got, got_inj}
use Rattle.layout.proofs.PlaceLaws.{At, at-four, text_at}
use Rattle.layout.proofs.StepLaws.{judged_got}
use Rattle.layout.proofs.TestLaws.{and_assoc}

-- ---- rules

-- a rule without the look at a float
abbrev pub loose : Rule → Rule
loose any = any
loose (up_to m) = up_to m
loose (exactly m) = exactly m
loose (names n) = names n
loose (names_or_none n) = names_or_none n
loose unit = any

-- what the looser rule leaves out
abbrev pub strictly : Rule → ℕ → Bool
strictly any w = true
strictly (up_to m) w = true
strictly (exactly m) w = true
strictly (names n) w = true
strictly (names_or_none n) w = true
strictly unit w = holds unit w

abbrev pub passes : List Rule → List ℕ → Bool
passes [] ws = true
passes (r ∷ rs) [] = true
passes (r ∷ rs) (w ∷ ws) = strictly r w && passes rs ws

-- ---- what passes, of rules in runs

pub passes_none : (rs : List Rule) → passes rs [] ≡ true
passes_none [] = refl
passes_none (r ∷ rs) = refl

pub passes-any : (n : ℕ) (rs : List Rule) (ws : List ℕ) → passes (replicate n any ++ rs) ws ≡ passes rs (drop n ws)
passes-any zero rs ws = refl
passes-any (suc n) rs [] = sym (passes_none rs)
passes-any (suc n) rs (w ∷ ws) = passes-any n rs ws

pub passes-unit : (n : ℕ) (rs : List Rule) (ws : List ℕ) → passes (replicate n unit ++ rs) ws ≡ (all (holds unit) (take n ws) && passes rs (drop n ws))
passes-unit zero rs ws = refl
passes-unit (suc n) rs [] = sym (passes_none rs)
passes-unit (suc n) rs (w ∷ ws) =
    ap (λ (b : Bool). holds unit w && b) (passes-unit n rs ws) ∙ sym (and_assoc (holds unit w) (all (holds unit) (take n ws)) (passes rs (drop n ws)))

-- ---- words

pub words_count : (start n p : ℕ) (s : List ℕ) (x : Step (List ℕ)) → words start n p s ≡ accept x → length x.value ≡ n
unfolding words
words_count start zero p s x e = sym (ap (λ (v : Step (List ℕ)). length v.value) (got_inj e))
words_count start (suc n) p [] x e = bad_got e
words_count start (suc n) p (a ∷ []) x e = bad_got e
words_count start (suc n) p (a ∷ b ∷ []) x e = bad_got e
words_count start (suc n) p (a ∷ b ∷ c ∷ []) x e = bad_got e
words_count start (suc n) p (a ∷ b ∷ c ∷ d ∷ s) x e =
    by_got (words start n (p + 4) s) _ e (λ y ey e₁.
    sym (ap (λ (v : Step (List ℕ)). length v.value) (got_inj e₁)) ∙ ap suc (words_count start n (p + 4) s y ey))

-- a test of words that says what the rules say of so many
abbrev pub Says : List Rule → (List ℕ → Bool) → Type 0
Says rs P = (ws : List ℕ) → length ws ≡ length rs → P ws ≡ passes rs ws

-- ---- two readings of the same bytes

module _ (file : List ℕ) where
  -- refused with 6, at a number that is not from 0 to 1
  abbrev pub Outside : ℕ → ℕ → Type 0
  Outside n p = (n ≡ 6) × (holds unit (word_at file p) ≡ false)

  -- the strict one, then the other; P: what passes
  abbrev pub Held : {A : Type 0} → (A → Bool) → Result A → Result A → Type 0
  Held P (accept a) (accept b) = (a ≡ b) × (P b ≡ true)
  Held P (accept a) (reject n p) = ⊥
  Held P (reject n p) (accept b) = Outside n p × (P b ≡ false)
  Held P (reject n p) (reject m q) = ((n ≡ m) × (p ≡ q)) ⊎ Outside n p

  stopped : {A : Type 0} (P : A → Bool) (n p : ℕ) (o : Result A) → Outside n p → ((a : A) → o ≡ accept a → P a ≡ false) → Held P (reject n p) o
  stopped P n p (accept a) e f = (e, f a refl)
  stopped P n p (reject i q) e f = inr e

  -- one reading beside itself
  pub same-held : {A : Type 0} (P : A → Bool) (o : Result A) → ((a : A) → o ≡ accept a → P a ≡ true) → Held P o o
  same-held P (accept a) f = (refl, f a refl)
  same-held P (reject n p) f = inl (refl, refl)

  -- what passes, said otherwise
  pub held-as : {A : Type 0} (P Q : A → Bool) (o o' : Result A) → ((a : A) → o' ≡ accept a → Q a ≡ P a) → Held P o o' → Held Q o o'
  held-as P Q (accept a) (accept b) f h = (h.0, f b refl ∙ h.1)
  held-as P Q (accept a) (reject n p) f h = absurd h
  held-as P Q (reject n p) (accept b) f h = (h.0, f b refl ∙ h.1)
  held-as P Q (reject n p) (reject m q) f h = h

  module _ {A B : Type 0} where
    -- a step that both take, then one each
    pub first-held : (R : B → Bool) (m : Result A) (k k' : A → Result B) → ((a : A) → m ≡ accept a → Held R (k a) (k' a)) → Held R (m >>= k) (m >>= k')
    first-held R (accept a) k k' f = f a refl
    first-held R (reject n p) k k' f = inl (refl, refl)

    -- one step each, then one each: the first passes, or nothing that comes of it does
    pub bind_held : (P : A → Bool) (R : B → Bool) (m m' : Result A) (k k' : A → Result B) → Held P m m'
        → ((a : A) → m' ≡ accept a → P a ≡ true → Held R (k a) (k' a))
        → ((a : A) (b : B) → P a ≡ false → k' a ≡ accept b → R b ≡ false) → Held R (m >>= k) (m' >>= k')
    bind_held P R (accept a) (accept b) k k' h go fails = subst (λ (x : A). Held R (k x) (k' b)) (sym h.0) (go b refl h.1)
    bind_held P R (accept a) (reject n p) k k' h go fails = absurd h
    bind_held P R (reject n p) (accept b) k k' h go fails = stopped R n p (k' b) h.0 (λ c e. fails b c h.1 e)
    bind_held P R (reject n p) (reject i q) k k' h go fails = h

    -- one step each, then one that both take and that keeps what passes
    pub then-held : (P : A → Bool) (R : B → Bool) (m m' : Result A) (k : A → Result B) → Held P m m'
        → ((a : A) (b : B) → k a ≡ accept b → R b ≡ P a) → Held R (m >>= k) (m' >>= k)
    then-held P R m m' k h keeps =
        bind_held P R m m' k k h (λ a e t. same-held R (k a) (λ b eb. keeps a b eb ∙ t)) (λ a b n e. keeps a b e ∙ n)

    pub map-held : (P : A → Bool) (R : B → Bool) (f : A → B) (m m' : Result A) → Held P m m' → ((a : A) → R (f a) ≡ P a)
        → Held R (m >>= λ a. accept (f a)) (m' >>= λ a. accept (f a))
    map-held P R f m m' h keeps = then-held P R m m' (λ a. accept (f a)) h (λ a b e. ap R (sym (got_inj e)) ∙ keeps a)

  -- ---- rules

  unit-held : {A : Type 0} (b c : Bool) (p : ℕ) (m m' : Result A) → holds unit (word_at file p) ≡ b → Held (λ _. c) m m' → Held (λ _. b && c) (check b 6 p >>= λ _. m) m'
  unfolding check
  unit-held true c p m m' w h = h
  unit-held false c p m m' w h = stopped (λ _. false) 6 p m' (refl, w) (λ a e. refl)

  -- words stand in the file from a place on
  abbrev pub WordsIn : ℕ → List ℕ → Type 0
  WordsIn p [] = Unit {0}
  WordsIn p (w ∷ ws) = (word_at file p ≡ w) × WordsIn (p + 4) ws

  pub word_in : (p a b c d : ℕ) (r : List ℕ) → At file p (a ∷ b ∷ c ∷ d ∷ r) → word_at file p ≡ word a b c d
  unfolding word_at
  word_in p a b c d r h =
      let byte : (i : ℕ) → get_or file (p + i) 0 ≡ get_or (a ∷ b ∷ c ∷ d ∷ r ++ h.after) i 0 = λ i. sym (get_or-drop p file i 0) ∙ ap (λ (l : List ℕ). get_or l i 0) h.stands in
      let z : p ≡ p + 0 = omega arith in
      rw (byte 1, byte 2, byte 3, z, byte 0)

  pub words-in : (start n p : ℕ) (b : List ℕ) (x : Step (List ℕ)) → At file p b → words start n p b ≡ accept x → WordsIn p x.value
  unfolding words
  words-in start zero p b x h e = subst (λ (y : Step (List ℕ)). WordsIn p y.value) (got_inj e) tt
  words-in start (suc n) p [] x h e = bad_got e
  words-in start (suc n) p (a ∷ []) x h e = bad_got e
  words-in start (suc n) p (a ∷ b ∷ []) x h e = bad_got e
  words-in start (suc n) p (a ∷ b ∷ c ∷ []) x h e = bad_got e
  words-in start (suc n) p (a ∷ b ∷ c ∷ d ∷ r) x h e =
      by_got (words start n (p + 4) r) _ e (λ y ey e₁.
      subst (λ (z : Step (List ℕ)). WordsIn p z.value) (got_inj e₁) (word_in p a b c d r h, words-in start n (p + 4) r y (at-four file p a b c d r h) ey))

  judged-held : {A : Type 0} (rs : List Rule) (p : ℕ) (ws : List ℕ) (a : A) → WordsIn p ws → Held (λ _. passes rs ws) (judged rs p ws a) (judged (map loose rs) p ws a)
  unfolding judged check
  judged-held [] p ws a i = (refl, refl)
  judged-held (r ∷ rs) p [] a i = (refl, refl)
  judged-held (any ∷ rs) p (w ∷ ws) a i = judged-held rs (p + 4) ws a i.1
  judged-held (up_to m ∷ rs) p (w ∷ ws) a i = first-held _ (check (holds (up_to m) w) 6 p) _ _ (λ _ e. judged-held rs (p + 4) ws a i.1)
  judged-held (exactly m ∷ rs) p (w ∷ ws) a i = first-held _ (check (holds (exactly m) w) 6 p) _ _ (λ _ e. judged-held rs (p + 4) ws a i.1)
  judged-held (names n ∷ rs) p (w ∷ ws) a i = first-held _ (check (holds (names n) w) 7 p) _ _ (λ _ e. judged-held rs (p + 4) ws a i.1)
  judged-held (names_or_none n ∷ rs) p (w ∷ ws) a i = first-held _ (check (holds (names_or_none n) w) 7 p) _ _ (λ _ e. judged-held rs (p + 4) ws a i.1)
  judged-held (unit ∷ rs) p (w ∷ ws) a i = unit-held (holds unit w) (passes rs ws) p _ _ (ap (holds unit) i.0) (judged-held rs (p + 4) ws a i.1)

  -- ---- rows and items

  module _ (rs : List Rule) (P : List ℕ → Bool) (says : Says rs P) where
    pub row-held : (p : ℕ) (s : List ℕ) → At file p s → Held (λ x. P x.value) (row rs p s) (row (map loose rs) p s)
    unfolding row
    row-held p s at =
        rw (length-map rs loose)
        (first-held _ (words p (length rs) p s) _ _ (λ x e.
        held-as _ _ (judged rs p x.value x) (judged (map loose rs) p x.value x)
        (λ y ey. ap (λ (v : Step (List ℕ)). P v.value) (sym (judged_got (map loose rs) p x.value x y ey)) ∙ says x.value (words_count p (length rs) p s x e))
        (judged-held rs p x.value x (words-in p (length rs) p s x at e))))

    pub named-held : (p : ℕ) (s : List ℕ) → At file p s → Held (λ x. P x.value.1) (named rs p s) (named (map loose rs) p s)
    unfolding named
    named-held p s at =
        rw (length-map rs loose)
        (first-held _ (text p p s) _ _ (λ n en.
        first-held _ (words p (length rs) n.place n.left) _ _ (λ x e.
        let y : Step (Name × List ℕ) = record { value = (record { place = p; bytes = n.value }, x.value); place = x.place; left = x.left } in
        held-as _ _ (judged rs n.place x.value y) (judged (map loose rs) n.place x.value y)
        (λ z ez. ap (λ (v : Step (Name × List ℕ)). P v.value.1) (sym (judged_got (map loose rs) n.place x.value y z ez)) ∙ says x.value (words_count p (length rs) n.place n.left x e))
        (judged-held rs n.place x.value y (words-in p (length rs) n.place n.left x (text_at file p p s n at en).0 e)))))

  module _ {A : Type 0} (P : A → Bool) (one other : ℕ → List ℕ → Result (Step A)) (held : (p : ℕ) (s : List ℕ) → At file p s → Held (λ x. P x.value) (one p s) (other p s))
      (stays : (p : ℕ) (s : List ℕ) (x : Step A) → At file p s → other p s ≡ accept x → At file x.place x.left) where
    in_held : (f p : ℕ) (s : List ℕ) → At file p s → Held (all P) (items_in f one p s) (items_in f other p s)
    unfolding items_in
    in_held zero p [] at = (refl, refl)
    in_held zero p (c ∷ s) at = inl (refl, refl)
    in_held (suc f) p [] at = (refl, refl)
    in_held (suc f) p (c ∷ s) at =
        bind_held _ (all P) (one p (c ∷ s)) (other p (c ∷ s)) _ _ (held p (c ∷ s) at)
        (λ x e t. map-held (all P) (all P) (λ l. x.value ∷ l) (items_in f one x.place x.left) (items_in f other x.place x.left) (in_held f x.place x.left (stays p (c ∷ s) x at e)) (λ l. rw t))
        (λ x b n e. by_got (items_in f other x.place x.left) _ e (λ l el e₁. subst (λ (v : List A). all P v ≡ false) (got_inj e₁) (rw n)))

    pub items-held : (p : ℕ) (s : List ℕ) → At file p s → Held (all P) (items one p s) (items other p s)
    unfolding items
    items-held p s at = in_held (length s) p s at

  -- ---- what it says

  module _ {A : Type 0} (P : A → Bool) where
    -- the strict one gives nothing else than the other, and only what passes
    pub held_got : (o o' : Result A) (a : A) → Held P o o' → o ≡ accept a → (o' ≡ accept a) × T (P a)
    held_got (accept b) (accept c) a h e =
        let q : c ≡ a = sym h.0 ∙ got_inj e in
        (ap accept q, subst (λ (x : A). T (P x)) q (subst T (sym h.1) tt))
    held_got (accept b) (reject n p) a h e = absurd h
    held_got (reject n p) o' a h e = bad_got e

    -- and all that passes
    pub held-yes : (o o' : Result A) (a : A) → Held P o o' → o' ≡ accept a → T (P a) → o ≡ accept a
    held-yes (accept b) (accept c) a h e t = ap accept (h.0 ∙ got_inj e)
    held-yes (accept b) (reject n p) a h e t = absurd h
    held-yes (reject n p) (accept c) a h e t = absurd (subst T h.1 (subst (λ (x : A). T (P x)) (sym (got_inj e)) t))
    held-yes (reject n p) (reject m q) a h e t = bad_got e

    -- what does not pass is refused with 6
    pub held-no : (o o' : Result A) (a : A) → Held P o o' → o' ≡ accept a → T (not (P a)) → (p : ℕ) × (o ≡ reject 6 p) × (holds unit (word_at file p) ≡ false)
    held-no (accept b) (accept c) a h e t = absurd (subst (λ (x : Bool). T (not x)) (ap P (sym (got_inj e)) ∙ h.1) t)
    held-no (accept b) (reject n p) a h e t = absurd h
    held-no (reject n p) (accept c) a h e t = (p, ap (λ (i : ℕ). reject i p) h.0.0, h.0.1)
    held-no (reject n p) (reject m q) a h e t = bad_got e

    -- another refusal is the other's too
    pub held-bad : (o o' : Result A) (n p : ℕ) → Held P o o' → o ≡ reject n p → (o' ≡ reject n p) ⊎ Outside n p
    held-bad (accept b) o' n p h e = bad_got (sym e)
    held-bad (reject i q) (accept c) n p h e = let z : i ≡ n = cc in
        let y : q ≡ p = cc in
        inr (subst (λ (j : ℕ). Outside j p) z (subst (λ (r : ℕ). Outside i r) y h.0))
    held-bad (reject i q) (reject j r) n p h e =
        let z : i ≡ n = cc in
        let y : q ≡ p = cc in
        elim h [ inl x ↦ inl (ap₂ reject (sym x.0 ∙ z) (sym x.1 ∙ y)) | inr x ↦ inr (subst (λ (j : ℕ). Outside j p) z (subst (λ (k : ℕ). Outside i k) y x)) ]
