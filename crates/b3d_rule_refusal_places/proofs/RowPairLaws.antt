-- Rows and items read under rules with the look at a float and without it: where the first reading refuses alone, it is at the first float that does not pass.
use mathlib.Core.Logic.{◌⊎◌, inl, inr}
use mathlib.Core.Path.{◌≡◌, refl, ap, sym, subst, ◌∙◌}
use Prim.Native.Nat.{ℕ, zero, suc, ◌+◌, ◌*◌, ◌<◌, ◌≤◌}
use native.Mathlib.Omega.{arith}
use mathlib.Core.Bool.{Bool, true, false}
use mathlib.Core.List.{List, [], ◌∷◌, ◌++◌, map}
use lib.ListN.{length, replicate}
use Rattle.wire.specs.Bytes.{word_at}
use Rattle.layout.specs.Result.{Result, accept, reject, check, ◌>>=◌}
use Rattle.layout.specs.Parts.{judged}
use Rattle.layout.specs.Rules.{Rule, any, up_to, exactly, names, names_or_none, unit, holds}
use Rattle.layout.proofs.HeldLaws.{loose, WordsIn}

-- ---- rules

abbrev pub is_unit : Rule → Bool
is_unit any = false
is_unit (up_to m) = false
is_unit (exactly m) = false
is_unit (names n) = false
is_unit (names_or_none n) = false
is_unit unit = true

-- rule c looks at a float
abbrev pub unit_at : List Rule → ℕ → Bool
unit_at [] c = false
unit_at (r ∷ rs) zero = is_unit r
unit_at (r ∷ rs) (suc c) = unit_at rs c

pub false-true : {A : Type 0} → false ≡ true → A
false-true e = let z : ◌≡◌ {A = ℕ} 0 1 = cc in absurd (omega arith)

-- the rules that do are `colours`, the first of them behind `before` others
pub record Units (rs : List Rule) (before colours : ℕ) : Type 0 where
  pub to : (c : ℕ) → unit_at rs c ≡ true → (i : ℕ) × (i < colours) × (c ≡ before + i)
  pub from : (i : ℕ) → i < colours → unit_at rs (before + i) ≡ true

units_none : (rs : List Rule) → ((c : ℕ) → unit_at rs c ≡ true → ⊥) → (u c : ℕ) → unit_at (replicate u unit ++ rs) c ≡ true → c < u
units_none rs h zero c e = absurd (h c e)
units_none rs h (suc u) zero e = omega arith
units_none rs h (suc u) (suc c) e = let x = units_none rs h u c e in omega arith

units_all : (rs : List Rule) (u c : ℕ) → c < u → unit_at (replicate u unit ++ rs) c ≡ true
units_all rs zero c l = absurd (omega arith)
units_all rs (suc u) zero l = refl
units_all rs (suc u) (suc c) l = units_all rs u c (omega arith)

units_more : (rs : List Rule) (a u : ℕ) → Units rs a u → Units (any ∷ rs) (suc a) u
units_more rs a u h = record { to = to; from = from }
  where
    to : (c : ℕ) → unit_at (any ∷ rs) c ≡ true → (i : ℕ) × (i < u) × (c ≡ suc a + i)
    to zero e = false-true e
    to (suc c) e = let x = h.to c e in (x.0, x.1, omega (arith, x.2))

    from : (i : ℕ) → i < u → unit_at (any ∷ rs) (suc a + i) ≡ true
    from i l = let z : suc (a + i) ≡ suc a + i = omega arith in subst (λ (j : ℕ). unit_at (any ∷ rs) j ≡ true) z (h.from i l)

pub units_run : (a u : ℕ) (rs : List Rule) → ((c : ℕ) → unit_at rs c ≡ true → ⊥) → Units (replicate a any ++ (replicate u unit ++ rs)) a u
units_run zero u rs h = record {
  to = λ c e. (c, units_none rs h u c e, omega arith);
  from = λ i l. let z : i ≡ 0 + i = omega arith in subst (λ (j : ℕ). unit_at (replicate u unit ++ rs) j ≡ true) z (units_all rs u i l);
}
units_run (suc a) u rs h = units_more (replicate a any ++ (replicate u unit ++ rs)) a u (units_run a u rs h)

-- ---- numbers against their rules, from place p of the file s on

module _ (s : List ℕ) where
  abbrev pub NotUnit : ℕ → Type 0
  NotUnit q = holds unit (word_at s q) ≡ false

  -- a float at q that does not pass
  abbrev pub BadFloat : List Rule → ℕ → ℕ → Type 0
  BadFloat rs p q = (c : ℕ) × (unit_at rs c ≡ true) × (q ≡ p + 4 * c) × NotUnit q

  abbrev pub Judged : {A : Type 0} → List Rule → ℕ → Result A → Result A → Type 0
  Judged rs p (accept a) o = (o ≡ accept a) × ((q : ℕ) → BadFloat rs p q → ⊥)
  Judged rs p (reject n q) o =
      ((6 ≤ n) × (n ≤ 7)) × (q < p + 4 * length rs) × ((o ≡ reject n q) ⊎ ((n ≡ 6) × BadFloat rs p q)) × ((j : ℕ) → BadFloat rs p j → ((n ≡ 6) × (q ≡ j)) ⊎ (q < j))

  open_bad : (r : Rule) (rs : List Rule) (p q : ℕ) → BadFloat (r ∷ rs) p q → ((is_unit r ≡ true) × (q ≡ p) × NotUnit q) ⊎ BadFloat rs (p + 4) q
  open_bad r rs p q (zero, e, i, n) = inl (e, omega arith, n)
  open_bad r rs p q (suc c, e, i, n) = inr (c, e, omega arith, n)

  close-bad : (r : Rule) (rs : List Rule) (p q : ℕ) → BadFloat rs (p + 4) q → BadFloat (r ∷ rs) p q
  close-bad r rs p q x = (suc x.0, x.1, omega (arith, x.2), x.3)

  -- behind a number that both readings take
  shift : {A : Type 0} (r : Rule) (rs : List Rule) (p : ℕ) (o o' : Result A) → (is_unit r ≡ true → NotUnit p → ⊥) → Judged rs (p + 4) o o' → Judged (r ∷ rs) p o o'
  shift r rs p (accept a) o' ok h = (h.0, λ q x. elim (open_bad r rs p q x) [ inl y ↦ ok y.0 (subst NotUnit y.1 y.2) | inr y ↦ h.1 q y ])
  shift r rs p (reject n q) o' ok h = (
    h.0,
    omega (arith, h.1),
    elim h.2 [ inl x ↦ inl x | inr x ↦ inr (x.0, close-bad r rs p q x.1) ],
    λ j x. elim (open_bad r rs p j x) [ inl y ↦ absurd (ok y.0 (subst NotUnit y.1 y.2)) | inr y ↦ h.3 j y ],
  )

  -- at one that both refuse
  both : {A : Type 0} (r : Rule) (rs : List Rule) (p n : ℕ) → 6 ≤ n → n ≤ 7 → is_unit r ≡ false → Judged {A = A} (r ∷ rs) p (reject n p) (reject n p)
  both r rs p n a b f = (
    (a, b),
    omega arith,
    inl refl,
    λ j x. elim (open_bad r rs p j x) [ inl y ↦ false-true (sym f ∙ y.0) | inr y ↦ inr (omega (arith, y.2)) ],
  )

  plain : {A : Type 0} (r : Rule) (rs : List Rule) (p : ℕ) (t : Bool) (n : ℕ) (o o' : Result A) → 6 ≤ n → n ≤ 7 → is_unit r ≡ false → Judged rs (p + 4) o o'
      → Judged (r ∷ rs) p (check t n p >>= λ _. o) (check t n p >>= λ _. o')
  unfolding check
  plain r rs p true n o o' a b f h = shift r rs p o o' (λ e _. false-true (sym f ∙ e)) h
  plain r rs p false n o o' a b f h = both r rs p n a b f

  float : {A : Type 0} (rs : List Rule) (p : ℕ) (t : Bool) (o o' : Result A) → holds unit (word_at s p) ≡ t → Judged rs (p + 4) o o' → Judged (unit ∷ rs) p (check t 6 p >>= λ _. o) (check true 6 p >>= λ _. o')
  unfolding check
  float rs p true o o' e h = shift unit rs p o o' (λ _ n. false-true (sym n ∙ e)) h
  float rs p false o o' e h = (
    (omega arith, omega arith),
    omega arith,
    inr (refl, (0, refl, omega arith, e)),
    λ j x. elim (open_bad unit rs p j x) [ inl y ↦ inl (refl, sym y.1) | inr y ↦ inr (omega (arith, y.2)) ],
  )

  pub judged_pair : {A : Type 0} (rs : List Rule) (p : ℕ) (ws : List ℕ) (a : A) → length ws ≡ length rs → WordsIn s p ws → Judged rs p (judged rs p ws a) (judged (map loose rs) p ws a)
  unfolding judged
  judged_pair [] p ws a l i = (refl, λ q x. false-true x.1)
  judged_pair (r ∷ rs) p [] a l i = absurd (omega arith)
  judged_pair (any ∷ rs) p (w ∷ ws) a l i = plain any rs p true 6 _ _ (omega arith) (omega arith) refl (judged_pair rs (p + 4) ws a (omega arith) i.1)
  judged_pair (up_to m ∷ rs) p (w ∷ ws) a l i = plain (up_to m) rs p (holds (up_to m) w) 6 _ _ (omega arith) (omega arith) refl (judged_pair rs (p + 4) ws a (omega arith) i.1)
  judged_pair (exactly m ∷ rs) p (w ∷ ws) a l i = plain (exactly m) rs p (holds (exactly m) w) 6 _ _ (omega arith) (omega arith) refl (judged_pair rs (p + 4) ws a (omega arith) i.1)
  judged_pair (names n ∷ rs) p (w ∷ ws) a l i = plain (names n) rs p (holds (names n) w) 7 _ _ (omega arith) (omega arith) refl (judged_pair rs (p + 4) ws a (omega arith) i.1)
  judged_pair (names_or_none n ∷ rs) p (w ∷ ws) a l i = plain (names_or_none n) rs p (holds (names_or_none n) w) 7 _ _ (omega arith) (omega arith) refl (judged_pair rs (p + 4) ws a (omega arith) i.1)
  judged_pair (unit ∷ rs) p (w ∷ ws) a l i = float rs p (holds unit w) _ _ (ap (holds unit) i.0) (judged_pair rs (p + 4) ws a (omega arith) i.1)
