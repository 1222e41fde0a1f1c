-- Parents that end: step by step, and that as many steps as there are bones are enough.
use Prim.Native.Nat.{ℕ, zero, suc, ◌+◌, ◌-◌, ◌<◌, ◌≤◌}
use native.Mathlib.Omega.{arith}
use mathlib.Core.Bool.{Bool, true, false}
use mathlib.Core.Logic.{inl, inr}
use mathlib.Core.Path.{◌≡◌, refl, sym, ◌∙◌}
use mathlib.Core.List.{List, [], ◌∷◌}
use lib.ListN.{length, get_or, set, replicate, length-set, length-replicate}
use lib.Seq.{get_or-set_same, get_or-set_other}
use lib.Dec.{eqb, eqb→eq}
use borrow.Author.Tests.{eq-eqb, ne_eqb}
use Rattle.wire.specs.Test.{if}
use Rattle.layout.specs.Rules.{NONE}
use Rattle.cal3d_spec.specs.Trees.{ends}
use Rattle.cal3d_skeleton_tree_check.specs.Scores.{ParentsValid}

-- both cases of an equation between numbers
pub by-eq {ℓ} : {P : Type ℓ} (a b : ℕ) → (a ≡ b → P) → ((a ≡ b → ⊥) → P) → P
by-eq {P = P} a b f g = go (eqb a b) refl
  where
    go : (t : Bool) → eqb a b ≡ t → P
    go true e = f (eqb→eq a b (rw e tt))
    go false e = g (λ h. let z : true ≡ false = sym (eq-eqb a b h) ∙ e in let w : ◌≡◌ {A = ℕ} 0 1 = cc in omega arith)

no_true : {A : Type 0} → false ≡ true → A
no_true e = let w : ◌≡◌ {A = ℕ} 0 1 = cc in absurd (omega arith)

module _ (ps : List ℕ) where
  pub ends-root : (n b : ℕ) → get_or ps b 0 ≡ NONE → ends ps (suc n) b ≡ true
  unfolding ends
  ends-root n b e = rw (eq-eqb (get_or ps b 0) NONE e)

  pub ends_up : (n b : ℕ) → (get_or ps b 0 ≡ NONE → ⊥) → ends ps (suc n) b ≡ ends ps n (get_or ps b 0)
  unfolding ends
  ends_up n b e = rw (ne_eqb (get_or ps b 0) NONE e)

  pub ends_none : (b : ℕ) → ends ps 0 b ≡ false
  unfolding ends
  ends_none b = refl

  pub ends_more : (n b : ℕ) → ends ps n b ≡ true → ends ps (suc n) b ≡ true
  ends_more zero b h = no_true (sym (ends_none b) ∙ h)
  ends_more (suc n) b h =
      by-eq (get_or ps b 0) NONE
      (λ e. ends-root (suc n) b e)
      (λ e. ends_up (suc n) b e ∙ ends_more n (get_or ps b 0) (sym (ends_up n b e) ∙ h))

  ends-add : (k n b : ℕ) → ends ps n b ≡ true → ends ps (n + k) b ≡ true
  ends-add zero n b h = let e : n + 0 ≡ n = omega arith in rw e h
  ends-add (suc k) n b h = let e : n + suc k ≡ suc (n + k) = omega arith in rw e (ends_more (n + k) b (ends-add k n b h))

  pub ends-le : (m n b : ℕ) → m ≤ n → ends ps m b ≡ true → ends ps n b ≡ true
  ends-le m n b h e = let q : m + (n - m) ≡ n = omega arith in rw q at (ends-add (n - m) m b e)

-- ---- as many steps as bones are enough

-- how many are marked
unfoldable ones : List ℕ → ℕ
ones [] = 0
ones (x ∷ l) = if (eqb x 1) 1 0 + ones l

at_most_one : (t : Bool) → if t 1 0 ≤ 1
unfolding if
at_most_one true = omega arith
at_most_one false = omega arith

ones-few : (l : List ℕ) → ones l ≤ length l
unfolding ones
ones-few [] = omega arith
ones-few (x ∷ l) = omega (arith, ones-few l, at_most_one (eqb x 1))

ones-set : (l : List ℕ) (i : ℕ) → i < length l → (get_or l i 0 ≡ 1 → ⊥) → ones (set l i 1) ≡ suc (ones l)
unfolding ones if
ones-set [] i h n = absurd (omega arith)
ones-set (x ∷ l) zero h n = let e = ne_eqb x 1 n in rw e (omega arith)
ones-set (x ∷ l) (suc i) h n = let e = ones-set l i (omega arith) n in rw e (omega arith)

module _ (ps : List ℕ) where
  -- the parents of each marked bone end after no more steps than there are marks
  record Enough (m : List ℕ) : Type 0 where
    long : length m ≡ length ps
    each : (i : ℕ) → i < length ps → get_or m i 0 ≡ 1 → ends ps (ones m) i ≡ true

  none-marked : (n i : ℕ) → ◌≡◌ {A = ℕ} (get_or (replicate n 0) i 0) 0
  none-marked zero i = refl
  none-marked (suc n) zero = refl
  none-marked (suc n) (suc i) = none-marked n i

  enough-none : Enough (replicate (length ps) 0)
  enough-none = record {
    long = length-replicate (length ps) 0;
    each = λ i h e. let z : ◌≡◌ {A = ℕ} 0 1 = sym (none-marked (length ps) i) ∙ e in absurd (omega arith);
  }

  enough-one : (m : List ℕ) (b : ℕ) → Enough m → b < length ps → (get_or m b 0 ≡ 1 → ⊥) → ends ps (suc (ones m)) b ≡ true → Enough (set m b 1)
  enough-one m b g h n e =
      let l = g.long in
      let q = ones-set m b (omega arith) n in
      record {
        long = length-set m b 1 ∙ g.long;
        each = λ i k s. by-eq i b
            (λ w. rw (q, w) e)
            (λ w. rw q (ends_more ps (ones m) i (g.each i k (sym (get_or-set_other m b i 1 0 w) ∙ s))));
      }

  -- marks with one for b
  record To (b : ℕ) : Type 0 where
    marks : List ℕ
    enough : Enough marks
    here : get_or marks b 0 ≡ 1

  new : (m : List ℕ) (b : ℕ) → Enough m → b < length ps → (get_or m b 0 ≡ 1 → ⊥) → ends ps (suc (ones m)) b ≡ true → To b
  new m b g h n e = let l = g.long in record { marks = set m b 1; enough = enough-one m b g h n e; here = get_or-set_same m b 1 0 (omega arith) }

  to : ParentsValid ps → (k b : ℕ) (m : List ℕ) → b < length ps → ends ps k b ≡ true → Enough m → To b
  to v zero b m h e g = no_true (sym (ends_none ps b) ∙ e)
  to v (suc k) b m h e g =
      by-eq (get_or m b 0) 1
      (λ w. record { marks = m; enough = g; here = w })
      (λ w. by-eq (get_or ps b 0) NONE
      (λ r. new m b g h w (ends-root ps (ones m) b r))
      (λ r. elim (v.named b h) [
        | inl z ↦ absurd (r z)
        | inr z ↦ let t = to v k (get_or ps b 0) m z (sym (ends_up ps k b r) ∙ e) g in
            by-eq (get_or t.marks b 0) 1
            (λ u. record { marks = t.marks; enough = t.enough; here = u })
            (λ u. new t.marks b t.enough h u (ends_up ps (ones t.marks) b r ∙ t.enough.each (get_or ps b 0) z t.here))
      ]))

  -- parents that end do so after no more steps than there are bones
  pub ends_all : ParentsValid ps → (k b : ℕ) → b < length ps → ends ps k b ≡ true → ends ps (length ps) b ≡ true
  ends_all v k b h e =
      let t = to v k b (replicate (length ps) 0) h e enough-none in
      let f = ones-few t.marks in
      let l = t.enough.long in
      ends-le ps (ones t.marks) (length ps) b (omega arith) (t.enough.each b h t.here)
