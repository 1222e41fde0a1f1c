-- The laws of edits: one after the other; those that make nothing longer; those that change nothing.
use mathlib.Core.Path.{◌≡◌, refl, ap, ap₂, sym, ◌∙◌}
use mathlib.Core.Logic.{◌⊎◌, inl, inr}
use Prim.Native.Nat.{ℕ, ◌+◌, ◌≤◌}
use native.Mathlib.Omega.{arith}
use mathlib.Core.List.{List, [], ◌∷◌, ◌++◌, append_assoc}
use lib.ListN.{length, length-append}
use Rattle.wire.specs.Bytes.{bytes}
use Rattle.layout.specs.Rules.{NONE}
use Rattle.layout.proofs.AllLaws.{All}
use Rattle.b3d_mend_spec.specs.Edits.{Edit, keep, follow, mend, was, becomes, before, after, id_set, item_out, spare_out}
use Rattle.b3d_mend_spec.specs.Four.{OfFour}
use Rattle.b3d_mend_spec.specs.Report.{entries}

pub before-append : (x y : List Edit) → before (x ++ y) ≡ before x ++ before y
unfolding before
before-append [] y = refl
before-append (e ∷ x) y = ap (λ (r : List ℕ). was e ++ r) (before-append x y) ∙ sym (append_assoc (was e) (before x) (before y))

pub after-append : (x y : List Edit) → after (x ++ y) ≡ after x ++ after y
unfolding after
after-append [] y = refl
after-append (e ∷ x) y = ap (λ (r : List ℕ). becomes e ++ r) (after-append x y) ∙ sym (append_assoc (becomes e) (after x) (after y))

-- ---- nothing longer, and each mend one of the four

pub record Small (e : Edit) : Type 0 where
  pub less : length (becomes e) ≤ length (was e)
  pub four : OfFour e

pub keep-small : (b : List ℕ) → Small (keep b)
unfolding was becomes
keep-small b = record { less = omega arith; four = tt }

pub follow-small : (n m : ℕ) → Small (follow n m)
unfolding was becomes
follow-small n m = record { less = omega arith; four = tt }

pub length-small : (n m : ℕ) → Small (mend 1 (bytes n []) (bytes m []))
unfolding was becomes
length-small n m = record { less = omega arith; four = inl (refl, refl, (m, refl)) }

pub id-small : (w : ℕ) → Small (id_set w NONE)
unfolding was becomes
id-small w = record { less = omega arith; four = inr (inl (refl, refl, refl)) }

pub item-small : (b : List ℕ) → (length b ≡ 12) ⊎ (length b ≡ 8) → Small (item_out b)
unfolding was becomes
item-small b h = record { less = omega arith; four = inr (inr (inl (refl, h, refl))) }

pub spare-small : (b : List ℕ) → 1 ≤ length b → length b ≤ 7 → Small (spare_out b)
unfolding was becomes
spare-small b h i = record { less = omega arith; four = inr (inr (inr (refl, h, i, refl))) }

pub after_less : (x : List Edit) → All Small x → length (after x) ≤ length (before x)
unfolding before after
after_less [] h = omega arith
after_less (e ∷ x) h = omega (arith, h.0.less, after_less x h.1, length-append (becomes e) (after x), length-append (was e) (before x))

-- ---- nothing changed

pub record Quiet (e : Edit) : Type 0 where
  pub same : becomes e ≡ was e
  pub unsaid : (p : ℕ) (l : List Edit) → entries p (e ∷ l) ≡ entries (p + length (was e)) l

pub keep_quiet : (b : List ℕ) → Quiet (keep b)
unfolding was becomes entries
keep_quiet b = record { same = refl; unsaid = λ p l. refl }

pub follow_quiet : (n m : ℕ) → n ≡ m → Quiet (follow n m)
unfolding was becomes entries
follow_quiet n m e = record { same = ap (λ (k : ℕ). bytes k []) (sym e); unsaid = λ p l. refl }

pub quiet_same : (x : List Edit) → All Quiet x → after x ≡ before x
unfolding before after
quiet_same [] h = refl
quiet_same (e ∷ x) h = ap₂ ◌++◌ h.0.same (quiet_same x h.1)

pub quiet_unsaid : (x : List Edit) (p : ℕ) → All Quiet x → entries p x ≡ []
unfolding entries
quiet_unsaid [] p h = refl
quiet_unsaid (e ∷ x) p h = h.0.unsaid p x ∙ quiet_unsaid x (p + length (was e)) h.1
