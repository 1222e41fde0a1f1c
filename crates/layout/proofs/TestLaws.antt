-- Tests and what they say: a test that holds just where a statement does, both directions in one term.
use mathlib.Core.Path.{◌≡◌, refl}
use mathlib.Core.Logic.{◌⊎◌, inl, inr}
use Prim.Native.Nat.{ℕ, ◌<◌, ◌≤◌}
use mathlib.Core.Bool.{Bool, true, false, ◌&&◌, ◌||◌}
use mathlib.Core.List.{List, [], ◌∷◌}
use lib.Dec.{T, leb, ltb, eqb, leb→le, le→leb, ltb→lt, lt→ltb, eqb→eq}
use mir.Facts.{and_yes, yes_and, yes_eqb}
use Rattle.layout.specs.WellFormed.{all}
use Rattle.layout.proofs.AllLaws.{All}

-- a test that holds just where a statement does
pub record Tests (b : Bool) (P : Type 0) : Type 0 where
  pub says : T b → P
  pub holds : P → T b

pub both : {P Q : Type 0} {a b : Bool} → Tests a P → Tests b Q → Tests (a && b) (P × Q)
both {a = a} {b = b} f g = record { says = λ h. let (x, y) = and_yes a b h in (f.says x, g.says y); holds = λ h. yes_and a b (f.holds h.0) (g.holds h.1) }

pub either : {P Q : Type 0} {a b : Bool} → Tests a P → Tests b Q → Tests (a || b) (P ⊎ Q)
either {a = true} {b = b} f g = record { says = λ h. inl (f.says tt); holds = λ h. tt }
either {a = false} {b = b} f g = record { says = λ h. inr (g.says h); holds = λ h. elim h [ inl p ↦ absurd (f.holds p) | inr q ↦ g.holds q ] }

-- the same of another statement
pub via : {b : Bool} {P Q : Type 0} → (P → Q) → (Q → P) → Tests b P → Tests b Q
via to from t = record { says = λ h. to (t.says h); holds = λ h. t.holds (from h) }

pub bool_is : (b : Bool) → Tests b (T b)
bool_is b = record { says = λ h. h; holds = λ h. h }

pub le_is : (a b : ℕ) → Tests (leb a b) (a ≤ b)
le_is a b = record { says = leb→le a b; holds = le→leb a b }

pub lt-is : (a b : ℕ) → Tests (ltb a b) (a < b)
lt-is a b = record { says = ltb→lt a b; holds = lt→ltb a b }

pub eq_is : (a b : ℕ) → Tests (eqb a b) (a ≡ b)
eq_is a b = record { says = eqb→eq a b; holds = λ e. yes_eqb e }

pub yes-is : Tests true (Unit {0})
yes-is = record { says = λ h. h; holds = λ h. h }

pub no-is : Tests false ⊥
no-is = record { says = λ h. h; holds = λ h. h }

pub all-is : {A : Type 0} {P : A → Type 0} {f : A → Bool} → ((x : A) → Tests (f x) (P x)) → (xs : List A) → Tests (all f xs) (All P xs)
all-is h [] = yes-is
all-is h (x ∷ xs) = both (h x) (all-is h xs)

-- ---- tests joined

pub and_assoc : (a b c : Bool) → ((a && b) && c) ≡ (a && (b && c))
and_assoc true b c = refl
and_assoc false b c = refl

pub and_true : (a : Bool) → (a && true) ≡ a
and_true true = refl
and_true false = refl

pub and_false : (a : Bool) → (a && false) ≡ false
and_false true = refl
and_false false = refl
