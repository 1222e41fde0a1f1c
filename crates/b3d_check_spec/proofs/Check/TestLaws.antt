-- More on tests and what they say.
use mathlib.Core.Path.{◌≡◌, refl, ap₂, sym}
use Prim.Native.Nat.{ℕ, zero, suc}
use native.Mathlib.Nat.{suc_inj, suc-ne-zero}
use mathlib.Core.Bool.{Bool, true, false, not, ◌&&◌}
use mathlib.Core.List.{List, [], ◌∷◌}
use lib.ListN.{length, replicate}
use lib.Dec.{T, eqb}
use mir.Facts.{and_yes, yes_and}
use Rattle.wire.specs.Test.{if}
use Rattle.layout.specs.WellFormed.{all}
use Rattle.layout.proofs.AllLaws.{All, cons_head, cons_tail}
use Rattle.layout.proofs.TestLaws.{Tests, both, via, eq_is}

pub yes-if : {P : Type 0} → P → Tests true P
yes-if p = record { says = λ h. p; holds = λ q. tt }

-- the second where the first holds
pub then : {P Q : Type 0} {a b : Bool} → Tests a P → (P → Tests b Q) → Tests (a && b) (P × Q)
then {a = a} {b = b} f g =
    record {
      says = λ h. let (x, y) = and_yes a b h in (f.says x, (g (f.says x)).says y);
      holds = λ h. yes_and a b (f.holds h.0) ((g h.0).holds h.1);
    }

-- tests that say the same are the same
pub same_test : {P : Type 0} {a b : Bool} → Tests a P → Tests b P → a ≡ b
same_test {a = true} {b = true} f g = refl
same_test {a = true} {b = false} f g = absurd (g.holds (f.says tt))
same_test {a = false} {b = true} f g = absurd (f.holds (g.says tt))
same_test {a = false} {b = false} f g = refl

pub if_and : {A : Type 0} (a b : Bool) (x y : A) → if (a && b) x y ≡ if a (if b x y) y
unfolding if
if_and true b x y = refl
if_and false b x y = refl

-- where each of a list is known to be W
pub all-on : {A : Type 0} {P : A → Type 0} {f : A → Bool} (W : A → Type 0) → ((x : A) → W x → Tests (f x) (P x)) → (xs : List A) → All W xs → Tests (all f xs) (All P xs)
all-on W h [] w = yes-if tt
all-on W h (x ∷ xs) w = both (h x w.0) (all-on W h xs w.1)

-- what holds in both cases of two choices by one test
pub if-both : {A B : Type 0} (P : A → B → Type 0) (c : Bool) (x y : A) (u v : B) → (T c → P x u) → (T (not c) → P y v) → P (if c x y) (if c u v)
unfolding if
if-both P true x y u v f g = f tt
if-both P false x y u v f g = g tt

-- all are v
pub same-is : (v n : ℕ) (z : List ℕ) → length z ≡ n → Tests (all (λ x. eqb x v) z) (replicate n v ≡ z)
same-is v zero [] e = yes-if refl
same-is v zero (x ∷ z) e = absurd (suc-ne-zero (length z) e)
same-is v (suc n) [] e = absurd (suc-ne-zero n (sym e))
same-is v (suc n) (x ∷ z) e = via (λ h. ap₂ ◌∷◌ (sym h.0) h.1) (λ h. (sym (cons_head h), cons_tail h)) (both (eq_is x v) (same-is v n z (suc_inj e)))
