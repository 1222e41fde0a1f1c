-- A reading beside a mending read: where the reading gives a value, so does the mending; where it refuses, the mending refuses the same,
-- but for the numbers of faults that can be mended: 3 and 7, and 2 at 4.
use mathlib.Core.Path.{◌≡◌, refl, ap, sym, subst}
use mathlib.Core.Logic.{◌⊎◌, inl, inr}
use Prim.Native.Nat.{ℕ}
use mathlib.Core.Bool.{Bool, true, false}
use lib.Dec.{T}
use Rattle.wire.specs.Test.{if}
use Rattle.layout.specs.Result.{Result, accept, reject, ◌>>=◌}
pub use Rattle.b3d_mend_spec.specs.Mends.{Mendable}

abbrev pub Beside : {A B : Type 0} → (A → B → Type 0) → Result A → Result B → Type 0
Beside R (accept a) (accept b) = R a b
Beside R (accept a) (reject n p) = ⊥
Beside {A} {B} R (reject n p) o = Mendable n p ⊎ (o ≡ reject n p)

pub bind_beside : {A B C D : Type 0} (R : A → B → Type 0) (S : C → D → Type 0) (m : Result A) (o : Result B) (k : A → Result C) (j : B → Result D)
    → Beside R m o → ((a : A) (b : B) → R a b → Beside S (k a) (j b)) → Beside S (m >>= k) (o >>= j)
bind_beside R S (accept a) (accept b) k j h f = f a b h
bind_beside R S (accept a) (reject n p) k j h f = absurd h
bind_beside {D = D} R S (reject n p) o k j h f = elim h [ inl i ↦ inl i | inr e ↦ inr (ap (λ (x : Result _). x >>= j) e) ]

-- the same step on both sides
pub same_beside : {A C D : Type 0} (S : C → D → Type 0) (m : Result A) (k : A → Result C) (j : A → Result D) → ((a : A) → m ≡ accept a → Beside S (k a) (j a)) → Beside S (m >>= k) (m >>= j)
same_beside S (accept a) k j f = f a refl
same_beside S (reject n p) k j f = inr refl

pub if-beside : {A B : Type 0} (R : A → B → Type 0) (b : Bool) (x y : Result A) (u v : Result B) → (T b → Beside R x u) → Beside R y v → Beside R (if b x y) (if b u v)
unfolding if
if-beside R true x y u v h k = h tt
if-beside R false x y u v h k = k

-- with the facts that both gave values
pub bind_beside-eq : {A B C D : Type 0} (R : A → B → Type 0) (S : C → D → Type 0) (m : Result A) (o : Result B) (k : A → Result C) (j : B → Result D)
    → Beside R m o → ((a : A) (b : B) → m ≡ accept a → o ≡ accept b → R a b → Beside S (k a) (j b)) → Beside S (m >>= k) (o >>= j)
bind_beside-eq R S (accept a) (accept b) k j h f = f a b refl refl h
bind_beside-eq R S (accept a) (reject n p) k j h f = absurd h
bind_beside-eq R S (reject n p) o k j h f = elim h [ inl i ↦ inl i | inr e ↦ inr (ap (λ (x : Result _). x >>= j) e) ]

-- at the same place
pub moved : {A B C : Type 0} (R : A → B → Type 0) (o : Result A) (F : ℕ → C → Result B) (p q : ℕ) (s t : C) → q ≡ p → t ≡ s → Beside R o (F p s) → Beside R o (F q t)
moved {C = C} R o F p q s t ep es h = subst (λ (u : C). Beside R o (F q u)) (sym es) (subst (λ (u : ℕ). Beside R o (F u s)) (sym ep) h)
