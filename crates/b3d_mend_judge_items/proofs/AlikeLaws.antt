-- Two readings side by side: both are refused alike, or both give what a relation ties together.
use mathlib.Core.Path.{◌≡◌, refl}
use mathlib.Core.Bool.{Bool, true, false}
use Rattle.wire.specs.Test.{if}
use Rattle.layout.specs.Result.{Result, accept, reject, ◌>>=◌}

abbrev pub Alike : {A B : Type 0} → (A → B → Type 0) → Result A → Result B → Type 0
Alike R (accept a) (accept b) = R a b
Alike R (accept a) (reject n p) = ⊥
Alike R (reject n p) (accept b) = ⊥
Alike R (reject n p) (reject m q) = (n ≡ m) × (p ≡ q)

pub alike_bind : {A B C D : Type 0} (R : A → B → Type 0) (S : C → D → Type 0) (m : Result A) (k : Result B) (f : A → Result C) (g : B → Result D)
    → Alike R m k → ((a : A) (b : B) → R a b → Alike S (f a) (g b)) → Alike S (m >>= f) (k >>= g)
alike_bind R S (accept a) (accept b) f g h t = t a b h
alike_bind R S (accept a) (reject n p) f g h t = absurd h
alike_bind R S (reject n p) (accept b) f g h t = absurd h
alike_bind R S (reject n p) (reject m q) f g h t = h

-- one reading beside itself
pub alike_same : {A : Type 0} (m : Result A) → Alike (λ (a b : A). a ≡ b) m m
alike_same (accept a) = refl
alike_same (reject n p) = (refl, refl)

pub alike-if : {A B : Type 0} (R : A → B → Type 0) (c : Bool) (x y : Result A) (u v : Result B) → Alike R x u → Alike R y v → Alike R (if c x y) (if c u v)
unfolding if
alike-if R true x y u v h k = h
alike-if R false x y u v h k = k

-- one reading, then two
pub alike_both : {A C D : Type 0} (S : C → D → Type 0) (m : Result A) (f : A → Result C) (g : A → Result D) → ((a : A) → Alike S (f a) (g a)) → Alike S (m >>= f) (m >>= g)
alike_both S (accept a) f g h = h a
alike_both S (reject n p) f g h = (refl, refl)

pub alike-after : {A C D : Type 0} (S : C → D → Type 0) (m : Result A) (f : A → Result C) (g : A → Result D) → ((a : A) → m ≡ accept a → Alike S (f a) (g a)) → Alike S (m >>= f) (m >>= g)
alike-after S (accept a) f g h = h a refl
alike-after S (reject n p) f g h = (refl, refl)
