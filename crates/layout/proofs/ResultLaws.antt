-- The laws of `if` and of `do`, once for all readers.
use mathlib.Core.Path.{◌≡◌, refl}
use mathlib.Core.Bool.{Bool, true, false, not}
use Prim.Native.Nat.{ℕ}
use native.Mathlib.Omega.{arith}
use mathlib.Core.List.{List, [], ◌∷◌}
use lib.Dec.{T}
use Rattle.wire.specs.Test.{if}
use Rattle.layout.specs.Result.{Result, accept, reject, check, ◌>>=◌}
use Rattle.layout.specs.Rows.{each_of}
use Rattle.layout.proofs.AllLaws.{All}

pub bad_got : {A B : Type 0} {n p : ℕ} {b : B} → ◌≡◌ {A = Result B} (reject n p) (accept b) → A
bad_got e = let z : ◌≡◌ {A = ℕ} 0 1 = cc in absurd (omega arith)

pub got_inj : {A : Type 0} {a b : A} → accept a ≡ accept b → a ≡ b
got_inj e = cc

pub if_yes : {A : Type 0} (b : Bool) (x y : A) → T b → if b x y ≡ x
unfolding if
if_yes true x y t = refl
if_yes false x y t = absurd t

pub if_no : {A : Type 0} (b : Bool) (x y : A) → T (not b) → if b x y ≡ y
unfolding if
if_no true x y t = absurd t
if_no false x y t = refl

-- both cases of a test, each with its fact
pub by_test {ℓ} : (b : Bool) {P : Type ℓ} → (T b → P) → (T (not b) → P) → P
by_test true f g = f tt
by_test false f g = g tt

-- what holds in both cases of a choice
pub if_case : {A : Type 0} (P : A → Type 0) (c : Bool) (x y : A) → (T c → P x) → (T (not c) → P y) → P (if c x y)
unfolding if
if_case P true x y f g = f tt
if_case P false x y f g = g tt

pub if_cong : {A : Type 0} (b : Bool) {x x' y y' : A} → (T b → x ≡ x') → (T (not b) → y ≡ y') → if b x y ≡ if b x' y'
unfolding if
if_cong true f g = f tt
if_cong false f g = g tt

pub bind_cong : {A B : Type 0} (m : Result A) {k k' : A → Result B} → ((a : A) → m ≡ accept a → k a ≡ k' a) → (m >>= k) ≡ (m >>= k')
bind_cong (accept a) f = f a refl
bind_cong (reject n p) f = refl

-- binding twice
pub bind_bind : {A B C : Type 0} (m : Result A) (f : A → Result B) (g : B → Result C) → ((m >>= f) >>= g) ≡ (m >>= λ a. f a >>= g)
bind_bind (accept a) f g = refl
bind_bind (reject n p) f g = refl

-- The same two by continuation: what is found is bound by a λ, so that no goal writes it out.
pub by_got {ℓ} : {A B : Type 0} {P : Type ℓ} (m : Result A) (k : A → Result B) {b : B} → (m >>= k) ≡ accept b → ((a : A) → m ≡ accept a → k a ≡ accept b → P) → P
by_got (accept a) k e f = f a refl e
by_got (reject n p) k e f = absurd (bad_got e)

pub by-if {ℓ} : {A : Type 0} {P : Type ℓ} (b : Bool) (x y : A) {a : A} → if b x y ≡ a → (T b → x ≡ a → P) → (T (not b) → y ≡ a → P) → P
unfolding if
by-if true x y e f g = f tt e
by-if false x y e f g = g tt e

pub check-yes : (b : Bool) (n p : ℕ) → T b → check b n p ≡ accept tt
unfolding check
check-yes true n p t = refl
check-yes false n p t = absurd t

pub check-no : (b : Bool) (n p : ℕ) → T (not b) → check b n p ≡ reject n p
unfolding check
check-no true n p t = absurd t
check-no false n p t = refl

pub by-check {ℓ} : {B : Type 0} {P : Type ℓ} (b : Bool) (n p : ℕ) (k : Unit {0} → Result B) {x : B} → (check b n p >>= k) ≡ accept x → (T b → k tt ≡ accept x → P) → P
unfolding check
by-check true n p k e f = f tt e
by-check false n p k e f = absurd (bad_got e)

-- ---- a test of each table

pub each_got : (n : ℕ) (ok : ℕ → Bool) (ks : List ℕ) → each_of n ok ks ≡ accept tt → All (λ (k : ℕ). T (ok k)) ks
unfolding each_of
each_got n ok [] e = tt
each_got n ok (k ∷ ks) e = by-check (ok k) n k _ e (λ t e₁. (t, each_got n ok ks e₁))

pub each-yes : (n : ℕ) (ok : ℕ → Bool) (ks : List ℕ) → All (λ (k : ℕ). T (ok k)) ks → each_of n ok ks ≡ accept tt
unfolding each_of
each-yes n ok [] h = refl
each-yes n ok (k ∷ ks) h = rw (check-yes (ok k) n k h.0) (each-yes n ok ks h.1)
