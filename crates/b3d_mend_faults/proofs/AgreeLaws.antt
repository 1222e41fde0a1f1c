-- A reading with its faults beside a plain one that refuses: `mends` says whether the plain one passes the four, as the mender does, or refuses them, as the reader does.
use mathlib.Core.Path.{◌≡◌, refl, ap, sym, ◌∙◌, subst}
use Prim.Native.Nat.{ℕ}
use mathlib.Core.Bool.{Bool, true, false}
use mathlib.Core.List.{List, [], ◌∷◌, ◌++◌, append-nil}
use Rattle.wire.specs.Test.{if}
use Rattle.layout.specs.Result.{Result, accept, reject, ◌>>=◌ as ◌>>>◌}
use Rattle.layout.specs.Parts.{Step}
use Rattle.layout.proofs.ResultLaws.{bad_got, got_inj}
use Rattle.b3d_mend_faults.specs.Faults.{Fault, mendable, FaultReading, gives, ends, passes, ◌>>=◌, plainly, listed}

-- both give values that R holds of, behind the faults that were passed, or the plain one refuses at the first fault that it does not pass
abbrev pub Agrees : {A B : Type 0} → Bool → (List Fault → A → B → Type 0) → FaultReading A → Result B → Type 0
Agrees mends R (gives a) (accept b) = R [] a b
Agrees mends R (gives a) (reject n p) = ⊥
Agrees mends R (ends n p) o = o ≡ reject n p
Agrees true R (passes k n p m) o = Agrees true (λ l. R (mendable k n p ∷ l)) m o
Agrees false R (passes k n p m) o = o ≡ reject n p

-- R of the values, whatever faults were passed
abbrev pub Values : {A B : Type 0} → (A → B → Type 0) → List Fault → A → B → Type 0
Values R l a b = R a b

-- whatever the values
abbrev pub Any : {A B : Type 0} → List Fault → A → B → Type 0
Any l a b = Unit {0}

pub bind_agrees : {A B C D : Type 0} (mends : Bool) (R : List Fault → A → B → Type 0) (S : List Fault → C → D → Type 0) (m : FaultReading A) (o : Result B) (k : A → FaultReading C) (j : B → Result D)
    → Agrees mends R m o → ((l : List Fault) (a : A) (b : B) → R l a b → Agrees mends (λ g. S (l ++ g)) (k a) (j b)) → Agrees mends S (m >>= k) (o >>> j)
bind_agrees mends R S (gives a) (accept b) k j h f = f [] a b h
bind_agrees mends R S (gives a) (reject n p) k j h f = absurd h
bind_agrees mends R S (ends n p) o k j h f = ap (λ (x : Result _). x >>> j) h
bind_agrees true R S (passes i n p m) o k j h f =
    bind_agrees true (λ l. R (mendable i n p ∷ l)) (λ l. S (mendable i n p ∷ l)) m o k j h (λ l. f (mendable i n p ∷ l))
bind_agrees false R S (passes i n p m) o k j h f = ap (λ (x : Result _). x >>> j) h

-- the plain one makes something more of its value
pub more_agrees : {A B D : Type 0} (mends : Bool) (R : List Fault → A → B → Type 0) (S : List Fault → A → D → Type 0) (m : FaultReading A) (o : Result B) (f : B → D)
    → Agrees mends R m o → ((l : List Fault) (a : A) (b : B) → R l a b → S l a (f b)) → Agrees mends S m (o >>> λ b. accept (f b))
more_agrees mends R S (gives a) (accept b) f h g = g [] a b h
more_agrees mends R S (gives a) (reject n p) f h g = absurd h
more_agrees mends R S (ends n p) o f h g = ap (λ (x : Result _). x >>> λ b. accept (f b)) h
more_agrees true R S (passes i n p m) o f h g = more_agrees true (λ l. R (mendable i n p ∷ l)) (λ l. S (mendable i n p ∷ l)) m o f h (λ l. g (mendable i n p ∷ l))
more_agrees false R S (passes i n p m) o f h g = ap (λ (x : Result _). x >>> λ b. accept (f b)) h

-- each makes something more of its value
pub both_agrees : {A B C D : Type 0} (mends : Bool) (R : List Fault → A → B → Type 0) (S : List Fault → C → D → Type 0) (m : FaultReading A) (o : Result B) (f : A → C) (g : B → D)
    → Agrees mends R m o → ((l : List Fault) (a : A) (b : B) → R l a b → S l (f a) (g b)) → Agrees mends S (m >>= λ a. gives (f a)) (o >>> λ b. accept (g b))
both_agrees mends R S m o f g h k =
    bind_agrees mends R S m o _ _ h (λ l a b r. subst (λ (z : List Fault). S z (f a) (g b)) (sym (append-nil l)) (k l a b r))

-- of more, less
pub weak_agrees : {A B : Type 0} (mends : Bool) (R S : List Fault → A → B → Type 0) (m : FaultReading A) (o : Result B) → Agrees mends R m o
    → ((l : List Fault) (a : A) (b : B) → o ≡ accept b → R l a b → S l a b) → Agrees mends S m o
weak_agrees mends R S (gives a) (accept b) h g = g [] a b refl h
weak_agrees mends R S (gives a) (reject n p) h g = absurd h
weak_agrees mends R S (ends n p) o h g = h
weak_agrees true R S (passes i n p m) o h g = weak_agrees true (λ l. R (mendable i n p ∷ l)) (λ l. S (mendable i n p ∷ l)) m o h (λ l. g (mendable i n p ∷ l))
weak_agrees false R S (passes i n p m) o h g = h

-- the same step on both sides
pub same_agrees : {A C D : Type 0} (mends : Bool) (S : List Fault → C → D → Type 0) (o : Result A) (k : A → FaultReading C) (j : A → Result D) → ((a : A) → o ≡ accept a → Agrees mends S (k a) (j a)) → Agrees mends S (plainly o >>= k) (o >>> j)
unfolding plainly
same_agrees mends S (accept a) k j f = f a refl
same_agrees mends S (reject n p) k j f = refl

-- a plain reading, of whose value `f` is kept
pub plain_agrees : {A C : Type 0} (mends : Bool) (R : List Fault → C → A → Type 0) (f : A → C) (o : Result A) → ((a : A) → R [] (f a) a) → Agrees mends R (plainly o >>= λ a. gives (f a)) o
unfolding plainly
plain_agrees mends R f (accept a) h = h a
plain_agrees mends R f (reject n p) h = refl

pub if_agrees : {A B : Type 0} (mends : Bool) (R : List Fault → A → B → Type 0) (b : Bool) (x y : FaultReading A) (u v : Result B) → Agrees mends R x u → Agrees mends R y v → Agrees mends R (if b x y) (if b u v)
unfolding if
if_agrees mends R true x y u v h k = h
if_agrees mends R false x y u v h k = k

pub either_agrees : {A B : Type 0} (mends : Bool) (R : List Fault → A → B → Type 0) (b : Bool) (x y : FaultReading A) (o : Result B) → Agrees mends R x o → Agrees mends R y o → Agrees mends R (if b x y) o
unfolding if
either_agrees mends R true x y o h k = h
either_agrees mends R false x y o h k = k

-- at the same place
pub moved : {A B C : Type 0} (mends : Bool) (R : List Fault → A → B → Type 0) (m : FaultReading A) (F : ℕ → C → Result B) (p q : ℕ) (s t : C) → q ≡ p → t ≡ s → Agrees mends R m (F p s) → Agrees mends R m (F q t)
moved {C = C} mends R m F p q s t ep es h = subst (λ (u : C). Agrees mends R m (F q u)) (sym es) (subst (λ (u : ℕ). Agrees mends R m (F u s)) (sym ep) h)

-- both leave off at the same place
abbrev pub At : {A B : Type 0} → List Fault → Step A → Step B → Type 0
At l x y = (y.place ≡ x.place) × (y.left ≡ x.left)

-- what was passed before a value are all the faults of the list
pub listed-all : {A B : Type 0} (R : List Fault → A → B → Type 0) (m : FaultReading A) (o : Result B) (b : B) → Agrees true R m o → o ≡ accept b → (a : A) × R (listed m) a b
unfolding listed
listed-all {A} R (gives a) (accept c) b h e = (a, subst (λ (z : _). R [] a z) (got_inj e) h)
listed-all R (gives a) (reject n p) b h e = absurd h
listed-all R (ends n p) o b h e = bad_got (sym h ∙ e)
listed-all R (passes k n p m) o b h e = listed-all (λ l. R (mendable k n p ∷ l)) m o b h e
