-- What holds at each entry of the nesting table that may stand holds of each chunk that the rule lets stand.
use mathlib.Core.Path.{◌≡◌, refl, ap, sym, subst}
use Prim.Native.Nat.{ℕ}
use native.Mathlib.Omega.{arith}
use mathlib.Core.Bool.{Bool, true, false}
use mathlib.Core.Option.{Option, none, some}
use mathlib.Core.List.{List, [], ◌∷◌}
use lib.Dec.{eqb→eq}
use Rattle.wire.specs.Test.{if}
use Rattle.layout.specs.Chunks.{stop, chunk}
use Rattle.b3d_spec.specs.declared.Tag.{Tag}
use Rattle.b3d_spec.specs.Tags.{code, is, tag_of, Chunks}
use Rattle.b3d_spec.specs.Nesting.{Entry, entry, nesting, Reached, may, after, next, onward, order}
use Rattle.b3d_spec.proofs.Files.TagCodeLaws.{tag-code}

-- A where the test holds, else B
abbrev pub Either : Bool → Type 0 → Type 0 → Type 0
Either true A B = A
Either false A B = B

-- what holds at an entry, and then what holds at those after it
infixr 20 ◌▸◌
abbrev pub ◌▸◌ : {A B : Type 0} → A → B → A × B
a ▸ b = (a, b)

pub same_tag : (t k : Tag) → is t k ≡ true → t ≡ k
same_tag t k e = let a = tag-code t in let b = tag-code k in let z : code t ≡ code k = eqb→eq (code t) (code k) (rw e tt) in let y = ap tag_of z in cc

module _ (all : List Entry) (P : Tag → Reached → Type 0) (r : Reached) where
  abbrev pub Each : List Entry → Type 0
  Each [] = Unit {0}
  Each (entry t turn often ∷ l) = Either (may all r turn often) (P t (after r turn often)) (Unit {0}) × Each l

  at_entry : (b : Bool) (t : Tag) (p q : Reached) → Either b (P t p) (Unit {0}) → if b (some p) none ≡ some q → P t q
  unfolding if
  at_entry true t p q a e = let z : p ≡ q = cc in subst (P t) z a
  at_entry false t p q a e = let z : ◌≡◌ {A = ℕ} 0 1 = cc in absurd (omega arith)

  at_one : (b : Bool) (t u : Tag) (q : Reached) (here others : Option Reached) → is t u ≡ b → (here ≡ some q → P u q) → (others ≡ some q → P t q) → if b here others ≡ some q → P t q
  unfolding if
  at_one true t u q here others y f g e = subst (λ (x : Tag). P x q) (sym (same_tag t u y)) (f e)
  at_one false t u q here others y f g e = g e

  pub at_next : (l : List Entry) → Each l → (t : Tag) (q : Reached) → next all l r t ≡ some q → P t q
  unfolding next
  at_next [] c t q e = let z : ◌≡◌ {A = ℕ} 0 1 = cc in absurd (omega arith)
  at_next (entry u turn often ∷ l) c t q e = at_one (is t u) t u q _ _ refl (at_entry (may all r turn often) u (after r turn often) q c.0) (at_next l c.1 t q) e

-- what holds of each tag of the table, wherever it stands
abbrev pub EachTag : (Tag → Type 0) → List Entry → Type 0
EachTag P [] = Unit {0}
EachTag P (entry t turn often ∷ l) = P t × EachTag P l

if-may : (b : Bool) (A : Type 0) → A → Either b A (Unit {0})
if-may true A a = a
if-may false A a = tt

each : (all : List Entry) (P : Tag → Type 0) (r : Reached) (l : List Entry) → EachTag P l → Each all (λ t q. P t) r l
each all P r [] h = tt
each all P r (entry t turn often ∷ l) h = (if-may (may all r turn often) (P t) h.0, each all P r l h.1)

pub at_tag : (P : Tag → Type 0) (k t : Tag) (r q : Reached) → EachTag P (nesting k) → next (nesting k) (nesting k) r t ≡ some q → P t
at_tag P k t r q h e = at_next (nesting k) (λ t q. P t) r (nesting k) (each (nesting k) P r (nesting k) h) t q e

-- by what the rule makes of a chunk inside one of tag k: refused by 4, or an entry of the table
pub by-entry : (k : Tag) (head : ℕ) (r : Reached) (p : ℕ) (b : List ℕ) (l : Chunks) (P : Tag → Chunks → Type 0)
    → ((t : Tag) → P t (stop 4 p)) → Each (nesting k) (λ t q. P t (chunk t p b (order k head q l))) r (nesting k) → (t : Tag) → P t (order k head r (chunk t p b l))
unfolding onward order
by-entry k head r p b l P refused allowed t = by (next (nesting k) (nesting k) r t) refl
  where
    by : (o : Option Reached) → next (nesting k) (nesting k) r t ≡ o → P t (onward o p (λ q. chunk t p b (order k head q l)))
    by none e = refused t
    by (some q) e = at_next (nesting k) (λ t q. P t (chunk t p b (order k head q l))) r (nesting k) allowed t q e
