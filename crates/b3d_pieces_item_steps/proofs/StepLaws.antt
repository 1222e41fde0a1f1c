-- How a step gives what the machine comes to.
use mathlib.Core.Path.{◌≡◌, refl, ap, ◌∙◌}
use Prim.Native.Nat.{ℕ, ◌+◌, ◌≤◌}
use native.Mathlib.Omega.{arith}
use mathlib.Core.List.{List, ◌∷◌}
use Rattle.b3d_pieces_spec.specs.declared.Totals.{Totals}
use Rattle.b3d_pieces_spec.specs.declared.Open.{Open}
use Rattle.b3d_pieces_spec.specs.Machine.{State}
use Rattle.b3d_pieces_spec.specs.Good.{Deep, sum, load}
use Rattle.b3d_pieces_item_steps.specs.declared.Now.{Now}
use Rattle.b3d_pieces_item_steps.specs.Nows.{state_with, GoodNow, NothingToEnter, Gives}

-- a value that is made
pub gives : (s n : ℕ) (g : Totals) (f : Open) (r x : Now) (k : List Open → State) → r ≡ x → NothingToEnter x → ((R : List Open) → state_with R x ≡ k R)
    → ((R : List Open) → Deep (f ∷ R) → sum g + load (f ∷ R) + s ≤ n → GoodNow n R x) → Gives s n g f r k
gives s n g f r x k q c e h = record { is = λ R. ap (state_with R) q ∙ e R; good = λ R d l. rw q (h R d l); calm = λ z. rw q c }

-- a value that is handed on
pub gives-on : (s n : ℕ) (g : Totals) (f : Open) (r : Now) (k k' : List Open → State) → ((R : List Open) → k R ≡ k' R) → Gives s n g f r k → Gives s n g f r k'
gives-on s n g f r k k' e h = record { is = λ R. h.is R ∙ e R; good = h.good; calm = h.calm }

-- with one to spare
pub gives-spare : (n : ℕ) (g : Totals) (f : Open) (r : Now) (k k' : List Open → State) → ((R : List Open) → k R ≡ k' R) → Gives 0 n g f r k → Gives 1 n g f r k'
gives-spare n g f r k k' e h = record { is = λ R. h.is R ∙ e R; good = λ R d l. h.good R d (omega arith); calm = λ z. absurd (omega arith) }

-- from another chunk and other totals
pub gives-from : (s' n : ℕ) (g g' : Totals) (f f' : Open) (r : Now) (k k' : List Open → State) → ((R : List Open) → k R ≡ k' R)
    → ((R : List Open) → Deep (f' ∷ R) → Deep (f ∷ R)) → ((R : List Open) → sum g' + load (f' ∷ R) + s' ≤ n → sum g + load (f ∷ R) + 0 ≤ n)
    → Gives 0 n g f r k → Gives s' n g' f' r k'
gives-from s' n g g' f f' r k k' e d l h = record { is = λ R. h.is R ∙ e R; good = λ R x y. h.good R (d R x) (l R y); calm = λ z. h.calm refl }
