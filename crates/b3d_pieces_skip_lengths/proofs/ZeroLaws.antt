-- The laws of a text's first zero, in the words of the code.
use mathlib.Core.Path.{◌≡◌, ap, sym, ◌∙◌}
use Prim.Native.Nat.{ℕ, ◌+◌, ◌<◌, ◌≤◌}
use native.Mathlib.Omega.{arith}
use native.Mathlib.Nat.{eq-or-lt_of_le}
use mathlib.Core.Logic.{⊎_elim}
use mathlib.Core.List.{List}
use lib.ListN.{get_or}
use Rattle.b3d_pieces_skip_lengths.specs.Ahead.{UntilZero}

pub zero-first : (p : List ℕ) (from last : ℕ) → from ≤ last → UntilZero p from last from
zero-first p from last h = record { ahead = omega arith; within = h; text = λ k a b. absurd (omega arith) }

module _ (p : List ℕ) (from last at : ℕ) (i : UntilZero p from last at) where
  pub zero-next : at < last → (get_or p at 0 ≡ 0 → ⊥) → UntilZero p from last (at + 1)
  zero-next h z = record { ahead = (let a = i.ahead in omega arith); within = omega arith; text = λ k a b. ⊎_elim (λ (e : k ≡ at). λ y. z (ap (λ (n : ℕ). get_or p n 0) (sym e) ∙ y)) (λ (l : k < at). i.text k a l) (eq-or-lt_of_le {n = k} {m = at} (omega arith)) }

  pub zero-none : last ≤ at → UntilZero p from last last
  zero-none h = let e : at ≡ last = (let a = i.within in omega arith) in rw e at i

pub ruleset zero_laws = (zero-first, zero-next, zero-none)
