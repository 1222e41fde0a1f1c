-- The laws of how far a part of a chunk goes on, in the words of the code.
use mathlib.Core.Path.{◌≡◌, refl, ap, sym, ◌∙◌}
use Prim.Native.Nat.{ℕ, zero, suc, ◌+◌, ◌<◌, ◌≤◌}
use native.Mathlib.Omega.{arith}
use mathlib.Core.Bool.{Bool}
use mathlib.Core.List.{List, [], ◌∷◌}
use lib.ListN.{length, get_or}
use lib.Seq.{slice, slice_empty, slice-cons}
use borrow.Author.Tests.{ne_eqb}
use Rattle.wire.specs.Test.{if}
use Rattle.b3d_pieces_spec.specs.declared.Totals.{Totals}
use Rattle.b3d_pieces_spec.specs.declared.Open.{Open}
use Rattle.b3d_pieces_spec.specs.declared.Part.TheVariants.{Text, Skip}
use Rattle.b3d_pieces_spec.specs.Machine.{State, live, text_from, text_byte, skip_from, byte_in, step, run}

module _ (g : Totals) (f : Open) (R : List Open) where
  pub skip_run : (until at : ℕ) (s : List ℕ) → at + length s < until → run (live at (Skip until) g f R) s ≡ live (at + length s) (Skip until) g f R
  unfolding step byte_in skip_from if
  skip_run until at [] h = let e : at ≡ at + 0 = omega arith in ap (λ (n : ℕ). live n (Skip until) g f R) e
  skip_run until at (b ∷ s) h =
      let e : at + 1 + length s ≡ at + suc (length s) = omega arith in
      rw (ne_eqb (at + 1) until (λ z. omega arith)) (skip_run until (at + 1) s (omega arith) ∙ ap (λ (n : ℕ). live n (Skip until) g f R) e)

  text-byte : (fixed : Bool) (start b at : ℕ) → (b ≡ 0 → ⊥) → at + 1 < f.end → step (live at (Text fixed start) g f R) b ≡ live (at + 1) (Text fixed start) g f R
  unfolding step byte_in text_byte text_from if
  text-byte fixed start zero at z h = absurd (z refl)
  text-byte fixed start (suc b) at z h = rw (ne_eqb (at + 1) f.end (λ e. omega arith))

  pub text-run : (fixed : Bool) (start : ℕ) (p : List ℕ) (n from at : ℕ) → from + n ≤ length p → at + n < f.end → ((k : ℕ) → from ≤ k → k < from + n → get_or p k 0 ≡ 0 → ⊥)
      → run (live at (Text fixed start) g f R) (slice from (from + n) p) ≡ live (at + n) (Text fixed start) g f R
  text-run fixed start p zero from at l h t =
      let e : from ≡ from + 0 = omega arith in
      let q : at ≡ at + 0 = omega arith in
      ap (λ (m : ℕ). run (live at (Text fixed start) g f R) (slice from m p)) (sym e) ∙ ap (run (live at (Text fixed start) g f R)) (slice_empty from p) ∙ ap (λ (m : ℕ). live m (Text fixed start) g f R) q
  text-run fixed start p (suc n) from at l h t =
      let e : from + 1 + n ≡ from + suc n = omega arith in
      let u : suc from ≡ from + 1 = omega arith in
      let q : at + 1 + n ≡ at + suc n = omega arith in
      ap (run (live at (Text fixed start) g f R)) (slice-cons from (from + suc n) p 0 (omega arith) l)
      ∙ ap (λ (m : ℕ). run (step (live at (Text fixed start) g f R) (get_or p from 0)) (slice m (from + suc n) p)) u
      ∙ ap (λ (st : State). run st (slice (from + 1) (from + suc n) p)) (text-byte fixed start (get_or p from 0) at (t from (omega arith) (omega arith)) (omega arith))
      ∙ ap (λ (m : ℕ). run (live (at + 1) (Text fixed start) g f R) (slice (from + 1) m p)) (sym e)
      ∙ text-run fixed start p n (from + 1) (at + 1) (omega arith) (omega arith) (λ k a b. t k (omega arith) (omega arith))
      ∙ ap (λ (m : ℕ). live m (Text fixed start) g f R) q
