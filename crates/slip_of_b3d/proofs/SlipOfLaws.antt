-- A law for each way through `numbers_of` and `slip_of`.
use mathlib.Core.Path.{◌≡◌, refl, ap, sym, ◌∙◌}
use Prim.Native.Nat.{ℕ, zero, suc, ◌+◌}
use native.Mathlib.Numerals.{add-one}
use native.Mathlib.Omega.{arith}
use mathlib.Core.List.{List, [], ◌∷◌}
use lib.ListN.{length, drop, get_or, drop_of_length-le}
use lib.Seq.{drop-cons}
use Rattle.layout.specs.Result.{Result, accept, reject}
use Rattle.b3d_spec.specs.declared.Mode.TheVariants.{Lenient}
use Rattle.b3d_spec.specs.Answers.{judge, answer, written, output_after}
use Rattle.b3d_spec.specs.Scene.{Scene}
use Rattle.b3d_spec.specs.declared.Answer.{Answer}
use Rattle.b3d_spec.specs.declared.Written.{Written}
use Rattle.b3d_spec.proofs.AnswerLaws.{judge-first}
use Rattle.b3d_spec.proofs.RefusalLaws.{read_number}
use Rattle.slip.specs.Slips.{write_slip, write_slip_answer, write_slip_output}
use Rattle.slip_of_b3d.specs.FileSlips.{scene_numbers, file_slip, file_slip_answer, file_slip_output}

-- ---- `numbers_of`

-- so many elements, one by one from i on
abbrev each : ℕ → ℕ → List ℕ → List ℕ
each zero i l = []
each (suc k) i l = get_or l i 0 ∷ each k (i + 1) l

each_all : (k i : ℕ) (l : List ℕ) → length l ≡ i + k → each k i l ≡ drop i l
each_all zero i l h = sym (drop_of_length-le l {i = i} (omega arith))
each_all (suc k) i l h = ap (λ (r : List ℕ). get_or l i 0 ∷ r) (each_all k (i + 1) l (omega arith)) ∙ sym (rw add-one (drop-cons l i 0 (omega arith)))

pub numbers_are : (v n : ℕ) (l : List ℕ) → length l ≡ 10
    → v ∷ n ∷ get_or l 0 0 ∷ get_or l 1 0 ∷ get_or l 2 0 ∷ get_or l 3 0 ∷ get_or l 4 0 ∷ get_or l 5 0 ∷ get_or l 6 0 ∷ get_or l 7 0 ∷ get_or l 8 0 ∷ get_or l 9 0 ∷ [] ≡ v ∷ n ∷ l
numbers_are v n l h = ap (λ (r : List ℕ). v ∷ n ∷ r) (each_all 10 0 l h)

-- ---- `slip_of`

module _ (s out : List ℕ) where
  answered : (o : Result (List ℕ)) → file_slip s (length out) ≡ o → (w : Written) → w ≡ written o → w ≡ file_slip_answer s out
  unfolding file_slip_answer
  answered o e w h = h ∙ ap written (sym e)

  left_so : (o : Result (List ℕ)) → file_slip s (length out) ≡ o → (ys : List ℕ) → ys ≡ output_after o out → ys ≡ file_slip_output s out
  unfolding file_slip_output
  left_so o e ys h = h ∙ ap (λ (x : Result (List ℕ)). output_after x out) (sym e)

  bad-slip : (n p : ℕ) → judge Lenient s ≡ reject n p → file_slip s (length out) ≡ reject n p
  unfolding file_slip
  bad-slip n p e = rw e

  got_slip : (t : Scene) → judge Lenient s ≡ accept t → file_slip s (length out) ≡ write_slip (scene_numbers t) (length out)
  unfolding file_slip
  got_slip t e = rw e

  -- what was answered, by what the file is
  pub record Refused (a : Answer) : Type 0 where
    pub is : judge Lenient s ≡ reject a.number a.place

  pub record Accepted (a : Answer) : Type 0 where
    pub scene : Scene
    pub is : judge Lenient s ≡ accept scene
    pub numbers : a.version ∷ a.n_texs ∷ a.counts ≡ scene_numbers scene

  pub refused_as : (o : Result Scene) → judge Lenient s ≡ o → (a : Answer) → a ≡ answer o → (a.number ≡ 0 → ⊥) → Refused a
  unfolding answer
  refused_as (accept t) e a h d = absurd (d (ap (λ (x : Answer). x.number) h))
  refused_as (reject n p) e a h d = rw h (record { is = e })

  pub accepted-as : (o : Result Scene) → judge Lenient s ≡ o → (a : Answer) → a ≡ answer o → a.number ≡ 0 → Accepted a
  unfolding answer
  accepted-as (accept t) e a h z = record { scene = t; is = e; numbers = rw h }
  accepted-as (reject n p) e a h z =
      let some = read_number Lenient (λ k. k) s n p (judge-first Lenient s n p e (λ k. k)) in
      let none : n ≡ 0 = sym (ap (λ (x : Answer). x.number) h) ∙ z in
      absurd (omega arith)

  module _ (a : Answer) (e : a ≡ answer (judge Lenient s)) where
    module _ (d : a.number ≡ 0 → ⊥) where
      refused : file_slip s (length out) ≡ reject a.number a.place
      refused = bad-slip a.number a.place (refused_as (judge Lenient s) refl a e d).is

      pub file-refused : record { number = a.number; place = a.place; size = 0 } ≡ file_slip_answer s out
      unfolding written
      file-refused = answered (reject a.number a.place) refused _ refl

      pub file-kept : out ≡ file_slip_output s out
      unfolding output_after
      file-kept = left_so (reject a.number a.place) refused out refl

    module _ (z : a.number ≡ 0) (ns : List ℕ) (h : ns ≡ a.version ∷ a.n_texs ∷ a.counts) where
      accepted : file_slip s (length out) ≡ write_slip ns (length out)
      accepted =
          let x = accepted-as (judge Lenient s) refl a e z in
          got_slip x.scene x.is ∙ ap (λ (l : List ℕ). write_slip l (length out)) (sym (h ∙ x.numbers))

      pub file-slip : (w : Written) → w ≡ write_slip_answer ns out → w ≡ file_slip_answer s out
      unfolding write_slip_answer
      file-slip w i = answered (write_slip ns (length out)) accepted w i

      pub file-left : (ys : List ℕ) → ys ≡ write_slip_output ns out → ys ≡ file_slip_output s out
      unfolding write_slip_output
      file-left ys i = left_so (write_slip ns (length out)) accepted ys i

pub ruleset slip-of_laws = (file-refused, file-kept, file-slip, file-left)
