-- A law for each way through `clear`.
use Rattle.std.specs.Prelude.{Ok, Err}
use Rattle.std.specs.Prelude as std
use Rattle.layout.specs.declared.Refusal.{Refusal}
use mathlib.Core.Path.{◌≡◌, refl, ap, sym, ◌∙◌}
use Prim.Native.Nat.{ℕ, ◌<◌, ◌≤◌}
use native.Mathlib.Omega.{arith}
use mathlib.Core.List.{List}
use lib.ListN.{length}
use Rattle.wire.specs.Bytes.{AllBytes, over}
use Rattle.layout.specs.Result.{Result, accept, reject, ◌>>=◌}
use Rattle.layout.proofs.ResultLaws.{by-check}
use Rattle.layout.specs.Rows.{size_fits, most_bytes}
use Rattle.shared_output.specs.Writing.{Room, Put}
use Rattle.b3d_spec.specs.declared.Mode.TheVariants.{Lenient}
use Rattle.b3d_spec.specs.Answers.{judge, room_for, copy, clear, written, output_after, clear_answer, clear_output}
use Rattle.b3d_spec.specs.Parse.{parse}
use Rattle.b3d_spec.specs.Scene.{Scene}
use Rattle.b3d_spec.specs.declared.Written.{Written}
use Rattle.b3d_spec.proofs.AnswerLaws.{judge_got, clear_first}
use Rattle.b3d_spec.proofs.Files.FileLaws.{size_low, size_bound}
use Rattle.b3d_spec.proofs.Files.NameLaws.{copy-short}
use Rattle.b3d_judge_tally.specs.declared.Tally.{Tally}
use Rattle.b3d_judge_tally.specs.Tally.{tally_of}
use Rattle.b3d_judge.specs.Answers.{verdict_of}
use Rattle.b3d_judge_file_body.specs.declared.Summary.{Summary}
use Rattle.b3d_judge.proofs.VerdictLaws.{was-bad}
use Rattle.b3d_clear_spec.specs.Copies.{file_copy}
use Rattle.b3d_clear_spec.proofs.FileLaws.{file_copied}
use Rattle.b3d_spec.proofs.RefusalLaws.{judge-place}
use Rattle.b3d_spec_output_answer.specs.Sizes.{OfSize}
use Rattle.b3d_spec_output_answer.proofs.SizeAnswerLaws.{room-short, room_fits, fits_where, short_where}

-- ---- what the judge says

-- a scene was read, and its copy has this size
record Gave (o : Result Scene) (size : ℕ) : Type 0 where
  scene : Scene
  is : o ≡ accept scene
  long : size ≡ length (copy scene)

was-good : (o : Result Scene) (x : Summary) → verdict_of o ≡ Ok x → Gave o x.tally.copy
was-good (accept t) x e = let z : x.tally ≡ tally_of t = cc in record { scene = t; is = refl; long = ap (λ (y : Tally). y.copy) z }
was-good (reject m q) x e = let z : ◌≡◌ {A = ℕ} 0 1 = cc in absurd (omega arith)

size-within : (s : List ℕ) (t : Scene) → parse Lenient s ≡ accept t → (12 ≤ length s) × (length s ≤ most_bytes)
unfolding parse
size-within s t e = by-check (size_fits (length s)) 1 0 _ e (λ z _. (size_low (length s) z, size_bound (length s) z))

-- ---- answers

module _ (s out : List ℕ) where
  answered : (o : Result (List ℕ)) → clear s (length out) ≡ o → (w : Written) → w ≡ written o → w ≡ clear_answer s out
  unfolding clear_answer
  answered o e w h = h ∙ ap written (sym e)

  left_so : (o : Result (List ℕ)) → clear s (length out) ≡ o → (ys : List ℕ) → ys ≡ output_after o out → ys ≡ clear_output s out
  unfolding clear_output
  left_so o e ys h = h ∙ ap (λ (x : Result (List ℕ)). output_after x out) (sym e)

  module _ (r : std.Result Summary Refusal) (e : r ≡ verdict_of (judge Lenient s)) where
    -- refused
    module _ (n : Refusal) (z : r ≡ Err n) where
      refused : judge Lenient s ≡ reject n.number n.place
      refused = was-bad (judge Lenient s) n (sym e ∙ z)

      pub clear-place : n.place < 0x100000000
      clear-place = omega (arith, judge-place Lenient s n.number n.place refused)

      stopped : clear s (length out) ≡ reject n.number n.place
      stopped = clear_first s n.number n.place refused (length out)

      pub clear-refused : (q : ℕ) → q ≡ n.place → record { number = n.number; place = q; size = 0 } ≡ clear_answer s out
      unfolding written
      clear-refused q h = answered (reject n.number n.place) stopped (record { number = n.number; place = q; size = 0 }) (rw h)

      pub clear-untouched : out ≡ clear_output s out
      unfolding output_after
      clear-untouched = left_so (reject n.number n.place) stopped out refl

    -- accepted
    module _ (x : Summary) (z : r ≡ Ok x) (all : AllBytes s) where
      gave : Gave (judge Lenient s) x.tally.copy
      gave = was-good (judge Lenient s) x (sym e ∙ z)

      parsed : parse Lenient s ≡ accept gave.scene
      parsed = (judge_got Lenient s gave.scene gave.is).0

      pub clear-low : 12 ≤ length s
      clear-low = (size-within s gave.scene parsed).0

      pub clear-high : length s ≤ most_bytes
      clear-high = (size-within s gave.scene parsed).1

      pub clear-size : x.tally.copy < 0x100000000
      unfolding copy
      clear-size = omega (arith, gave.long, copy-short s gave.scene all parsed, clear-high)

      room-for : clear s (length out) ≡ room_for (length out) (copy gave.scene)
      unfolding clear
      room-for = ap (λ (o : Result Scene). o >>= λ t. room_for (length out) (copy t)) gave.is

      -- the answer by the size of the copy
      module _ (w : Written) (h : OfSize x.tally.copy (length out) w) where
        of-copy : OfSize (length (copy gave.scene)) (length out) w
        of-copy = record { is = λ b l. h.is b (l ∙ sym gave.long) }

        pub clear_answered : w ≡ clear_answer s out
        clear_answered = answered (room_for (length out) (copy gave.scene)) room-for w (of-copy.is (copy gave.scene) refl)

        -- the output is too short
        pub clear_kept : (w.number ≡ 0 → ⊥) → out ≡ clear_output s out
        unfolding output_after
        clear_kept d = left_so (reject 11 (length (copy gave.scene))) (room-for ∙ room-short (length out) (copy gave.scene) (short_where (length out) (copy gave.scene) w of-copy d)) out refl

        -- it is long enough
        module _ (y : w.number ≡ 0) where
          fits : length (copy gave.scene) ≤ length out
          fits = fits_where (length out) (copy gave.scene) w of-copy y

          same : file_copy s ≡ copy gave.scene
          same = file_copied s gave.scene all parsed

          pub clear_room : Room (file_copy s) out
          clear_room = rw same (record { room = fits; small = omega (arith, gave.long, clear-size) })

          pub clear-output : (ys : List ℕ) (n : ℕ) → Put (file_copy s) out ys n → ys ≡ clear_output s out
          unfolding output_after
          clear-output ys n p = left_so (accept (copy gave.scene)) (room-for ∙ room_fits (length out) (copy gave.scene) fits) ys (p.wrote.is ∙ ap (λ (b : List ℕ). over b out) same)

pub ruleset clear_laws = (clear-place, clear-refused, clear-untouched, clear-low, clear-high, clear-size, clear_answered, clear_kept, clear_room, clear-output)
