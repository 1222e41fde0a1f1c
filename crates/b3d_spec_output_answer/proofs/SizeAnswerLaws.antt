-- A law for each way through `answer_of`, and what a caller takes from its answer.
use mathlib.Core.Path.{◌≡◌, refl, ap, sym, ◌∙◌}
use Prim.Native.Nat.{ℕ, ◌<◌, ◌≤◌}
use native.Mathlib.Omega.{arith}
use mathlib.Core.List.{List}
use lib.ListN.{length}
use lib.Dec.{leb, leb→le, nleb→lt}
use borrow.Author.Tests.{le-leb, lt-leb}
use Rattle.layout.specs.Result.{accept, reject, check}
use Rattle.layout.proofs.ResultLaws.{by_test}
use Rattle.b3d_spec.specs.Answers.{room_for, written}
use Rattle.b3d_spec.specs.declared.Written.{Written}
use Rattle.b3d_spec_output_answer.specs.Sizes.{OfSize}

module _ (room : ℕ) (b : List ℕ) where
  pub room-short : room < length b → room_for room b ≡ reject 11 (length b)
  unfolding room_for check
  room-short h = rw (lt-leb (length b) room h)

  pub room_fits : length b ≤ room → room_for room b ≡ accept b
  unfolding room_for check
  room_fits h = rw (le-leb (length b) room h)

module _ (size room q : ℕ) (e : q ≡ size) where
  pub answer-short : room < size → OfSize size room (record { number = 11; place = q; size = 0 })
  unfolding written
  answer-short h = record { is = λ b l. rw (room-short room b (omega (arith, l)), l, e) }

  pub answer-fits : size ≤ room → OfSize size room (record { number = 0; place = 0; size = q })
  unfolding written
  answer-fits h = record { is = λ b l. rw (room_fits room b (omega (arith, l)), l, e) }

pub ruleset answer_laws = (answer-short, answer-fits)

-- the number says whether there is room
module _ (room : ℕ) (b : List ℕ) (r : Written) (h : OfSize (length b) room r) where
  pub fits_where : r.number ≡ 0 → length b ≤ room
  unfolding written
  fits_where z =
      by_test (leb (length b) room) (λ t. leb→le (length b) room t)
      (λ f. absurd (omega (arith, sym z ∙ ap (λ (w : Written). w.number) (h.is b refl ∙ ap written (room-short room b (nleb→lt (length b) room f))))))

  pub short_where : (r.number ≡ 0 → ⊥) → room < length b
  unfolding written
  short_where d =
      by_test (leb (length b) room) (λ t. absurd (d (ap (λ (w : Written). w.number) (h.is b refl ∙ ap written (room_fits room b (leb→le (length b) room t))))))
      (λ f. nleb→lt (length b) room f)
