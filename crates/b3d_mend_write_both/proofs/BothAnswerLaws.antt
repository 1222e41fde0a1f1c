-- A law for each way through `answer_of_both`, and what a caller takes from its answer.
use mathlib.Core.Path.{◌≡◌, refl, ap, sym, ◌∙◌}
use Prim.Native.Nat.{ℕ, ◌<◌, ◌≤◌}
use native.Mathlib.Omega.{arith}
use lib.ListN.{length}
use lib.Dec.{leb, leb→le, nleb→lt}
use Rattle.layout.proofs.ResultLaws.{by_test}
use Rattle.layout.specs.Result.{Result, accept, reject}
use Rattle.b3d_mend_spec.specs.Answers.{written_both}
use Rattle.b3d_mend_spec.specs.Report.{Mending, room_for_both}
use Rattle.b3d_mend_spec.specs.declared.WrittenBoth.{WrittenBoth}
use Rattle.b3d_mend_spec.proofs.Laws.{room-yes, room-file, room-report}
use Rattle.b3d_mend_write_both.specs.BothSizes.{OfSizes}

module _ (size report_size room report_room q : ℕ) where
  pub file_short : q ≡ size → room < size → OfSizes size report_size room report_room (record { number = 11; place = q; size = 0; report_size = 0 })
  unfolding written_both
  file_short e h = record { is = λ m l k. rw (room-file room report_room m (omega (arith, l)), l, e) }

  pub report_short : q ≡ report_size → size ≤ room → report_room < report_size → OfSizes size report_size room report_room (record { number = 11; place = q; size = 0; report_size = 0 })
  unfolding written_both
  report_short e h i = record { is = λ m l k. rw (room-report room report_room m (omega (arith, l)) (omega (arith, k)), k, e) }

  pub both-fit : q ≡ size → size ≤ room → report_size ≤ report_room → (p : ℕ) → p ≡ report_size → OfSizes size report_size room report_room (record { number = 0; place = 0; size = q; report_size = p })
  unfolding written_both
  both-fit e h i p f = record { is = λ m l k. rw (room-yes room report_room m (omega (arith, l)) (omega (arith, k)), l, k, e, f) }

pub ruleset both_answers = (file_short, report_short, both-fit)

-- the number says whether there is room for both
module _ (room report_room : ℕ) (m : Mending) (r : WrittenBoth) (h : OfSizes (length m.file) (length m.report) room report_room r) where
  is_number : (o : Result Mending) → room_for_both room report_room m ≡ o → r.number ≡ (written_both o).number
  is_number o e = ap (λ (w : WrittenBoth). w.number) (h.is m refl refl ∙ ap written_both e)

  -- written, or refused by 11
  pub by-room : {P : Type 0} → (length m.file ≤ room → length m.report ≤ report_room → P) → ((n : ℕ) → room_for_both room report_room m ≡ reject 11 n → P) → P
  by-room fits short =
      by_test (leb (length m.file) room)
      (λ t. by_test (leb (length m.report) report_room) (λ u. fits (leb→le (length m.file) room t) (leb→le (length m.report) report_room u))
      (λ u. short (length m.report) (room-report room report_room m (leb→le (length m.file) room t) (nleb→lt (length m.report) report_room u))))
      (λ t. short (length m.file) (room-file room report_room m (nleb→lt (length m.file) room t)))

  pub fits_both : r.number ≡ 0 → (length m.file ≤ room) × (length m.report ≤ report_room)
  unfolding written_both
  fits_both z = by-room (λ f g. (f, g)) (λ n e. absurd (omega (arith, sym z ∙ is_number (reject 11 n) e)))

  pub short-both : (r.number ≡ 0 → ⊥) → (n : ℕ) × (room_for_both room report_room m ≡ reject 11 n)
  unfolding written_both
  short-both d = by-room (λ f g. absurd (d (is_number (accept m) (room-yes room report_room m f g)))) (λ n e. (n, e))
