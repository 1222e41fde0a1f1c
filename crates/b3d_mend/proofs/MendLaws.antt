-- A law for each way through `copy_accepted`, `mend_faults` and `mend`.
use Rattle.std.specs.Prelude.{Ok, Err}
use Rattle.std.specs.Prelude as std
use Rattle.layout.specs.declared.Refusal.{Refusal}
use mathlib.Core.Path.{◌≡◌, refl, ap, sym, ◌∙◌}
use Prim.Native.Nat.{ℕ, ◌+◌, ◌<◌, ◌≤◌}
use native.Mathlib.Omega.{arith}
use mathlib.Core.List.{List, []}
use lib.ListN.{length, take, drop}
use lib.Seq.{take-length}
use Rattle.wire.specs.Bytes.{AllBytes, over}
use Rattle.layout.specs.Result.{Result, accept, reject}
use Rattle.layout.proofs.ResultLaws.{by_got}
use Rattle.shared_output.specs.Writing.{Wrote}
use Rattle.b3d_spec.specs.declared.Mode.TheVariants.{Lenient}
use Rattle.b3d_spec.specs.Answers.{judge}
use Rattle.b3d_spec.specs.Parse.{parse}
use Rattle.b3d_spec.proofs.Files.FileLaws.{parse-size}
use Rattle.b3d_spec.specs.Scene.{Scene}
use Rattle.b3d_judge.specs.Answers.{verdict_of}
use Rattle.b3d_judge_file_body.specs.declared.Summary.{Summary}
use Rattle.b3d_mend_spec.specs.Answers.{written_both, file_after, report_after, mend_answer, mend_output, mend_report}
use Rattle.b3d_mend_spec.specs.Mend.{Mended}
use Rattle.b3d_mend_spec.specs.Report.{Mending, mend_judged, room_for_both, mend_into}
use Rattle.b3d_mend_spec.specs.declared.WrittenBoth.{WrittenBoth}
use Rattle.b3d_mend_spec.proofs.Laws.{mends, is-first, room-yes}
use Rattle.b3d_mend_judge.specs.Answers.{mended_verdict, PlaceValid}
use Rattle.b3d_mend_write_both.specs.BothSizes.{OfSizes}
use Rattle.b3d_mend_write_both.specs.Mendable.{CanMend}
use Rattle.b3d_mend_write_both.proofs.BothAnswerLaws.{fits_both, short-both}
use Rattle.b3d_mend_write_both.proofs.BothLaws.{answered, file_so, report_so}
use Rattle.b3d_mend.specs.Accepted.{Accepted}

-- ---- what the judges say

was-bad : (o : Result (Mended Scene)) (n : Refusal) → mended_verdict o ≡ Err n → o ≡ reject n.number n.place
was-bad (accept m) n h = let z : ◌≡◌ {A = ℕ} 0 1 = cc in absurd (omega arith)
was-bad (reject m q) n h = cc

was-good : (o : Result (Mended Scene)) (v : Summary) → mended_verdict o ≡ Ok v → (x : Mended Scene) × (o ≡ accept x)
was-good (accept m) v h = (m, refl)
was-good (reject n p) v h = let z : ◌≡◌ {A = ℕ} 0 1 = cc in absurd (omega arith)

was-accepted : (o : Result Scene) (v : Summary) → verdict_of o ≡ Ok v → (t : Scene) × (o ≡ accept t)
was-accepted (accept t) v h = (t, refl)
was-accepted (reject n p) v h = let z : ◌≡◌ {A = ℕ} 0 1 = cc in absurd (omega arith)

accepted-small : (s : List ℕ) (t : Scene) → judge Lenient s ≡ accept t → length s < 0x100000000
unfolding judge
accepted-small s t e = by_got (parse Lenient s) _ e (λ u eu _. omega (arith, parse-size s u eu))

pub is-accepted : (s : List ℕ) (r : std.Result Summary Refusal) → r ≡ verdict_of (judge Lenient s) → (v : Summary) → r ≡ Ok v → AllBytes s → Accepted s
is-accepted s r e v z all = let g = was-accepted (judge Lenient s) v (sym e ∙ z) in record { bytes = all; scene = g.0; is = g.1; small = accepted-small s g.0 g.1 }

-- ---- the ways

module _ (s out report : List ℕ) where
  -- what the judge says
  module _ (r : std.Result Summary Refusal) (e : r ≡ mended_verdict (mend_judged s)) where
    pub mend-can : (v : Summary) → r ≡ Ok v → AllBytes s → CanMend s
    mend-can v z all = let g = was-good (mend_judged s) v (sym e ∙ z) in record { bytes = all; value = g.0; is = g.1 }

    -- refused
    module _ (n : Refusal) (z : r ≡ Err n) where
      pub mend-place : PlaceValid r → n.place < 0x100000000
      mend-place h = omega (arith, h.most n z)

      stopped : mend_into (length out) (length report) s ≡ reject n.number n.place
      stopped = is-first s n.number n.place (was-bad (mend_judged s) n (sym e ∙ z)) (length out) (length report)

      pub mend-refused : (q : ℕ) → q ≡ n.place → record { number = n.number; place = q; size = 0; report_size = 0 } ≡ mend_answer s out report
      unfolding written_both
      mend-refused q h = answered s out report (reject n.number n.place) stopped (record { number = n.number; place = q; size = 0; report_size = 0 }) (rw h)

      pub mend-file-kept : out ≡ mend_output s out report
      unfolding file_after
      mend-file-kept = file_so s out report (reject n.number n.place) stopped out refl

      pub mend-report-kept : report ≡ mend_report s out report
      unfolding report_after
      mend-report-kept = report_so s out report (reject n.number n.place) stopped report refl

  -- accepted
  module _ (a : Accepted s) where
    abbrev M : Mending
    M = record { file = s; report = [] }

    as_it_was : mend_into (length out) (length report) s ≡ room_for_both (length out) (length report) M
    as_it_was = (mends s a.bytes).unchanged a.scene a.is (length out) (length report)

    pub copy-small : length s < 0x100000000
    copy-small = a.small

    module _ (w : WrittenBoth) (h : OfSizes (length s) 0 (length out) (length report) w) where
      of-both : OfSizes (length M.file) (length M.report) (length out) (length report) w
      of-both = h

      pub copy_answered : w ≡ mend_answer s out report
      copy_answered = answered s out report (room_for_both (length out) (length report) M) as_it_was w (of-both.is M refl refl)

      -- an output is too short
      module _ (d : w.number ≡ 0 → ⊥) where
        pub copy-short-file : out ≡ mend_output s out report
        unfolding file_after
        copy-short-file = let q = short-both (length out) (length report) M w of-both d in file_so s out report (reject 11 q.0) (as_it_was ∙ q.1) out refl

        pub copy-short-report : report ≡ mend_report s out report
        unfolding report_after
        copy-short-report = let q = short-both (length out) (length report) M w of-both d in report_so s out report (reject 11 q.0) (as_it_was ∙ q.1) report refl

      -- both are long enough
      module _ (y : w.number ≡ 0) where
        pub copy-inside : 0 + length s ≤ length s
        copy-inside = omega arith

        pub copy_room : length s ≤ length out
        copy_room = (fits_both (length out) (length report) M w of-both y).0

        done : mend_into (length out) (length report) s ≡ accept M
        done = as_it_was ∙ room-yes (length out) (length report) M copy_room (omega arith)

        pub copy-file : (ys : List ℕ) → Wrote out (take (length s) (drop 0 s)) ys → ys ≡ mend_output s out report
        unfolding file_after
        copy-file ys p = file_so s out report (accept M) done ys (p.is ∙ ap (λ (l : List ℕ). over l out) (take-length s))

        pub copy-report : report ≡ mend_report s out report
        unfolding report_after over
        copy-report = report_so s out report (accept M) done report refl

pub ruleset mend_laws = (mend-place, mend-can, mend-refused, mend-file-kept, mend-report-kept)

pub ruleset copy_laws = (copy-small, copy_answered, copy-short-file, copy-short-report, copy-inside, copy_room, copy-file, copy-report)
