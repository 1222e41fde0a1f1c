-- The close: the row is only weighed, and it is lent to be read.
use Rattle.layout.specs.Refused.{refusal_at}
use Rattle.std.specs.Prelude.{Err}
use mathlib.Core.Path.{◌≡◌, refl, ap, ◌∙◌}
use Prim.Native.Nat.{ℕ}
use mathlib.Core.Bool.{Bool, true, false}
use mathlib.Core.List.{List}
use lib.ListN.{length}
use lib.Dec.{eqb}
use borrow.Author.Tests.{eqb-true, eqb-false}
use Rattle.b3d_pieces_judge_step.specs.declared.Judge.{Judge}
use Rattle.b3d_pieces_state.specs.declared.OpenRecord.{OpenRecord}
use Rattle.b3d_pieces_state.specs.declared.PieceState.{PieceState}
use Rattle.b3d_pieces_state.specs.States.{judge_in}
use Rattle.b3d_pieces_state.proofs.StateLaws.{state-back}
use Rattle.b3d_pieces_answers.specs.Closes.{answer_by, word_answer}
use Rattle.b3d_pieces_words.specs.Called.{shutting, CloseIs}
use Rattle.b3d_pieces_words.proofs.CallLaws.{short-close, shut-close, other-close, taken-close}
use Rattle.b3d_pieces_records_tests.specs.declared.RowWeight.{RowWeight}
use Rattle.b3d_pieces_records_tests.specs.Weights.{place_of}
use Rattle.b3d_pieces_records_loop.specs.declared.PieceClosed.{PieceClosed}
use Rattle.b3d_pieces_records_loop.specs.Rounds.{opens_in, numbers, ClosedIs}
use Rattle.b3d_pieces_records_loop.proofs.WeighRoundLaws.{place-eleven, place_fifteen, Weighing, by_cases, numbered, fine_open, fine_runs}

module _ (s : PieceState) (xs : List OpenRecord) (w : RowWeight) (i : Weighing s xs w) (over : w.go ≡ false) (r : PieceClosed) (l : ClosedIs w s r) where
  abbrev j : Judge
  j = judge_in s

  abbrev n : ℕ
  n = length xs

  abbrev m : ℕ
  m = l.number

  refused : (m ≡ 0 → ⊥) → CloseIs numbers s xs r.answer r.state
  refused f =
      let d = numbered s xs w i over m l.says in
      by_cases s xs (CloseIs numbers s xs r.answer r.state)
      (λ k. short-close numbers s xs r.answer r.state k (says 11 19 (d.short k) place-eleven) (l.state f))
      (λ k o. shut-close numbers s xs r.answer r.state k o (says 15 0 (d.shut k o) place_fifteen) (l.state f))
      (λ k o. other-close numbers s xs r.answer r.state k o (d.unfit k o f) (says 15 0 (d.number k o f) place_fifteen) (l.state f))
    where
      says : (a b : ℕ) → m ≡ a → place_of a ≡ b → r.answer ≡ word_answer (answer_by (Err (refusal_at a b)))
      says a b ea eb = l.refused f ∙ ap (λ (x : ℕ). word_answer (answer_by (Err (refusal_at x (place_of x))))) ea ∙ ap (λ (x : ℕ). word_answer (answer_by (Err (refusal_at a x)))) eb

  taken : m ≡ 0 → CloseIs numbers s xs r.answer r.state
  taken z =
      let c = fine_runs s xs w i over m l.says z in
      let b : judge_in r.state ≡ shutting j = ap judge_in (l.next z) ∙ state-back (shutting j) c.calm in
      taken-close numbers s xs r.answer r.state c.room (fine_open s xs w i over m l.says z) c (l.answer z (opens_in xs)) b

  pub close-last : CloseIs numbers s xs r.answer r.state
  close-last = zero_or (eqb m 0) refl
    where
      zero_or : (x : Bool) → eqb m 0 ≡ x → CloseIs numbers s xs r.answer r.state
      zero_or true x = taken (eqb-true m 0 x)
      zero_or false x = refused (eqb-false m 0 x)
