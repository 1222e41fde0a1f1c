-- What C calls, one call after the other.
use mathlib.Core.Path.{◌≡◌, ap, sym, subst, ◌∙◌}
use Rattle.b3d_pieces_judge_step.specs.declared.Judge.{Judge}
use Rattle.b3d_pieces_state.specs.declared.PieceState.{PieceState}
use Rattle.b3d_pieces_state.specs.States.{judge_in, state_of}
use Rattle.b3d_pieces_state.proofs.StateLaws.{state-back}
use Rattle.b3d_pieces_words.specs.Called.{fresh_judge, Fresh, JudgedInCalls}
use Rattle.b3d_pieces_words.proofs.CallLaws.{fresh-judge}
use Rattle.b3d_pieces_words.proofs.JudgedLaws.{judged_in_calls}
use Rattle.b3d_pieces_records_loop.specs.Rounds.{numbers}

-- a file in calls from C is answered as the reader answers all bytes that were taken
pub judged-from_c : JudgedInCalls numbers
judged-from_c = judged_in_calls numbers

-- it may begin with what `kelompuris_b3d_pieces_start` gives
pub fresh-from_c : Fresh (judge_in (state_of fresh_judge))
fresh-from_c = subst Fresh (sym (state-back fresh_judge fresh-judge.calm)) fresh-judge

pub fresh-state : (j : Judge) → j ≡ fresh_judge → (r : PieceState) → r ≡ state_of j → r ≡ state_of fresh_judge
fresh-state j f r e = e ∙ ap state_of f
