-- The invariant of a loop over a piece's bytes, over any row: it holds at first, a turn keeps it, and at the end it says that the piece was taken.
use mathlib.Core.Path.{◌≡◌, refl, ap, sym, ◌∙◌}
use Prim.Native.Nat.{ℕ, ◌<◌, ◌≤◌}
use native.Mathlib.Omega.{arith}
use mathlib.Core.Bool.{Bool}
use mathlib.Core.List.{List}
use lib.ListN.{length, get_or}
use Rattle.b3d_pieces_spec.specs.declared.Open.{Open}
use Rattle.b3d_pieces_spec.specs.Close.{Held, piece}
use Rattle.b3d_pieces_step.proofs.TurnLaws.{slot_most}
use Rattle.b3d_pieces_judge_step.specs.declared.Judge.{Judge}
use Rattle.b3d_pieces_judge_step.specs.Takes.{held_of, TakeReady}
use Rattle.b3d_pieces_judge_step.specs.declared.Turn.{Turn}
use Rattle.b3d_pieces_judge_step.specs.Loops.{Begins, StepIs, left_of, rest_of, Going}
use Rattle.b3d_pieces_judge_step.specs.Runs.{CanRun, RunIs}
use Rattle.b3d_pieces_judge_step.proofs.LoopLaws.{turn_ready, turn-less, turn-going, turn-rest, first-going, first_rest, last_rest, last-calm}

-- over n records; all bytes lead to h, and the file is closed or not as it was
pub record Running (n : ℕ) (h : Held) (o : Bool) (p : List ℕ) (t : Turn) (rs : ℕ → Open) : Type 0 where
  pub going : Going t rs p
  pub room : 19 ≤ n
  pub ends : rest_of t rs p ≡ h
  pub shut : t.judge.shut ≡ o

pub run-first : (j : Judge) (n : ℕ) (rs : ℕ → Open) (p : List ℕ) (t : Turn) → CanRun j n rs → Begins j (length p) t → Running n (piece (held_of j rs) p) j.shut p t rs
run-first j n rs p t c b = record {
  going = first-going j rs p t b c.calm c.good;
  room = c.room;
  ends = first_rest j rs p t b c.calm;
  shut = ap (λ (x : Judge). x.shut) b.judge;
}

module _ (n : ℕ) (h : Held) (o : Bool) (p : List ℕ) (t : Turn) (rs : ℕ → Open) (i : Running n h o p t rs) where
  pub run-get : t.get ≤ 18
  run-get = let g = i.going in slot_most t.judge.depth t.get g.get g.good.depth

  pub run-byte : t.at < t.end → t.at < length p
  run-byte l = let e = i.going.end in omega arith

  module _ (l : t.at < t.end) (top : Open) (et : top ≡ rs t.get) where
    pub run_ready : TakeReady t.judge top
    run_ready = turn_ready t rs rs p i.going l top et

    module _ (r : Turn) (s : StepIs t top (get_or p t.at 0) r) (rs' : ℕ → Open) (new : rs' r.put ≡ r.rec) (old : (k : ℕ) → k < r.put → rs' k ≡ rs k) where
      pub run-less : left_of r < left_of t
      run-less = turn-less t rs rs' p i.going l top et (get_or p t.at 0) refl r s new old

      pub run-next : Running n h o p r rs'
      run-next = record {
        going = turn-going t rs rs' p i.going l top et (get_or p t.at 0) refl r s new old;
        room = i.room;
        ends = turn-rest t rs rs' p i.going l top et (get_or p t.at 0) refl r s new old ∙ i.ends;
        shut = s.took.shut ∙ i.shut;
      }

  pub run-last : (j : Judge) (rs₀ : ℕ → Open) → h ≡ piece (held_of j rs₀) p → o ≡ j.shut → t.end ≤ t.at → RunIs j rs₀ p t.judge n rs
  run-last j rs₀ e q l = record {
    is = sym (last_rest t rs p i.going l) ∙ i.ends ∙ e;
    next = record { room = i.room; calm = last-calm t rs p i.going l; good = i.going.good };
    shut = i.shut ∙ q;
  }
