-- The invariant of the loop over words: it holds at first, a turn keeps it, and at the end it says what the contract does.
use mathlib.Core.Path.{◌≡◌, refl, ap, ◌∙◌}
use Prim.Native.Nat.{ℕ, ◌+◌, ◌*◌, ◌/◌, ◌<◌, ◌≤◌}
use native.Mathlib.Omega.{arith}
use mathlib.Core.List.{List}
use lib.ListN.{length, get_or}
use Rattle.b3d_pieces_spec.specs.declared.Open.{Open}
use Rattle.b3d_pieces_spec.specs.Row.{open_at, put_open}
use Rattle.b3d_pieces_spec.specs.Close.{piece}
use Rattle.b3d_pieces_spec.proofs.RowLaws.{open_put, open_below, put-length}
use Rattle.b3d_pieces_judge_step.specs.declared.Judge.{Judge}
use Rattle.b3d_pieces_judge_step.specs.Takes.{held_of, TakeReady}
use Rattle.b3d_pieces_judge_step.specs.declared.Turn.{Turn}
use Rattle.b3d_pieces_judge_step.specs.Loops.{Begins, StepIs, left_of, rest_of}
use Rattle.b3d_pieces_judge_step.specs.Runs.{CanRun, RunIs}
use Rattle.b3d_pieces_judge_step.proofs.LoopLaws.{first_rest}
use Rattle.b3d_pieces_judge_step.proofs.RunLaws.{Running, run-first, run-get, run-byte, run_ready, run-less, run-next, run-last}
use Rattle.b3d_pieces_skip.specs.Passes.{PassReady, PassIs}
use Rattle.b3d_pieces_skip.proofs.PassLaws.{going_ready, pass_running}

pub record Inv (row₀ p : List ℕ) (t₀ : Turn) (row : List ℕ) (t : Turn) : Type 0 where
  pub running : Running (length row / 11) (rest_of t₀ (open_at row₀) p) t₀.judge.shut p t (open_at row)
  pub long : length row ≡ length row₀

module _ (j : Judge) (row p : List ℕ) (b : Turn) (c : CanRun j (length row / 11) (open_at row)) (e : Begins j (length p) b) where
  abbrev begun : Running (length row / 11) (piece (held_of j (open_at row)) p) j.shut p b (open_at row)
  begun = run-first j (length row / 11) (open_at row) p b c e

  pub first_ready : PassReady b p
  first_ready = going_ready b (open_at row) p begun.going

  pub inv_first : (t : Turn) → PassIs b p t → Inv row p t row t
  inv_first t s = record { running = record { going = s.going (open_at row) begun.going; room = c.room; ends = refl; shut = refl }; long = refl }

module _ (row₀ p : List ℕ) (t₀ : Turn) (row : List ℕ) (t : Turn) (i : Inv row₀ p t₀ row t) where
  abbrev n : ℕ
  n = length row / 11

  pub inv_get : t.get * 11 + 11 ≤ length row
  inv_get = let m = run-get n _ _ p t (open_at row) i.running in let r = i.running.room in omega arith

  pub inv_byte : t.at < t.end → t.at < length p
  inv_byte h = run-byte n _ _ p t (open_at row) i.running h

  pub inv_long : length row ≡ length row₀
  inv_long = i.long

  module _ (h : t.at < t.end) (top : Open) (et : top ≡ open_at row t.get) where
    pub inv_ready : TakeReady t.judge top
    inv_ready = run_ready n _ _ p t (open_at row) i.running h top et

    module _ (r : Turn) (s : StepIs t top (get_or p t.at 0) r) where
      pub inv_put : r.put * 11 + 11 ≤ length row
      inv_put = let m = s.took.put in let k = i.running.room in omega arith

      new : open_at (put_open row r.put r.rec) r.put ≡ r.rec
      new = open_put row r.put r.rec inv_put

      old : (k : ℕ) → k < r.put → open_at (put_open row r.put r.rec) k ≡ open_at row k
      old k l = open_below row r.put k r.rec l

      stepped : Running n (rest_of t₀ (open_at row₀) p) t₀.judge.shut p r (open_at (put_open row r.put r.rec))
      stepped = run-next n _ _ p t (open_at row) i.running h top et r s (open_at (put_open row r.put r.rec)) new old

      pub next_ready : PassReady r p
      next_ready = going_ready r (open_at (put_open row r.put r.rec)) p stepped.going

      module _ (q : Turn) (z : PassIs r p q) where
        pub inv_less : left_of q < left_of t
        inv_less =
            let a = run-less n _ _ p t (open_at row) i.running h top et r s (open_at (put_open row r.put r.rec)) new old in
            let b = z.less in
            omega arith

        pub inv_next : (row' : List ℕ) → row' ≡ put_open row r.put r.rec → Inv row₀ p t₀ row' q
        inv_next row' e = rw e (record {
          running = rw (put-length row r.put r.rec) (pass_running n _ _ p r q (open_at (put_open row r.put r.rec)) z stepped);
          long = put-length row r.put r.rec ∙ i.long;
        })

  pub inv_last : (j : Judge) → CanRun j (length row₀ / 11) (open_at row₀) → (b : Turn) → Begins j (length p) b → PassIs b p t₀ → t.end ≤ t.at → RunIs j (open_at row₀) p t.judge (length row / 11) (open_at row)
  inv_last j c b e z h =
      run-last n _ _ p t (open_at row) i.running j (open_at row₀) (z.rest (open_at row₀) ∙ first_rest j (open_at row₀) p b e c.calm) (z.shut ∙ ap (λ (x : Judge). x.shut) e.judge) h

pub ruleset run_laws = (first_ready, inv_first, inv_get, inv_byte, inv_long, inv_ready, inv_put, next_ready, inv_less, inv_next, inv_last)
