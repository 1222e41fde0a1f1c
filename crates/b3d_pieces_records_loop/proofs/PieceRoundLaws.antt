-- A piece: what is answered where its bytes were taken at once or it is refused; and the loop over rounds, whose invariant holds at first, a round keeps it, and at the end it says what the contract does.
use mathlib.Core.Path.{◌≡◌, refl, ap, sym, subst, ◌∙◌}
use Prim.Native.Nat.{ℕ, ◌<◌, ◌≤◌}
use native.Mathlib.Omega.{arith}
use mathlib.Core.Bool.{Bool, true, false}
use mathlib.Core.List.{List}
use lib.ListN.{length, get_or, set, length-set}
use lib.Seq.{get_or-set_same, get_or-set_other, set-get_or}
use lib.Dec.{ltb, eqb}
use borrow.Author.Tests.{ltb-true, ltb-false, leb-true, eqb-true, eqb-false}
use Rattle.b3d_pieces_spec.specs.Close.{piece}
use Rattle.b3d_pieces_step.proofs.TurnLaws.{none}
use Rattle.b3d_pieces_judge_step.specs.declared.Judge.{Judge}
use Rattle.b3d_pieces_judge_step.specs.declared.Turn.{Turn}
use Rattle.b3d_pieces_judge_step.specs.Takes.{held_of}
use Rattle.b3d_pieces_judge_step.specs.Loops.{left_of}
use Rattle.b3d_pieces_judge_step.specs.Runs.{CanRun, RunIs}
use Rattle.b3d_pieces_judge_step.proofs.RunLaws.{Running, run-first, run-get, run-less, run-next, run-last}
use Rattle.b3d_pieces_judge_step.proofs.LoopLaws.{last_less}
use Rattle.b3d_pieces_skip.proofs.PassLaws.{pass_running}
use Rattle.b3d_pieces_state.specs.declared.OpenRecord.{OpenRecord}
use Rattle.b3d_pieces_state.specs.declared.PieceState.{PieceState}
use Rattle.b3d_pieces_state.specs.declared.PieceFed.{PieceFed}
use Rattle.b3d_pieces_state.specs.Records.{open_in}
use Rattle.b3d_pieces_state.specs.States.{judge_in}
use Rattle.b3d_pieces_state.proofs.StateLaws.{state-back}
use Rattle.b3d_pieces_words.specs.Called.{PieceIs}
use Rattle.b3d_pieces_words.proofs.CallLaws.{short-piece, shut-piece, other-piece, taken-piece}
use Rattle.b3d_pieces_records_tests.specs.declared.RowWeight.{RowWeight}
use Rattle.b3d_pieces_records_tests.specs.Weights.{place_of}
use Rattle.b3d_pieces_at_once.specs.declared.AtOnce.{AtOnce}
use Rattle.b3d_pieces_at_once.specs.Onces.{turn_at, OnceIs}
use Rattle.b3d_pieces_records_loop.specs.declared.Round.{Round}
use Rattle.b3d_pieces_records_loop.specs.Rounds.{blank, opens_in, numbers, FirstRoundIs, TurnReady, TurnDid, ended, stepped, TurnedIs, LastIs}
use Rattle.b3d_pieces_records_loop.proofs.WeighRoundLaws.{place-eleven, place_fifteen, place-zero, Weighing, by_cases, numbered, fine_open, fine_runs}

-- ---- a record is put into the row

opens-put : (row : List OpenRecord) (i : ℕ) (rec : OpenRecord) → i < length row → opens_in (set row i rec) i ≡ open_in rec
opens-put row i rec h = ap open_in (get_or-set_same row i rec blank h)

opens-below : (row : List OpenRecord) (i k : ℕ) (rec : OpenRecord) → k < i → opens_in (set row i rec) k ≡ opens_in row k
opens-below row i k rec h = ap open_in (get_or-set_other row i k rec blank (λ e. absurd (let x : k ≡ i = e in omega arith)))

-- ---- turns

pub record Inv (s : PieceState) (xs : List OpenRecord) (p : List ℕ) (t : Round) (rs : List OpenRecord) : Type 0 where
  pub long : length rs ≡ length xs
  pub runs : CanRun (judge_in s) (length xs) (opens_in xs)
  pub unshut : (judge_in s).shut ≡ false
  pub running : Running (length xs) (piece (held_of (judge_in s) (opens_in xs)) p) (judge_in s).shut p t.turn (opens_in rs)
  pub go : t.go ≡ ltb t.turn.at t.turn.end
  pub get : t.get ≡ t.turn.get

pub rounds_of : Round → ℕ
rounds_of t = left_of t.turn

module _ (s : PieceState) (xs : List OpenRecord) (p : List ℕ) where
  abbrev j : Judge
  j = judge_in s

  abbrev n : ℕ
  n = length xs

  -- ---- bytes taken at once

  module _ (w : RowWeight) (i : Weighing s xs w) (over : w.go ≡ false) (x : AtOnce) (h : OnceIs w s p x) where
    abbrev after : Turn
    after = turn_at (judge_in x.fed.state) x.at (length p)

    module _ (z : x.fed.number ≡ 0) where
      runs : CanRun j n (opens_in xs)
      runs = fine_runs s xs w i over x.fed.number h.number z

      runs_on : Running n (piece (held_of j (opens_in xs)) p) j.shut p after (opens_in xs)
      runs_on = pass_running n _ _ p (turn_at j 0 (length p)) after (opens_in xs) (h.pass z) (run-first j n (opens_in xs) p (turn_at j 0 (length p)) runs (record { judge = refl; at = refl; end = refl; get = refl }))

      taken-once : x.done ≡ true → PieceIs numbers s xs p x.fed.number x.fed.place x.fed.state xs
      taken-once e = taken-piece numbers s xs p x.fed.number x.fed.place x.fed.state xs runs.room (fine_open s xs w i over x.fed.number h.number z) runs z (h.place ∙ ap place_of z ∙ place-zero)
          (run-last n _ _ p after (opens_in xs) runs_on j (opens_in xs) refl refl (leb-true (length p) x.at (sym (h.done z) ∙ e)))

    refused-once : (x.fed.number ≡ 0 → ⊥) → PieceIs numbers s xs p x.fed.number x.fed.place x.fed.state xs
    refused-once f =
        let d = numbered s xs w i over x.fed.number h.number in
        by_cases s xs (PieceIs numbers s xs p x.fed.number x.fed.place x.fed.state xs)
        (λ k. short-piece numbers s xs p x.fed.number x.fed.place x.fed.state xs k (d.short k) (h.place ∙ ap place_of (d.short k) ∙ place-eleven) (h.state f) refl)
        (λ k o. shut-piece numbers s xs p x.fed.number x.fed.place x.fed.state xs k o (d.shut k o) (h.place ∙ ap place_of (d.shut k o) ∙ place_fifteen) (h.state f) refl)
        (λ k o. other-piece numbers s xs p x.fed.number x.fed.place x.fed.state xs k o (d.unfit k o f) (d.number k o f) (h.place ∙ ap place_of (d.number k o f) ∙ place_fifteen) (h.state f) refl)

    pub once-done : x.done ≡ true → PieceIs numbers s xs p x.fed.number x.fed.place x.fed.state xs
    once-done e = zero_or (eqb x.fed.number 0) refl
      where
        zero_or : (b : Bool) → eqb x.fed.number 0 ≡ b → PieceIs numbers s xs p x.fed.number x.fed.place x.fed.state xs
        zero_or true b = taken-once (eqb-true x.fed.number 0 b) e
        zero_or false b = refused-once (eqb-false x.fed.number 0 b)

    pub inv_first : x.done ≡ false → (t : Round) → FirstRoundIs x (length p) t → Inv s xs p t xs
    inv_first e t f = record {
      long = refl;
      runs = runs zero;
      unshut = fine_open s xs w i over x.fed.number h.number zero;
      running = subst (λ (y : Turn). Running n (piece (held_of j (opens_in xs)) p) j.shut p y (opens_in xs)) (sym f.turn) (runs_on zero);
      go = f.go;
      get = f.get;
    }
      where
        zero : x.fed.number ≡ 0
        zero = zero_or (eqb x.fed.number 0) refl
          where
            zero_or : (b : Bool) → eqb x.fed.number 0 ≡ b → x.fed.number ≡ 0
            zero_or true b = eqb-true x.fed.number 0 b
            zero_or false b = none (sym e ∙ h.stop (eqb-false x.fed.number 0 b))

  -- ---- rounds

  module _ (t : Round) (rs : List OpenRecord) (i : Inv s xs p t rs) where
    module _ (go : t.go ≡ true) where
      pub inv_get : t.get ≤ 18
      inv_get = let g = run-get n _ _ p t.turn (opens_in rs) i.running in let q = i.get in omega arith

      pub inv-room : 19 ≤ length rs
      inv-room = let l = i.long in let m = i.runs.room in omega arith

      more : t.turn.at < t.turn.end
      more = ltb-true t.turn.at t.turn.end (sym i.go ∙ go)

      top-is : open_in (get_or rs t.get blank) ≡ opens_in rs t.turn.get
      top-is = ap (opens_in rs) i.get

      pub inv_ready : TurnReady t (get_or rs t.get blank) p
      inv_ready = record { row = opens_in rs; going = i.running.going; top = top-is; more = more }

      module _ (r : Round) (x : TurnedIs t (get_or rs t.get blank) p r) where
        low : TurnDid t (get_or rs t.get blank) p r → r.put ≤ 18
        low (ended z l ep eb) = let g = inv_get in omega arith
        low (stepped y z l st ep eb) = let g = st.took.put in omega arith

        pub inv_put : r.put ≤ 18
        inv_put = low x.is

        -- what the turn makes of the loop
        record Onward : Type 0 where
          less : left_of r.turn < left_of t.turn
          running : Running n (piece (held_of j (opens_in xs)) p) j.shut p r.turn (opens_in (set rs r.put r.rec))

        onward : TurnDid t (get_or rs t.get blank) p r → Onward
        onward (ended z l ep eb) =
            let same : set rs r.put r.rec ≡ rs = ap (λ (k : ℕ). set rs k r.rec) ep ∙ ap (λ (o : OpenRecord). set rs t.get o) eb ∙ set-get_or rs t.get blank in
            let k = pass_running n _ _ p t.turn r.turn (opens_in rs) z i.running in
            record {
              less = last_less t.turn r.turn (opens_in rs) p k.going l more;
              running = subst (λ (row : List OpenRecord). Running n (piece (held_of j (opens_in xs)) p) j.shut p r.turn (opens_in row)) (sym same) k;
            }
        onward (stepped y z l st ep eb) =
            let k = pass_running n _ _ p t.turn y (opens_in rs) z i.running in
            let top = top-is ∙ ap (opens_in rs) (sym z.get) in
            let a = run-less n _ _ p y (opens_in rs) k l (open_in (get_or rs t.get blank)) top r.turn st (opens_in (set rs r.put r.rec)) (new ep eb) (old ep) in
            let b = z.less in
            record { less = omega arith; running = run-next n _ _ p y (opens_in rs) k l (open_in (get_or rs t.get blank)) top r.turn st (opens_in (set rs r.put r.rec)) (new ep eb) (old ep) }
          where
            new : r.put ≡ r.turn.put → open_in r.rec ≡ r.turn.rec → opens_in (set rs r.put r.rec) r.turn.put ≡ r.turn.rec
            new q o = ap (opens_in (set rs r.put r.rec)) (sym q) ∙ opens-put rs r.put r.rec (let a = inv_put in let b = inv-room in omega arith) ∙ o

            old : r.put ≡ r.turn.put → (k : ℕ) → k < r.turn.put → opens_in (set rs r.put r.rec) k ≡ opens_in rs k
            old q k h = opens-below rs r.put k r.rec (omega arith)

        pub inv_less : rounds_of r < rounds_of t
        unfolding rounds_of
        inv_less = (onward x.is).less

        pub inv_next : Inv s xs p r (set rs r.put r.rec)
        inv_next = record { long = length-set rs r.put r.rec ∙ i.long; runs = i.runs; unshut = i.unshut; running = (onward x.is).running; go = x.go; get = x.get }

    pub inv_last : t.go ≡ false → (r : PieceFed) → LastIs t r → PieceIs numbers s xs p r.number r.place r.state rs
    inv_last go r l =
        let d = run-last n _ _ p t.turn (opens_in rs) i.running j (opens_in xs) refl refl (ltb-false t.turn.at t.turn.end (sym i.go ∙ go)) in
        let b : judge_in r.state ≡ t.turn.judge = ap judge_in l.state ∙ state-back t.turn.judge d.next.calm in
        taken-piece numbers s xs p r.number r.place r.state rs i.runs.room i.unshut i.runs l.number l.place
        (subst (λ (k : ℕ). RunIs j (opens_in xs) p (judge_in r.state) k (opens_in rs)) (sym i.long) (subst (λ (x : Judge). RunIs j (opens_in xs) p x n (opens_in rs)) (sym b) d))
