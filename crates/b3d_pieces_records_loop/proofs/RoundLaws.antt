-- The laws of the rounds' functions, in the words of the code.
use Rattle.layout.specs.Refused.{refusal_at}
use Rattle.layout.specs.declared.Refusal.{Refusal}
use Rattle.std.specs.Prelude.{Err}
use Rattle.std.specs.Prelude as std
use Rattle.b3d_pieces_spec.specs.declared.Totals.{Totals}
use mathlib.Core.Path.{◌≡◌, refl, ap, sym, subst, ◌∙◌}
use Prim.Native.Nat.{ℕ, ◌<◌, ◌≤◌}
use native.Mathlib.Omega.{arith}
use mathlib.Core.Bool.{Bool, true, false}
use mathlib.Core.List.{List}
use lib.ListN.{length, get_or}
use lib.Dec.{ltb, eqb}
use borrow.Author.Tests.{le-ltb}
use Rattle.wire.specs.Test.{if}
use Rattle.b3d_spec.specs.declared.Answer.{Answer}
use Rattle.b3d_spec.specs.declared.Tag.TheVariants.{BB3D}
use Rattle.b3d_pieces_spec.specs.declared.Open.{Open}
use Rattle.b3d_pieces_spec.specs.Machine.{fresh}
use Rattle.b3d_pieces_spec.specs.Close.{closing}
use Rattle.b3d_pieces_step.specs.Turns.{slot_of, pends}
use Rattle.b3d_pieces_item_steps.specs.declared.Now.{Now}
use Rattle.b3d_pieces_judge_step.specs.declared.Judge.{Judge}
use Rattle.b3d_pieces_judge_step.specs.declared.Turn.{Turn}
use Rattle.b3d_pieces_judge_step.specs.Takes.{held_of, TakeReady}
use Rattle.b3d_pieces_judge_step.specs.Loops.{StepIs, Going}
use Rattle.b3d_pieces_judge_step.proofs.LoopLaws.{turn_ready}
use Rattle.b3d_pieces_skip.specs.Passes.{PassReady, PassIs}
use Rattle.b3d_pieces_skip.proofs.PassLaws.{going_ready}
use Rattle.b3d_pieces_state.specs.declared.OpenRecord.{OpenRecord}
use Rattle.b3d_pieces_state.specs.declared.PieceState.{PieceState}
use Rattle.b3d_pieces_state.specs.declared.PieceFed.{PieceFed}
use Rattle.b3d_pieces_state.specs.Records.{open_in, record_of}
use Rattle.b3d_pieces_state.specs.States.{now_by, judge_in, state_of}
use Rattle.b3d_pieces_state.proofs.RecordLaws.{record_back}
use Rattle.b3d_pieces_answers.specs.Closes.{closing_of, answer_by, word_answer, Closes}
use Rattle.b3d_pieces_words.specs.Called.{shutting}
use Rattle.b3d_pieces_records_tests.specs.declared.RowWeight.{RowWeight}
use Rattle.b3d_pieces_records_tests.specs.Weights.{NumberIs, place_of}
use Rattle.b3d_pieces_at_once.specs.declared.AtOnce.{AtOnce}
use Rattle.b3d_pieces_at_once.specs.Onces.{turn_at}
use Rattle.b3d_pieces_records_loop.specs.declared.Round.{Round}
use Rattle.b3d_pieces_records_loop.specs.declared.PieceClosed.{PieceClosed}
use Rattle.b3d_pieces_records_loop.specs.Rounds.{FirstRoundIs, TurnReady, ended, stepped, TurnedIs, LastIs, CloseReady, ClosedIs}

-- ---- the first round

pub first_is : (x : AtOnce) (bytes : ℕ) (j : Judge) → j ≡ judge_in x.fed.state → (get : ℕ) → get ≡ slot_of j.depth → (blank : Open) → blank ≡ fresh BB3D 0 0 0 0 → (rec : OpenRecord)
    → (r : Round) → r ≡ record { go = ltb x.at bytes; get = get; put = 0; rec = rec; turn = record { judge = j; at = x.at; end = bytes; get = get; put = 0; rec = blank } } → FirstRoundIs x bytes r
first_is x bytes j ej get eg blank eb rec r q = rw q (record { turn = turn_is; go = refl; get = refl })
  where
    turn_is : record { judge = j; at = x.at; end = bytes; get = get; put = 0; rec = blank } ≡ turn_at (judge_in x.fed.state) x.at bytes
    turn_is = ap (λ (g : ℕ). record { judge = j; at = x.at; end = bytes; get = g; put = 0; rec = blank }) eg
        ∙ ap (λ (o : Open). record { judge = j; at = x.at; end = bytes; get = slot_of j.depth; put = 0; rec = o }) eb
        ∙ ap (λ (z : Judge). turn_at z x.at bytes) ej

-- ---- a turn

module _ (t : Round) (rec : OpenRecord) (p : List ℕ) (h : TurnReady t rec p) where
  pub turn-pass : PassReady t.turn p
  turn-pass = going_ready t.turn h.row p h.going

  module _ (y : Turn) (z : PassIs t.turn p y) where
    passed : Going y h.row p
    passed = z.going h.row h.going

    pub turn-ended : y.end ≤ y.at → (r : Round) → r ≡ record { go = false; get = y.get; put = t.get; rec = rec; turn = y } → TurnedIs t rec p r
    turn-ended l r q = rw q (record { is = ended z l refl refl; go = sym (le-ltb y.at y.end l); get = refl })

    module _ (l : y.at < y.end) where
      pub turn_byte : y.at < length p
      turn_byte = let e = passed.end in omega arith

      module _ (f : Open) (ef : f ≡ open_in rec) where
        pub turn-take : TakeReady y.judge f
        turn-take = turn_ready y h.row h.row p passed l f (ef ∙ h.top ∙ ap h.row (sym z.get))

        pub turn-stepped : (x : Turn) → StepIs y f (get_or p y.at 0) x → (back : OpenRecord) → back ≡ record_of x.rec
            → (r : Round) → r ≡ record { go = ltb x.at x.end; get = x.get; put = x.put; rec = back; turn = x } → TurnedIs t rec p r
        turn-stepped x s back eb r q = rw q (record {
          is = stepped y z l (subst (λ (o : Open). StepIs y o (get_or p y.at 0) x) ef s) refl (ap open_in eb ∙ record_back x.rec);
          go = refl;
          get = refl;
        })

-- ---- after the last round

pub last-is : (t : Round) (x : PieceState) → x ≡ state_of t.turn.judge → (r : PieceFed) → r ≡ record { number = 0; place = 0; state = x } → LastIs t r
last-is t x ex r q = rw q (record { number = refl; place = refl; state = ex })

-- ---- the close

pub close-load : (w : RowWeight) → CloseReady w → w.load ≤ 16777218
close-load w h = h.most

calm-by : (a b c d : Bool) (x y z u v : Now) → pends x ≡ false → pends y ≡ false → pends z ≡ false → pends u ≡ false → pends v ≡ false → pends (if a x (if b y (if c z (if d u v)))) ≡ false
unfolding if
calm-by true b c d x y z u v hx hy hz hu hv = hx
calm-by false true c d x y z u v hx hy hz hu hv = hy
calm-by false false true d x y z u v hx hy hz hu hv = hz
calm-by false false false true x y z u v hx hy hz hu hv = hu
calm-by false false false false x y z u v hx hy hz hu hv = hv

-- what a state stands for never waits
never_pends : (s : PieceState) → pends (judge_in s).now ≡ false
unfolding judge_in now_by
never_pends s = calm-by (eqb s.kind 0) (eqb s.kind 1) (eqb s.kind 2) (eqb s.kind 3) _ _ _ _ _ refl refl refl refl refl

module _ (w : RowWeight) (s : PieceState) (j : Judge) (ej : j ≡ judge_in s) where
  pub close-calm : pends j.now ≡ false
  close-calm = subst (λ (x : Judge). pends x.now ≡ false) (sym ej) (never_pends s)

  module _ (m : ℕ) (k : NumberIs w j m) (r : PieceClosed) where
    number_is : NumberIs w (judge_in s) m
    number_is = subst (λ (x : Judge). NumberIs w x m) ej k

    pub closed-taken : m ≡ 0 → (v : std.Result Totals Refusal) → Closes j v → (x : Answer) → x ≡ word_answer (answer_by v) → (z : PieceState) → z ≡ state_of (shutting j) → r ≡ record { answer = x; state = z } → ClosedIs w s r
    closed-taken e v c x ex z ez q = rw q (record {
      number = m;
      says = number_is;
      answer = λ y rs. ex ∙ ap (λ (u : std.Result Totals Refusal). word_answer (answer_by u)) (c.is close-calm rs) ∙ ap (λ (u : Judge). word_answer (answer_by (closing_of (closing (held_of u rs))))) ej;
      next = λ y. ez ∙ ap (λ (u : Judge). state_of (shutting u)) ej;
      refused = λ f. absurd (f e);
      state = λ f. absurd (f e);
    })

    pub closed-refused : (m ≡ 0 → ⊥) → (place : ℕ) → place ≡ place_of m → (x : Answer) → x ≡ word_answer (answer_by (Err (refusal_at m place))) → r ≡ record { answer = x; state = s } → ClosedIs w s r
    closed-refused f place ep x ex q = rw q (record {
      number = m;
      says = number_is;
      answer = λ y rs. absurd (f y);
      next = λ y. absurd (f y);
      refused = λ g. ex ∙ ap (λ (u : ℕ). word_answer (answer_by (Err (refusal_at m u)))) ep;
      state = λ g. refl;
    })

pub ruleset closed_laws = (close-load, close-calm, closed-taken, closed-refused)
