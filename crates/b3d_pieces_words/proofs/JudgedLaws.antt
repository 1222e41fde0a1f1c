-- A file in calls is answered as the reader answers all bytes that were taken.
use mathlib.Core.Path.{◌≡◌, refl, ap, sym, subst, ◌∙◌}
use Prim.Native.Nat.{ℕ, ◌<◌, ◌≤◌}
use native.Mathlib.Omega.{arith}
use mathlib.Core.Bool.{false}
use mathlib.Core.List.{List, [], ◌∷◌, map}
use lib.Dec.{leb}
use borrow.Author.Tests.{le-leb, lt-leb}
use Rattle.wire.specs.Bytes.{AllBytes}
use Rattle.layout.specs.Lists.{All}
use Rattle.layout.specs.Result.{Result, accept, reject, check}
use Rattle.b3d_spec.specs.declared.Answer.{Answer}
use Rattle.b3d_spec.specs.declared.Mode.TheVariants.{Strict}
use Rattle.b3d_spec.specs.Rules.{row_limit}
use Rattle.b3d_spec.specs.Fitting.{FitSlots}
use Rattle.b3d_spec.specs.Scene.{Scene, Brush}
use Rattle.b3d_spec.specs.Tables.{node_tables, tables, counts}
use Rattle.b3d_spec.specs.Answers.{judge, answer, read_answer}
use Rattle.b3d_spec.proofs.AnswerLaws.{judge_got, Small}
use Rattle.b3d_spec.proofs.Laws.{fine}
use Rattle.b3d_spec.proofs.RefusalLaws.{judge-place}
use Rattle.b3d_pieces_spec.specs.declared.Totals.{Totals}
use Rattle.b3d_pieces_spec.specs.Close.{closing, answer_of}
use Rattle.b3d_pieces_spec.specs.Calls.{Pieces, fresh_pieces, allowed, on_call, after_piece, close_answer, calls, taken}
use Rattle.b3d_pieces_spec.specs.InPieces.{Ample}
use Rattle.b3d_pieces_spec.proofs.CallLaws.{in_calls, ample_reads}
use Rattle.b3d_pieces_judge_step.specs.Takes.{held_of}
use Rattle.b3d_pieces_judge_step.specs.Runs.{CanRun, RunIs}
use Rattle.b3d_pieces_answers.specs.Closes.{closing_of, as_word, answer_by, word_answer}
use Rattle.b3d_pieces_words.specs.Called.{Holding, pieces_of, Fresh, PieceIs, CloseIs, Called, done, call, short, JudgedInCalls}
use Rattle.b3d_pieces_answers.proofs.ClosingLaws.{word_low}

-- ---- what is allowed

module _ (lent : ℕ) (p : Pieces) where
  allowed-short : lent < 19 → allowed lent p ≡ reject 11 19
  unfolding allowed check
  allowed-short h = rw (lt-leb 19 lent h)

  allowed-yes : 19 ≤ lent → p.shut ≡ false → allowed lent p ≡ accept tt
  unfolding allowed check
  allowed-yes h e = rw (le-leb 19 lent h, e)

  -- the close of an open state
  open_close : 19 ≤ lent → p.shut ≡ false → close_answer lent p ≡ answer_of (closing p.held)
  unfolding close_answer allowed check
  open_close h e = rw (le-leb 19 lent h, e)

-- ---- calls

module _ {S R : Type 0} (h : Holding S R) where
  module _ (st : S) (row : R) (s : List ℕ) (said at : ℕ) (next : S) (after : R) (p : PieceIs h st row s said at next after) where
    run_is : CanRun (h.judge st) (h.count row) (h.at row) → (h.judge st).shut ≡ false → RunIs (h.judge st) (h.at row) s (h.judge next) (h.count after) (h.at after)
    run_is c o = (p.taken c.room o c).2

    call-is : CanRun (h.judge st) (h.count row) (h.at row) → (h.judge st).shut ≡ false → pieces_of h next after ≡ after_piece (h.count row) s (pieces_of h st row)
    unfolding after_piece on_call
    call-is c o =
        let t = run_is c o in
        rw (allowed-yes (h.count row) (pieces_of h st row) c.room o, t.is, t.shut, o)

  short-is : (lent : ℕ) (s : List ℕ) (q : Pieces) → lent < 19 → after_piece lent s q ≡ q
  unfolding after_piece on_call
  short-is lent s q l = rw (allowed-short lent q l)

  -- what is held after calls is what the definition says
  calls_are : {st st' : S} {row row' : R} {l : List (ℕ × List ℕ)} → Called h st row l st' row' → CanRun (h.judge st) (h.count row) (h.at row) → (h.judge st).shut ≡ false
      → (pieces_of h st' row' ≡ calls (pieces_of h st row) l) × CanRun (h.judge st') (h.count row') (h.at row') × ((h.judge st').shut ≡ false)
  calls_are done c o = (refl, c, o)
  calls_are {st = st} {st' = st'} {row = row} {row' = row'} (call {l = l} s said at next after p k) c o =
      let t = run_is st row s said at next after p c o in
      let n = calls_are {st = next} {st' = st'} {row = after} {row' = row'} k t.next (t.shut ∙ o) in
      (n.0 ∙ ap (λ (y : Pieces). calls y l) (call-is st row s said at next after p c o), n.1, n.2)
  calls_are {st = st} {st' = st'} {row = row} {row' = row'} (short {l = l} few s said at next after u p k) c o =
      let e = (p.short u).state in
      let n = calls_are {st = next} {st' = st'} {row = row} {row' = row'} k (subst (λ (y : S). CanRun (h.judge y) (h.count row) (h.at row)) (sym e) c) (ap (λ (y : S). (h.judge y).shut) e ∙ o) in
      (n.0 ∙ ap (λ (y : S). calls (pieces_of h y row) l) e ∙ ap (λ (y : Pieces). calls y l) (sym (short-is (h.count few) s (pieces_of h st row) u)), n.1, n.2)

-- ---- numbers of 32 bits

-- a number of 32 bits stays
same_word : (n : ℕ) → n ≤ 4294967295 → as_word n ≡ n
same_word n h = sym (word_low n n h refl)

same-words : (l : List ℕ) → All (λ n. n ≤ 4294967295) l → map as_word l ≡ l
same-words [] h = refl
same-words (n ∷ l) h = λ z. same_word n h.0 z ∷ same-words l h.1 z

pub record Short (a : Answer) : Type 0 where
  pub place : a.place ≤ 4294967295
  pub version : a.version ≤ 4294967295
  pub slots : a.n_texs ≤ 4294967295
  pub counts : All (λ n. n ≤ 4294967295) a.counts

same_answer : (a : Answer) → Short a → word_answer a ≡ a
same_answer a h = λ z. record {
  number = a.number;
  place = same_word a.place h.place z;
  version = same_word a.version h.version z;
  n_texs = same_word a.n_texs h.slots z;
  counts = same-words a.counts h.counts z;
}

low-counts : (t : Scene) → Small t → All (λ n. n ≤ 4294967295) (counts t)
unfolding counts tables node_tables
low-counts t h = (low h.0, (low h.1.0, (low h.1.1.0, (low h.1.1.1.0, (low h.1.1.1.1.0, (low h.1.1.1.1.1.0, (low h.1.1.1.1.1.1.0, (low h.1.1.1.1.1.1.1.0, (low h.1.1.1.1.1.1.1.1.0, (low h.1.1.1.1.1.1.1.1.1.0, tt))))))))))
  where
    low : {n : ℕ} → n ≤ row_limit → n ≤ 4294967295
    low h = omega arith

low-slots : (n : ℕ) (l : List Brush) → FitSlots n l → n ≤ 4294967295
low-slots n [] h = omega arith
low-slots n (b ∷ l) h = omega (arith, h.0)

short-answer : (s : List ℕ) → AllBytes s → (o : Result Scene) → judge Strict s ≡ o → Short (answer o)
unfolding answer
short-answer s all (accept t) e =
    let j = judge_got Strict s t e in
    let f = (fine Strict s t all j.0).0 in
    record { place = omega arith; version = omega (arith, f.version.0); slots = low-slots t.slots t.brushes f.slots; counts = low-counts t j.1 }
short-answer s all (reject n p) e =
    record { place = (let q = judge-place Strict s n p e in omega arith); version = omega arith; slots = omega arith; counts = (omega arith, (omega arith, (omega arith, (omega arith, (omega arith, (omega arith, (omega arith, (omega arith, (omega arith, (omega arith, tt)))))))))) }

by-closing : (o : Result Totals) → answer_by (closing_of o) ≡ answer_of o
unfolding answer_of
by-closing (accept g) = refl
by-closing (reject n p) = refl

-- the theorem
pub judged_in_calls : {S R : Type 0} (h : Holding S R) → JudgedInCalls h
judged_in_calls {S} {R} h = record { says = said }
  where
    said : (st st' : S) (row row' : R) (l : List (ℕ × List ℕ)) (a : Answer) (next : S) → Fresh (h.judge st) → 19 ≤ h.count row → Called h st row l st' row' → CloseIs h st' row' a next
        → AllBytes (taken l) → (room : ℕ → ℕ) → Ample room → a ≡ read_answer Strict room (taken l)
    said st st' row row' l a next f long k c all room ample =
        let n = calls_are h k (record { room = long; calm = f.calm; good = f.good (h.at row) }) f.shut in
        let begun : pieces_of h st row ≡ fresh_pieces = rw (f.is (h.at row), f.shut) in
        let m = n.1.room in
        let e : pieces_of h st' row' ≡ calls fresh_pieces l = n.0 ∙ ap (λ (y : Pieces). calls y l) begun in
        let same : answer_by (closing_of (closing (held_of (h.judge st') (h.at row')))) ≡ answer (judge Strict (taken l)) =
        by-closing (closing (held_of (h.judge st') (h.at row'))) ∙ sym (open_close (h.count row') (pieces_of h st' row') m n.2)
        ∙ ap (λ (y : Pieces). close_answer (h.count row') y) e ∙ in_calls (h.count row') m l in
        (c.taken m n.2 n.1).0
        ∙ ap word_answer same
        ∙ same_answer (answer (judge Strict (taken l))) (short-answer (taken l) all (judge Strict (taken l)) refl)
        ∙ sym (ample_reads room ample (taken l))
