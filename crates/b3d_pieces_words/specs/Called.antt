-- What the calls answer and leave, however a caller holds state and row (`Holding`).
use Rattle.layout.specs.Refused.{refusal_at}
use Rattle.std.specs.Prelude.{◌≡◌, ℕ, ◌/◌, ◌<◌, ◌≤◌, true, false, List, [], ◌∷◌, length, Err}
use Rattle.b3d_pieces_spec.specs.declared.Open.{Open}
use Rattle.b3d_pieces_spec.specs.Row.{open_at, record_words}
use Rattle.wire.specs.Bytes.{AllBytes}
use Rattle.layout.specs.Refusals as refusals
use Rattle.b3d_spec.specs.declared.Answer.{Answer}
use Rattle.b3d_spec.specs.declared.Mode.TheVariants.{Strict}
use Rattle.b3d_spec.specs.Answers.{read_answer}
use Rattle.b3d_pieces_spec.specs.Close.{nothing, fresh_held, closing}
use Rattle.b3d_pieces_spec.specs.Calls.{Pieces, taken, records as lent_records}
use Rattle.b3d_pieces_spec.specs.InPieces.{Ample}
use Rattle.b3d_pieces_item_steps.specs.declared.Now.TheVariants.{Over}
use Rattle.b3d_pieces_step.specs.Turns.{pends}
use Rattle.b3d_pieces_judge_step.specs.declared.Judge.{Judge}
use Rattle.b3d_pieces_judge_step.specs.Takes.{held_of, GoodJudge}
use Rattle.b3d_pieces_judge_step.specs.Runs.{CanRun, RunIs}
use Rattle.b3d_pieces_answers.specs.Closes.{closing_of, answer_by, word_answer}

-- a way to hold state and row: S is the type of a state, R of a row
pub record Holding (S R : Type 0) : Type 0 where
  -- what the judge holds by a state
  pub judge : S → Judge
  -- how many records a row has
  pub count : R → ℕ
  -- the open chunk at each place of a row
  pub at : R → ℕ → Open

-- the judge itself as the state, and a row of eleven words to a record
abbrev pub words : Holding Judge (List ℕ)
words = record { judge = λ j. j; count = λ row. length row / record_words; at = open_at }

-- what the definitions hold for a state and a row
abbrev pub pieces_of : {S R : Type 0} → Holding S R → S → R → Pieces
pieces_of h st row = record { held = held_of (h.judge st) (h.at row); shut = (h.judge st).shut }

-- what the judge holds before the first byte
abbrev pub fresh_judge : Judge
fresh_judge = record { size = 0; worth = 0; letters = 0; length = 0; shut = false; depth = 0; now = Over nothing }

-- a state that a file may begin with, whatever stands in the row
pub record Fresh (j : Judge) : Type 0 where
  -- the state stands for what the definitions begin with
  pub is : (rs : ℕ → Open) → held_of j rs ≡ fresh_held
  -- the file is not closed
  pub shut : j.shut ≡ false
  -- no chunk waits to be entered or left
  pub calm : pends j.now ≡ false
  -- the invariant holds
  pub good : (rs : ℕ → Open) → GoodJudge j rs

-- a piece is refused: `said` and `at` are its number and place, `next` and `after` the state and the row after it
pub record RefusedAt {S R : Type 0} (n p : ℕ) (st : S) (row : R) (said at : ℕ) (next : S) (after : R) : Type 0 where
  -- the number is n
  pub number : said ≡ n
  -- the place is p
  pub place : at ≡ p
  -- the state is as it was
  pub state : next ≡ st
  -- no record is changed
  pub records : after ≡ row

-- the promise of a piece s with the state st and the row: `said` and `at` are its number and place, `next` and `after` the state and the row after it
pub record PieceIs {S R : Type 0} (h : Holding S R) (st : S) (row : R) (s : List ℕ) (said at : ℕ) (next : S) (after : R) : Type 0 where
  -- fewer than 19 records: 11 with size 19
  pub short : h.count row < lent_records → RefusedAt refusals.too_short lent_records st row said at next after
  -- after the close: 15 at place 0
  pub shut : lent_records ≤ h.count row → (h.judge st).shut ≡ true → RefusedAt refusals.closed 0 st row said at next after
  -- a state and a row as calls leave them: the piece is taken, and what is held is what the machine holds after its bytes
  pub taken : lent_records ≤ h.count row → (h.judge st).shut ≡ false → CanRun (h.judge st) (h.count row) (h.at row)
      → (said ≡ 0) × (at ≡ 0) × RunIs (h.judge st) (h.at row) s (h.judge next) (h.count after) (h.at after)
  -- another state or row: 15 at place 0
  pub other : lent_records ≤ h.count row → (h.judge st).shut ≡ false → (CanRun (h.judge st) (h.count row) (h.at row) → ⊥)
      → RefusedAt refusals.closed 0 st row said at next after

-- what the judge holds, j, after the close
abbrev pub shutting : Judge → Judge
shutting j = record { size = j.size; worth = j.worth; letters = j.letters; length = j.length; shut = true; depth = j.depth; now = j.now }

-- the close is refused with n at p
pub record NotClosed {S : Type 0} (n p : ℕ) (st : S) (a : Answer) (next : S) : Type 0 where
  -- the answer a has only that number and place
  pub answer : a ≡ answer_by (Err (refusal_at n p))
  -- the state is as it was
  pub state : next ≡ st

-- the promise of the close with the state st and the row, which is only read: a is its answer, `next` the state after it
pub record CloseIs {S R : Type 0} (h : Holding S R) (st : S) (row : R) (a : Answer) (next : S) : Type 0 where
  -- fewer than 19 records: 11 with size 19
  pub short : h.count row < lent_records → NotClosed refusals.too_short lent_records st a next
  -- after the close: 15 at place 0
  pub shut : lent_records ≤ h.count row → (h.judge st).shut ≡ true → NotClosed refusals.closed 0 st a next
  -- a state and a row as calls leave them: a is what all bytes joined come to, and the file is closed
  pub taken : lent_records ≤ h.count row → (h.judge st).shut ≡ false → CanRun (h.judge st) (h.count row) (h.at row)
      → (a ≡ word_answer (answer_by (closing_of (closing (held_of (h.judge st) (h.at row)))))) × (h.judge next ≡ shutting (h.judge st))
  -- another state or row: 15 at place 0
  pub other : lent_records ≤ h.count row → (h.judge st).shut ≡ false → (CanRun (h.judge st) (h.count row) (h.at row) → ⊥)
      → NotClosed refusals.closed 0 st a next

-- calls of pieces one after the other, each with state and row as the last left them
pub data Called {S R : Type 0} (h : Holding S R) : S → R → List (ℕ × List ℕ) → S → R → Type 0 where
  -- no call
  done : {st : S} {row : R} → Called h st row [] st row
  -- a call with the row as the last call left it
  call : {st st' : S} {row row' : R} {l : List (ℕ × List ℕ)} (s : List ℕ) (said at : ℕ) (next : S) (after : R) → PieceIs h st row s said at next after
      → Called h next after l st' row' → Called h st row ((h.count row, s) ∷ l) st' row'
  -- a call that is lent another row of fewer than 19 records; the next call gets the row as it was
  short : {st st' : S} {row row' : R} {l : List (ℕ × List ℕ)} (few : R) (s : List ℕ) (said at : ℕ) (next : S) (after : R) → h.count few < lent_records
      → PieceIs h st few s said at next after → Called h next row l st' row'
      → Called h st row ((h.count few, s) ∷ l) st' row'

-- E6, said of calls
pub record JudgedInCalls {S R : Type 0} (h : Holding S R) : Type 0 where
  -- from a fresh state and any row of 19 records, after any calls of pieces, the close answers what the reader, lent ample tables, says of all bytes that
  -- were taken, joined
  pub says : (st st' : S) (row row' : R) (l : List (ℕ × List ℕ)) (a : Answer) (next : S) → Fresh (h.judge st) → lent_records ≤ h.count row
      → Called h st row l st' row' → CloseIs h st' row' a next
      → AllBytes (taken l) → (room : ℕ → ℕ) → Ample room → a ≡ read_answer Strict room (taken l)
