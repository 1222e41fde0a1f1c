-- What the rounds promise, over any row. A row is known by how many records it has, n, and by the open chunk at each place, rs.
use Rattle.layout.specs.Refused.{refusal_at}
use Rattle.std.specs.Prelude.{◌≡◌, ℕ, ◌<◌, ◌≤◌, List, length, get_or, ltb, Err}
use Rattle.b3d_pieces_spec.specs.Limits.{over_counted}
use Rattle.b3d_pieces_spec.specs.declared.Open.{Open}
use Rattle.b3d_pieces_spec.specs.Close.{closing}
use Rattle.b3d_pieces_judge_step.specs.declared.Turn.{Turn}
use Rattle.b3d_pieces_judge_step.specs.Takes.{held_of}
use Rattle.b3d_pieces_judge_step.specs.Loops.{StepIs, Going}
use Rattle.b3d_pieces_skip.specs.Passes.{PassIs}
use Rattle.b3d_pieces_state.specs.declared.OpenRecord.{OpenRecord}
use Rattle.b3d_pieces_state.specs.declared.PieceState.{PieceState}
use Rattle.b3d_pieces_state.specs.declared.PieceFed.{PieceFed}
use Rattle.b3d_pieces_state.specs.Records.{open_in}
use Rattle.b3d_pieces_state.specs.States.{judge_in, state_of}
use Rattle.b3d_pieces_answers.specs.Closes.{closing_of, answer_by, word_answer}
use Rattle.b3d_pieces_words.specs.Called.{Holding, shutting}
use Rattle.b3d_pieces_records_tests.specs.declared.RowWeight.{RowWeight}
use Rattle.b3d_pieces_records_tests.specs.Weights.{NumberIs, place_of}
use Rattle.b3d_pieces_at_once.specs.declared.AtOnce.{AtOnce}
use Rattle.b3d_pieces_at_once.specs.Onces.{turn_at}
use Rattle.b3d_pieces_records_loop.specs.declared.Round.{Round}
use Rattle.b3d_pieces_records_loop.specs.declared.PieceClosed.{PieceClosed}

-- ---- the row as records

-- a record of zeros
abbrev pub blank : OpenRecord
blank = record { tag = 0; head = 0; end = 0; turn = 0; spent = 0; level = 0; first = 0; second = 0; third = 0; count = 0; told = 0 }

-- the open chunk of record i of a row
abbrev pub opens_in : List OpenRecord → ℕ → Open
opens_in row i = open_in (get_or row i blank)

-- a state and a row of numbers only, as C can hold them
abbrev pub numbers : Holding PieceState (List OpenRecord)
numbers = record { judge = judge_in; count = length; at = opens_in }

-- ---- the first round

-- the promise of the first round r over a piece of this many bytes, after those that x took at once
pub record FirstRoundIs (x : AtOnce) (bytes : ℕ) (r : Round) : Type 0 where
  -- the turn is at the bytes that are left
  pub turn : r.turn ≡ turn_at (judge_in x.fed.state) x.at bytes
  -- another round follows if bytes are left
  pub go : r.go ≡ ltb r.turn.at r.turn.end
  -- the record to read is the turn's
  pub get : r.get ≡ r.turn.get

-- ---- turns

-- what a turn asks of its round: there is a row with the record rec at the place to read
pub record TurnReady (t : Round) (rec : OpenRecord) (p : List ℕ) : Type 0 where
  -- the row
  pub row : ℕ → Open
  -- the loop's invariant holds with it
  pub going : Going t.turn row p
  -- rec is its record at the place to read
  pub top : open_in rec ≡ row t.turn.get
  -- bytes are left
  pub more : t.turn.at < t.turn.end

-- what a turn did
pub data TurnDid (t : Round) (rec : OpenRecord) (p : List ℕ) (r : Round) : Type 0 where
  -- all bytes left were taken at once, and the record goes back as it was
  ended : PassIs t.turn p r.turn → r.turn.end ≤ r.turn.at → r.put ≡ t.get → r.rec ≡ rec → TurnDid t rec p r
  -- bytes were taken at once up to the turn y, then a step was made at the byte y .at
  stepped : (y : Turn) → PassIs t.turn p y → y.at < y.end → StepIs y (open_in rec) (get_or p y.at 0) r.turn → r.put ≡ r.turn.put → open_in r.rec ≡ r.turn.rec
      → TurnDid t rec p r

-- the promise of a round r that is a turn
pub record TurnedIs (t : Round) (rec : OpenRecord) (p : List ℕ) (r : Round) : Type 0 where
  -- what the turn did
  pub is : TurnDid t rec p r
  -- another round follows if bytes are left
  pub go : r.go ≡ ltb r.turn.at r.turn.end
  -- the record to read is the turn's
  pub get : r.get ≡ r.turn.get

-- ---- after the last round

-- the promise of a piece's answer r after the last round t
pub record LastIs (t : Round) (r : PieceFed) : Type 0 where
  -- the number is 0
  pub number : r.number ≡ 0
  -- the place is 0
  pub place : r.place ≡ 0
  -- the state is what the judge holds
  pub state : r.state ≡ state_of t.turn.judge

-- ---- the close

-- what the close's answer asks of the weight of the row
pub record CloseReady (w : RowWeight) : Type 0 where
  -- `load` is at most 16,777,218
  pub most : w.load ≤ over_counted

-- the promise of the close's answer r, for the state s and a row of the weight w
pub record ClosedIs (w : RowWeight) (s : PieceState) (r : PieceClosed) : Type 0 where
  -- the number that the call begins with
  pub number : ℕ
  -- it is that of s and the row
  pub says : NumberIs w (judge_in s) number
  -- on 0 it is what all bytes joined come to, whatever stands in the row
  pub answer : number ≡ 0 → (rs : ℕ → Open) → r.answer ≡ word_answer (answer_by (closing_of (closing (held_of (judge_in s) rs))))
  -- on 0 the file is closed
  pub next : number ≡ 0 → r.state ≡ state_of (shutting (judge_in s))
  -- on a refusal it has only the number and the place
  pub refused : (number ≡ 0 → ⊥) → r.answer ≡ word_answer (answer_by (Err (refusal_at number (place_of number))))
  -- on a refusal the state is as it was
  pub state : (number ≡ 0 → ⊥) → r.state ≡ s
