-- What the weight of a row promises. A row is known by how many records it has, n, and by the open chunk at each place, rs.
use Rattle.std.specs.Prelude.{◌≡◌, ℕ, ◌+◌, ◌<◌, ◌≤◌, true, false, eqb}
use Rattle.wire.specs.Test.{if}
use Rattle.layout.specs.Refusals as refusals
use Rattle.b3d_pieces_spec.specs.Limits.{most_counted, over_counted}
use Rattle.b3d_pieces_spec.specs.declared.Open.{Open}
use Rattle.b3d_pieces_spec.specs.Good.{Deep, load}
use Rattle.b3d_pieces_step.specs.Turns.{stack_by}
use Rattle.b3d_pieces_judge_step.specs.declared.Judge.{Judge}
use Rattle.b3d_pieces_judge_step.specs.Runs.{CanRun}
use Rattle.b3d_pieces_valid_state.specs.Entry.{RowFits}
use Rattle.b3d_pieces_state.specs.declared.OpenRecord.{OpenRecord}
use Rattle.b3d_pieces_state.specs.declared.PieceState.{PieceState}
use Rattle.b3d_pieces_state.specs.Records.{open_in}
use Rattle.b3d_pieces_state.specs.States.{judge_in}
use Rattle.b3d_pieces_records_tests.specs.declared.RowWeight.{RowWeight}

-- ---- weighing

-- the weight of no record, with none to be weighed, where d of n records are in use
abbrev pub resting : ℕ → ℕ → RowWeight
resting d n = record { go = false; get = 0; depth = d; records = n; load = 0 }

-- w weighs the records of the row rs before `get`, where d of n records are in use
pub record Weighed (rs : ℕ → Open) (d n : ℕ) (w : RowWeight) : Type 0 where
  -- d records are in use
  pub depth : w.depth ≡ d
  -- the row has n
  pub records : w.records ≡ n
  -- `load` is at most 16,777,218
  pub most : w.load ≤ over_counted
  -- while records are weighed, the row has 19
  pub room : w.go ≡ true → 19 ≤ n
  -- while records are weighed, the one at `get` is in use
  pub some : w.go ≡ true → w.get < d
  -- while records are weighed, at most 18 are in use
  pub low : w.go ≡ true → d ≤ 18
  -- while records are weighed, the chunks before `get` are nested as a file's may be
  pub deep : w.go ≡ true → Deep (stack_by rs w.get)
  -- while records are weighed, `load` is the rows that these may still add
  pub sum : w.go ≡ true → load (stack_by rs w.get) ≡ w.load
  -- while records are weighed, `load` is at most 16,777,217
  pub few : w.go ≡ true → w.load ≤ most_counted
  -- afterwards `load` is the weight of all records in use, if the row has 19 and at most 18 are in use
  pub all : w.go ≡ false → 19 ≤ n → d ≤ 18 → RowFits rs d w.load

-- the promise of the first weight r, for the state s and a row of n records
pub record FirstWeighs (s : PieceState) (n : ℕ) (r : RowWeight) : Type 0 where
  -- whatever stands in the row
  pub is : (rs : ℕ → Open) → Weighed rs (judge_in s).depth n r

-- what weighing another record asks
pub record WeighReady (w : RowWeight) : Type 0 where
  -- `load` is at most 16,777,217
  pub few : w.load ≤ most_counted
  -- the record to weigh is one of the first 18
  pub get : w.get ≤ 17

-- the promise of weighing the record rec: r weighs it too
pub record WeighIs (w : RowWeight) (rec : OpenRecord) (r : RowWeight) : Type 0 where
  -- in every row that has this record there
  pub is : (rs : ℕ → Open) (d n : ℕ) → Weighed rs d n w → w.go ≡ true → open_in rec ≡ rs w.get → Weighed rs d n r
  -- if another record is weighed, it is the next one
  pub next : r.go ≡ true → r.get ≡ w.get + 1

-- ---- the number that a call begins with

-- r is the number that a call begins with, where j is held and the row has n records rs
pub record Numbered (j : Judge) (n : ℕ) (rs : ℕ → Open) (r : ℕ) : Type 0 where
  -- fewer than 19 records: 11
  pub short : n < 19 → r ≡ refusals.too_short
  -- after the close: 15
  pub shut : 19 ≤ n → j.shut ≡ true → r ≡ refusals.closed
  -- on 0, state and row are as calls leave them
  pub fine : 19 ≤ n → j.shut ≡ false → r ≡ 0 → CanRun j n rs
  -- on another number they are not
  pub unfit : 19 ≤ n → j.shut ≡ false → (r ≡ 0 → ⊥) → CanRun j n rs → ⊥
  -- that number is 15
  pub number : 19 ≤ n → j.shut ≡ false → (r ≡ 0 → ⊥) → r ≡ refusals.closed

-- the promise of the number r, for the judge j and a row of the weight w
pub record NumberIs (w : RowWeight) (j : Judge) (r : ℕ) : Type 0 where
  -- in every row whose records are weighed
  pub is : (n : ℕ) (rs : ℕ → Open) → Weighed rs j.depth n w → w.go ≡ false → Numbered j n rs r

-- the place of a call that begins with n: with 11 the records needed
unfoldable pub place_of : ℕ → ℕ
place_of n = if (eqb n refusals.too_short) 19 0
