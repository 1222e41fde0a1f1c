-- What taking bytes at once from a state promises.
use Rattle.std.specs.Prelude.{◌≡◌, ℕ, ◌+◌, ◌-◌, ◌≤◌, true, false, List, length, leb}
use Rattle.b3d_spec.specs.declared.Tag.TheVariants.{BB3D}
use Rattle.b3d_pieces_spec.specs.declared.Open.{Open}
use Rattle.b3d_pieces_spec.specs.declared.Part.{Part}
use Rattle.b3d_pieces_spec.specs.Machine.{fresh}
use Rattle.b3d_pieces_step.specs.Turns.{slot_of}
use Rattle.b3d_pieces_judge_step.specs.declared.Judge.{Judge}
use Rattle.b3d_pieces_judge_step.specs.declared.Turn.{Turn}
use Rattle.b3d_pieces_skip_numbers.specs.declared.RowPlace.{RowPlace}
use Rattle.b3d_pieces_skip.specs.Passes.{PassFrom, PassIs}
use Rattle.b3d_pieces_state.specs.declared.OpenRecord.{OpenRecord}
use Rattle.b3d_pieces_state.specs.declared.PieceState.{PieceState}
use Rattle.b3d_pieces_state.specs.Records.{open_in}
use Rattle.b3d_pieces_state.specs.States.{judge_in}
use Rattle.b3d_pieces_records_tests.specs.declared.RowWeight.{RowWeight}
use Rattle.b3d_pieces_records_tests.specs.Weights.{Weighed, NumberIs, place_of}
use Rattle.b3d_pieces_at_once.specs.declared.AtOnce.{AtOnce}

-- the turn with j held, `at` of `end` bytes taken
abbrev pub turn_at : Judge → ℕ → ℕ → Turn
turn_at j at end = record { judge = j; at = at; end = end; get = slot_of j.depth; put = 0; rec = fresh BB3D 0 0 0 0 }

-- ---- a state after n bytes

-- they are only counted
abbrev pub counted_by : PieceState → ℕ → PieceState
counted_by s n = record {
  kind = s.kind;
  number = s.number;
  size = s.size + n;
  worth = s.worth;
  letters = s.letters;
  length = s.length;
  shut = s.shut;
  depth = s.depth;
  at = s.at;
  fixed = s.fixed;
  start = s.start;
  index = s.index;
  came = s.came;
  value = s.value;
  kept = s.kept;
  inner = s.inner;
  totals = s.totals;
}

-- they change only the present place
abbrev pub advanced_by : PieceState → ℕ → PieceState
advanced_by s n = record {
  kind = s.kind;
  number = s.number;
  size = s.size + n;
  worth = s.worth;
  letters = s.letters;
  length = s.length;
  shut = s.shut;
  depth = s.depth;
  at = s.at + n;
  fixed = s.fixed;
  start = s.start;
  index = s.index;
  came = s.came;
  value = s.value;
  kept = s.kept;
  inner = s.inner;
  totals = s.totals;
}

-- a record with n items
abbrev pub counting : OpenRecord → ℕ → OpenRecord
counting o n = record {
  tag = o.tag;
  head = o.head;
  end = o.end;
  turn = o.turn;
  spent = o.spent;
  level = o.level;
  first = o.first;
  second = o.second;
  third = o.third;
  count = n;
  told = o.told;
}

-- they lead to the place y of its rows
abbrev pub rows_by : PieceState → RowPlace → PieceState
rows_by s y = record {
  kind = s.kind;
  number = s.number;
  size = s.size + y.from;
  worth = s.worth;
  letters = s.letters;
  length = s.length;
  shut = s.shut;
  depth = s.depth;
  at = y.at;
  fixed = s.fixed;
  start = y.start;
  index = y.i;
  came = y.j;
  value = y.acc;
  kept = y.kept;
  inner = counting s.inner y.count;
  totals = s.totals;
}

-- ---- promises

-- n bytes of the piece p may be taken at once, in the part m that stands in s
abbrev pub PartReady : PieceState → List ℕ → ℕ → Part → Type 0
PartReady s p n m = PassFrom (turn_at (judge_in s) 0 (length p)) p n s.at m s.totals (open_in s.inner)

-- r is the state s after some of the next bytes of the piece p, taken at once
pub record MovedIs (s : PieceState) (p : List ℕ) (r : PieceState) : Type 0 where
  -- the bytes are counted
  pub grows : s.size ≤ r.size
  -- nothing is changed that the machine would not change byte by byte
  pub pass : PassIs (turn_at (judge_in s) 0 (length p)) p (turn_at (judge_in r) (r.size - s.size) (length p))

-- what is asked: w weighs all records in use of some row
pub record OnceReady (w : RowWeight) (s : PieceState) : Type 0 where
  -- how many records it has
  pub records : ℕ
  -- the row
  pub row : ℕ → Open
  -- its records are weighed
  pub weighed : Weighed row (judge_in s).depth records w
  -- none is left to be weighed
  pub over : w.go ≡ false

-- the promise of a call x, for the state s, a row of the weight w and the piece p
pub record OnceIs (w : RowWeight) (s : PieceState) (p : List ℕ) (x : AtOnce) : Type 0 where
  -- the number is the one that a call begins with
  pub number : NumberIs w (judge_in s) x.fed.number
  -- the place is that of the number
  pub place : x.fed.place ≡ place_of x.fed.number
  -- on a refusal the state is as it was
  pub state : (x.fed.number ≡ 0 → ⊥) → x.fed.state ≡ s
  -- on a refusal nothing is left to do
  pub stop : (x.fed.number ≡ 0 → ⊥) → x.done ≡ true
  -- on 0, bytes were taken at once up to the place `at`
  pub pass : x.fed.number ≡ 0 → PassIs (turn_at (judge_in s) 0 (length p)) p (turn_at (judge_in x.fed.state) x.at (length p))
  -- on 0, nothing is left to do if these are all
  pub done : x.fed.number ≡ 0 → x.done ≡ leb (length p) x.at
