-- What is held between two calls as numbers. Every state stands for something: an unknown kind says that all was read, a flag is set where its number is 1.
use Rattle.std.specs.Prelude.{ℕ, eqb}
use Rattle.wire.specs.Test.{if}
use Rattle.b3d_spec.specs.declared.Tag.TheVariants.{BB3D}
use Rattle.b3d_pieces_spec.specs.declared.Kept.{Kept}
use Rattle.b3d_pieces_spec.specs.declared.Part.TheVariants.{Text, Row, Skip}
use Rattle.b3d_pieces_spec.specs.declared.Totals.{Totals}
use Rattle.b3d_pieces_spec.specs.Row.{flag}
use Rattle.b3d_pieces_spec.specs.Bodies.{none_kept}
use Rattle.b3d_pieces_spec.specs.Machine.{fresh}
use Rattle.b3d_pieces_spec.specs.Close.{nothing}
use Rattle.b3d_pieces_item_steps.specs.declared.Now.{Now}
use Rattle.b3d_pieces_item_steps.specs.declared.Now.TheVariants.{Live, Push, Pop, Fault, Over}
use Rattle.b3d_pieces_judge_step.specs.declared.Judge.{Judge}
use Rattle.b3d_pieces_state.specs.declared.OpenRecord.{OpenRecord}
use Rattle.b3d_pieces_state.specs.declared.PieceState.{PieceState}
use Rattle.b3d_pieces_state.specs.Records.{open_in, record_of}

-- what stands at the present place by the state s
unfoldable pub now_by : PieceState → Now
now_by s =
    if (eqb s.kind 0) (Live s.at (Text (eqb s.fixed 1) s.start) s.totals (open_in s.inner))
    (if (eqb s.kind 1) (Live s.at (Row (eqb s.fixed 1) s.start s.index s.came s.value s.kept) s.totals (open_in s.inner))
    (if (eqb s.kind 2) (Live s.at (Skip s.start) s.totals (open_in s.inner))
    (if (eqb s.kind 3) (Fault s.number s.at)
    (Over s.totals))))

-- what the judge holds by the state s
unfoldable pub judge_in : PieceState → Judge
judge_in s = record {
  size = s.size;
  worth = s.worth;
  letters = s.letters;
  length = s.length;
  shut = eqb s.shut 1;
  depth = s.depth;
  now = now_by s;
}

-- a state: the numbers of the judge j, its flag `shut` as a number, and the numbers that say what stands at the present place
abbrev pub state_with : Judge → ℕ → ℕ → ℕ → ℕ → ℕ → ℕ → ℕ → ℕ → ℕ → Kept → OpenRecord → Totals → PieceState
state_with j shut kind number at fixed start index came value kept inner g = record {
  kind = kind;
  number = number;
  size = j.size;
  worth = j.worth;
  letters = j.letters;
  length = j.length;
  shut = shut;
  depth = j.depth;
  at = at;
  fixed = fixed;
  start = start;
  index = index;
  came = came;
  value = value;
  kept = kept;
  inner = inner;
  totals = g;
}

-- the record that stands in a state while no chunk is open
abbrev pub no_record : OpenRecord
no_record = record_of (fresh BB3D 0 0 0 0)

-- the state of the judge j, its flag `shut` as a number, by what it holds. Between two calls no chunk waits to be entered or left; one that does is said as
-- if all was read
unfoldable pub state_by : Judge → ℕ → Now → PieceState
state_by j shut (Live at (Text fixed start) g f) = state_with j shut 0 0 at (flag fixed) start 0 0 0 none_kept (record_of f) g
state_by j shut (Live at (Row fixed start index came value kept) g f) = state_with j shut 1 0 at (flag fixed) start index came value kept (record_of f) g
state_by j shut (Live at (Skip end) g f) = state_with j shut 2 0 at 0 end 0 0 0 none_kept (record_of f) g
state_by j shut (Push at g f o) = state_with j shut 4 0 0 0 0 0 0 0 none_kept no_record g
state_by j shut (Pop at g) = state_with j shut 4 0 0 0 0 0 0 0 none_kept no_record g
state_by j shut (Fault n p) = state_with j shut 3 n p 0 0 0 0 0 none_kept no_record nothing
state_by j shut (Over g) = state_with j shut 4 0 0 0 0 0 0 0 none_kept no_record g

-- the state of what the judge holds, j
unfoldable pub state_of : Judge → PieceState
state_of j = state_by j (flag j.shut) j.now
