-- A piece over any row. A row is known by how many records it has, n, and by the open chunk at each place, rs.
use Rattle.std.specs.Prelude.{◌≡◌, ℕ, ◌≤◌, false, List}
use Rattle.b3d_pieces_spec.specs.declared.Open.{Open}
use Rattle.b3d_pieces_spec.specs.Close.{piece}
use Rattle.b3d_pieces_spec.specs.Calls.{records}
use Rattle.b3d_pieces_step.specs.Turns.{pends}
use Rattle.b3d_pieces_judge_step.specs.declared.Judge.{Judge}
use Rattle.b3d_pieces_judge_step.specs.Takes.{held_of, GoodJudge}

-- state and row are as calls leave them: a piece may be taken
pub record CanRun (j : Judge) (n : ℕ) (rs : ℕ → Open) : Type 0 where
  -- the row has 19 records
  pub room : records ≤ n
  -- no chunk waits to be entered or left
  pub calm : pends j.now ≡ false
  -- the invariant holds
  pub good : GoodJudge j rs

-- the promise of taking the piece s: r is held then, with a row of n records, `after`
pub record RunIs (j : Judge) (rs : ℕ → Open) (s : List ℕ) (r : Judge) (n : ℕ) (after : ℕ → Open) : Type 0 where
  -- what is held stands for what the definitions hold after these bytes
  pub is : held_of r after ≡ piece (held_of j rs) s
  -- another piece may follow
  pub next : CanRun r n after
  -- the file is closed or not as before
  pub shut : r.shut ≡ j.shut
