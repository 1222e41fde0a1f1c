-- What the test at the entry asks. A row is known by the open chunk at each place, rs.
use Rattle.std.specs.Prelude.{◌≡◌, ℕ, ◌≤◌, Bool, false, ◌∷◌}
use Rattle.b3d_pieces_spec.specs.declared.Totals.{Totals}
use Rattle.b3d_pieces_spec.specs.declared.Open.{Open}
use Rattle.b3d_pieces_spec.specs.declared.Part.{Part}
use Rattle.b3d_pieces_spec.specs.Good.{Deep, load, OpenChunksFit, Off}
use Rattle.b3d_pieces_spec.specs.Calls.{records}
use Rattle.b3d_pieces_item_steps.specs.declared.Now.{Now}
use Rattle.b3d_pieces_item_steps.specs.Nows.{GoodNow}
use Rattle.b3d_pieces_step.specs.Turns.{stack_by, pends}
use Rattle.b3d_pieces_judge_step.specs.declared.Judge.{Judge}
use Rattle.b3d_pieces_judge_step.specs.Runs.{CanRun}
use Rattle.b3d_pieces_valid_record.specs.Tests.{Tests, Weighs}

-- r is the load of the first n chunks of the row rs, or above 16,777,217 if they are too much or cannot be open there
abbrev pub RowFits : (ℕ → Open) → ℕ → ℕ → Type 0
RowFits rs n r = Weighs (Deep (stack_by rs n)) (load (stack_by rs n)) r

-- the invariant after `size` bytes, inside the chunk f with the first n chunks of the row rs around it
abbrev pub LiveFits : ℕ → Part → Totals → Open → ℕ → ℕ → (ℕ → Open) → Type 0
LiveFits at m g f size n rs = OpenChunksFit at g (f ∷ stack_by rs n) × Off m at size

-- the invariant of `now` after `size` bytes, with the first n chunks of the row rs; no chunk waits to be entered or left
abbrev pub NowFits : Now → ℕ → ℕ → (ℕ → Open) → Type 0
NowFits now size n rs = GoodNow size (stack_by rs n) now × (pends now ≡ false)

-- b says whether the invariant holds inside f, given the load w of the n chunks around it
pub record LiveTests (at : ℕ) (m : Part) (g : Totals) (f : Open) (size n w : ℕ) (b : Bool) : Type 0 where
  -- whatever row they stand in
  pub is : (rs : ℕ → Open) → RowFits rs n w → Tests b (LiveFits at m g f size n rs)

-- b says whether the invariant holds of `now`, given the load w of the row's n chunks
pub record NowTests (now : Now) (size n w : ℕ) (b : Bool) : Type 0 where
  -- whatever row they stand in
  pub is : (rs : ℕ → Open) → RowFits rs n w → Tests b (NowFits now size n rs)

-- b says whether j is as calls leave it, given the load w of the chunks in use
pub record StateTests (j : Judge) (w : ℕ) (b : Bool) : Type 0 where
  -- over any row of 19 records and more
  pub is : (n : ℕ) (rs : ℕ → Open) → records ≤ n → RowFits rs j.depth w → Tests b (CanRun j n rs)
