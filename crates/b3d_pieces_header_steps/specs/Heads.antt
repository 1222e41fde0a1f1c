-- A chunk that is opened inside another.
use Rattle.std.specs.Prelude.{◌≡◌, ℕ, ◌+◌, ◌≤◌, List, ◌∷◌, length}
use Rattle.b3d_spec.specs.declared.Tag.{Tag}
use Rattle.b3d_spec.specs.Nesting.{nesting, next}
use Rattle.b3d_pieces_spec.specs.declared.Totals.{Totals}
use Rattle.b3d_pieces_spec.specs.declared.Open.{Open}
use Rattle.b3d_pieces_spec.specs.Machine.{State, opened, stand, reached_by}
use Rattle.b3d_pieces_spec.specs.Good.{Deep, sum, load, Child}
use Rattle.b3d_pieces_item_steps.specs.declared.Now.{Now}
use Rattle.b3d_pieces_item_steps.specs.Nows.{state_with, GoodNow}

-- the promise of opening a chunk of tag t inside f, for every stack R of outer chunks
pub record OpensChunk (t : Tag) (head e at : ℕ) (g : Totals) (f : Open) (r : Now) : Type 0 where
  -- r stands for the machine's state
  pub is : (R : List Open) → state_with R r ≡ opened t head e at g f R
  -- if the invariant holds before with one row to spare, and a chunk of tag t may be opened inside f, it holds after
  pub good : (R : List Open) → Deep (f ∷ R) → sum g + load (f ∷ R) + 1 ≤ at → Child t f.level (length R) → GoodNow at R r

-- the machine's state for a chunk of known tag t inside f, by the nesting rule
unfoldable pub stand_here : Tag → ℕ → ℕ → ℕ → Totals → Open → List Open → State
stand_here t head e at g f R = stand (next (nesting f.tag) (nesting f.tag) (reached_by f) t) t head e at g f R
