-- A turn, over any row. A row is known by the open chunk at each place, rs.
use Rattle.std.specs.Prelude.{◌≡◌, ℕ, zero, suc, ◌+◌, ◌-◌, ◌<◌, ◌≤◌, Bool, true, false, List, [], ◌∷◌, eqb}
use Rattle.wire.specs.Test.{if}
use Rattle.layout.specs.Rows.{most_bytes}
use Rattle.b3d_pieces_spec.specs.declared.Open.{Open}
use Rattle.b3d_pieces_spec.specs.Machine.{State, step}
use Rattle.b3d_pieces_spec.specs.Good.{Off}
use Rattle.b3d_pieces_spec.specs.Limits.{most_around}
use Rattle.b3d_pieces_item_steps.specs.declared.Now.{Now}
use Rattle.b3d_pieces_item_steps.specs.declared.Now.TheVariants.{Live, Push, Pop, Fault, Over}
use Rattle.b3d_pieces_item_steps.specs.Nows.{state_with, GoodNow, Ready}
use Rattle.b3d_pieces_byte_steps.specs.Bytes.{came_of}
use Rattle.b3d_pieces_step.specs.declared.Turned.{Turned}

-- the first n chunks of the row rs, the last of them first
abbrev pub stack_by : (ℕ → Open) → ℕ → List Open
stack_by rs zero = []
stack_by rs (suc n) = rs n ∷ stack_by rs n

-- the place of the last of n records, or 0
unfoldable pub slot_of : ℕ → ℕ
slot_of n = if (eqb n 0) 0 (n - 1)

-- true if a chunk is to be entered or left, so that the next turn takes no byte
abbrev pub pends : Now → Bool
pends (Live at m g f) = false
pends (Push at g f o) = true
pends (Pop at g) = true
pends (Fault m p) = false
pends (Over g) = false

-- the number of turns without a byte that may follow, at most, with n chunks in the row
abbrev pub pend_of : Now → ℕ → ℕ
pend_of (Live at m g f) n = 0
pend_of (Push at g f o) n = n + 3
pend_of (Pop at g) n = n + 1
pend_of (Fault m p) n = 0
pend_of (Over g) n = 0

-- what a turn asks of what is held, with n chunks in the row and rec as the last
abbrev pub ReadyNow : Now → ℕ → Open → Type 0
ReadyNow (Live at m g f) n rec = Off m at (came_of m at) × Ready 1 (came_of m at + 1) g f × (at ≤ most_bytes)
ReadyNow (Push at g f o) n rec = Ready 0 at g f
ReadyNow (Pop at g) n rec = (n ≡ 0 → ⊥) → Ready 0 at g rec
ReadyNow (Fault m p) n rec = Unit {0}
ReadyNow (Over g) n rec = Unit {0}

-- the machine's state after a turn: as before if it takes no byte (true), else after the byte b
abbrev pub after_turn : Bool → State → ℕ → State
after_turn true st b = st
after_turn false st b = step st b

-- how many bytes a turn takes: none while chunks are to be entered or left (true), else one
abbrev pub taken : Bool → ℕ
taken true = 0
taken false = 1

-- the rows rs before and rs' after a turn, n chunks being in the row before it
pub record Rows (rs rs' : ℕ → Open) (n : ℕ) (rec : Open) (r : Turned) : Type 0 where
  -- the record read is the last
  pub top : (n ≡ 0 → ⊥) → rs (n - 1) ≡ rec
  -- the record to write is written
  pub new : rs' r.put ≡ r.rec
  -- the records before it are as they were
  pub old : (j : ℕ) → j < r.put → rs' j ≡ rs j

-- the promise of a turn r with n chunks in the row, the record rec read and the byte b
pub record TurnIs (now : Now) (n : ℕ) (rec : Open) (b : ℕ) (r : Turned) : Type 0 where
  -- for all rows before and after it, r stands for the machine's state then
  pub is : (rs rs' : ℕ → Open) → Rows rs rs' n rec r → state_with (stack_by rs' r.depth) r.now ≡ after_turn (pends now) (state_with (stack_by rs n) now) b
  -- the machine's invariant is kept
  pub good : (rs rs' : ℕ → Open) → Rows rs rs' n rec r → (k : ℕ) → GoodNow k (stack_by rs n) now
      → GoodNow (k + taken (pends now)) (stack_by rs' r.depth) r.now
  -- while chunks are to be entered or left, fewer turns without a byte may follow than before
  pub less : pends now ≡ true → pend_of r.now r.depth < pend_of now n
  -- the record is written within 19 records
  pub put : r.put ≤ most_around
  -- if the invariant holds before, at most 18 chunks are in the row after
  pub deep : (rs : ℕ → Open) (k : ℕ) → GoodNow k (stack_by rs n) now → r.depth ≤ most_around
