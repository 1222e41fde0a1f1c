-- What the definitions hold by what code holds; its invariant; the promise of a turn.
use Rattle.std.specs.Prelude.{◌≡◌, ℕ, zero, suc, ◌-◌, ◌<◌, ◌≤◌, Bool, true, false, ltb}
use Rattle.layout.specs.Rows.{most_bytes}
use Rattle.b3d_pieces_spec.specs.declared.Open.{Open}
use Rattle.b3d_pieces_spec.specs.Close.{Whole, heading, inside, Held, byte}
use Rattle.b3d_pieces_spec.specs.Good.{worth}
use Rattle.b3d_pieces_spec.specs.Limits.{most_counted, most_around}
use Rattle.b3d_pieces_item_steps.specs.Nows.{state_with, GoodNow}
use Rattle.b3d_pieces_byte_steps.specs.Bytes.{gathers}
use Rattle.b3d_pieces_step.specs.Turns.{stack_by, pends, pend_of, ReadyNow}
use Rattle.b3d_pieces_judge_step.specs.declared.Judge.{Judge}
use Rattle.b3d_pieces_judge_step.specs.declared.Taken.{Taken}

-- which byte of its number the byte n of BB3D's header is
abbrev pub byte_of : ℕ → ℕ
byte_of zero = 0
byte_of (suc zero) = 1
byte_of (suc (suc zero)) = 2
byte_of (suc (suc (suc zero))) = 3
byte_of (suc (suc (suc (suc i)))) = i

-- the number that the value of the present number of BB3D's header is below, after n bytes
abbrev pub head_low : ℕ → ℕ
head_low n = worth (byte_of n)

-- the value of the present number of BB3D's header after n bytes, worth acc, and one more, b
abbrev pub head_worth : ℕ → ℕ → ℕ → ℕ
head_worth n acc b = gathers (byte_of n) acc b

-- how far the file has come by j and the row rs: inside BB3D's header (true), or after it
abbrev pub whole_of : Bool → Judge → (ℕ → Open) → Whole
whole_of true j rs = heading j.size j.worth j.letters
whole_of false j rs = inside j.letters j.length (state_with (stack_by rs j.depth) j.now)

-- what the definitions hold by j and the row rs
unfoldable pub held_of : Judge → (ℕ → Open) → Held
held_of j rs = record { size = j.size; whole = whole_of (ltb j.size 8) j rs }

-- the invariant of what is held, j, with the row rs
pub record GoodJudge (j : Judge) (rs : ℕ → Open) : Type 0 where
  -- at most one byte more came than the longest file has
  pub size : j.size ≤ most_counted
  -- at most 18 records are in use
  pub depth : j.depth ≤ most_around
  -- inside BB3D's header no chunk waits to be entered or left
  pub calm : j.size < 8 → pends j.now ≡ false
  -- inside BB3D's header the value of the present number is right for the bytes that came
  pub head : j.size < 8 → j.worth < head_low j.size
  -- after it the machine's invariant holds
  pub body : 8 ≤ j.size → GoodNow j.size (stack_by rs j.depth) j.now

-- what a turn asks of what is held, j, and of the record read
pub record TakeReady (j : Judge) (rec : Open) : Type 0 where
  -- at most one byte more came than the longest file has
  pub size : j.size ≤ most_counted
  -- at most 18 records are in use
  pub depth : j.depth ≤ most_around
  -- inside BB3D's header no chunk waits to be entered or left
  pub calm : j.size < 8 → pends j.now ≡ false
  -- inside BB3D's header the value of the present number is right for the bytes that came
  pub head : j.size < 8 → j.worth < head_low j.size
  -- a chunk that waits to be entered or left is ready for it
  pub wait : pends j.now ≡ true → ReadyNow j.now j.depth rec
  -- after BB3D's header, unless the file is longer than the longest, the machine is ready for a byte
  pub byte : pends j.now ≡ false → 8 ≤ j.size → j.size ≤ most_bytes → ReadyNow j.now j.depth rec

-- what a turn of the machine asks that takes `came` bytes
pub record BodyReady (j : Judge) (came : ℕ) : Type 0 where
  -- BB3D's header is over
  pub least : 8 ≤ j.size
  -- while chunks are to be entered or left it takes none
  pub wait : pends j.now ≡ true → came ≡ 0
  -- otherwise it takes one, which is at most one past the longest file
  pub byte : pends j.now ≡ false → (came ≡ 1) × (j.size ≤ most_bytes)
  -- a turn takes at most one byte
  pub one : came ≤ 1

-- the rows rs before and rs' after a turn, n records being in use before it
pub record Changes (rs rs' : ℕ → Open) (n : ℕ) (rec : Open) (p : ℕ) (x : Open) : Type 0 where
  -- the record read is the last in use
  pub top : (n ≡ 0 → ⊥) → rs (n - 1) ≡ rec
  -- the record x is written at p
  pub new : rs' p ≡ x
  -- the records before p are as they were
  pub old : (j : ℕ) → j < p → rs' j ≡ rs j

-- what the definitions hold after a turn: as before if it takes no byte (true), else after the byte b
abbrev pub after_take : Bool → Held → ℕ → Held
after_take true h b = h
after_take false h b = byte h b

-- the promise of a turn r with the record rec read and the byte b
pub record TakeIs (j : Judge) (rec : Open) (b : ℕ) (r : Taken) : Type 0 where
  -- for all rows before and after it, what is held stands for what the definitions hold then
  pub is : (rs rs' : ℕ → Open) → Changes rs rs' j.depth rec r.put r.rec → held_of r.judge rs' ≡ after_take (pends j.now) (held_of j rs) b
  -- the invariant is kept
  pub good : (rs rs' : ℕ → Open) → Changes rs rs' j.depth rec r.put r.rec → GoodJudge j rs → GoodJudge r.judge rs'
  -- while chunks are to be entered or left, fewer turns without a byte may follow than before
  pub less : pends j.now ≡ true → pend_of r.judge.now r.judge.depth < pend_of j.now j.depth
  -- the record is written within 19 records
  pub put : r.put ≤ most_around
  -- the file is closed or not as before
  pub shut : r.judge.shut ≡ j.shut
