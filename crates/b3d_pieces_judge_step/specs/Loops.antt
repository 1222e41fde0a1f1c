-- What the loop over a piece's bytes carries from turn to turn.
use Rattle.std.specs.Prelude.{◌≡◌, ℕ, ◌+◌, ◌-◌, ◌*◌, ◌<◌, ◌≤◌, Bool, true, false, List, length, drop}
use Rattle.b3d_pieces_spec.specs.declared.Open.{Open}
use Rattle.b3d_pieces_spec.specs.Close.{Held, piece}
use Rattle.b3d_pieces_step.specs.Turns.{slot_of, pends, pend_of}
use Rattle.b3d_pieces_judge_step.specs.declared.Judge.{Judge}
use Rattle.b3d_pieces_judge_step.specs.Takes.{held_of, GoodJudge, TakeIs}
use Rattle.b3d_pieces_judge_step.specs.declared.Turn.{Turn}

-- r is the turn at the beginning of a piece of this many bytes, with j held
pub record Begins (j : Judge) (bytes : ℕ) (r : Turn) : Type 0 where
  -- j is held
  pub judge : r.judge ≡ j
  -- no byte was taken
  pub at : r.at ≡ 0
  -- the end is the piece's
  pub end : r.end ≡ bytes
  -- the record to read is the last in use
  pub get : r.get ≡ slot_of j.depth

-- the place of the next byte after a: a itself while chunks are to be entered or left (true)
abbrev pub next_at : Bool → ℕ → ℕ
next_at true a = a
next_at false a = a + 1

-- the promise of a turn from t to r with the record rec read and the byte b
pub record StepIs (t : Turn) (rec : Open) (b : ℕ) (r : Turn) : Type 0 where
  -- what is held changes as `TakeIs` says
  pub took : TakeIs t.judge rec b (record { judge = r.judge; put = r.put; rec = r.rec })
  -- the place goes on, but not while chunks are to be entered or left
  pub at : r.at ≡ next_at (pends r.judge.now) t.at
  -- the end stays
  pub end : r.end ≡ t.end
  -- the record to read is the last in use
  pub get : r.get ≡ slot_of r.judge.depth

-- ---- the number that falls at each turn

-- how many turns without a byte may follow: n while chunks are to be entered or left (true), else 31
abbrev pub wait : Bool → ℕ → ℕ
wait true n = n
wait false n = 31

-- the number that falls at each turn: 32 for each byte that is left, and the turns that take none
unfoldable pub left_of : Turn → ℕ
left_of t = 32 * (t.end - t.at) + wait (pends t.judge.now) (pend_of t.judge.now t.judge.depth)

-- ---- what is still to come

-- the place of the first byte that is still to be taken: after a, while chunks are to be entered or left (true), else a
abbrev pub rest_at : Bool → ℕ → ℕ
rest_at true a = a + 1
rest_at false a = a

-- what is held after the rest of the piece p, from the turn t and the row rs on
unfoldable pub rest_of : Turn → (ℕ → Open) → List ℕ → Held
rest_of t rs p = piece (held_of t.judge rs) (drop (rest_at (pends t.judge.now) t.at) p)

-- the invariant of the loop over the piece p, with the row rs
pub record Going (t : Turn) (rs : ℕ → Open) (p : List ℕ) : Type 0 where
  -- the invariant of what is held
  pub good : GoodJudge t.judge rs
  -- the record to read is the last in use
  pub get : t.get ≡ slot_of t.judge.depth
  -- the end is the piece's
  pub end : t.end ≡ length p
  -- the place is not past it
  pub within : t.at ≤ t.end
  -- while chunks are to be entered or left, the byte taken last is at the place
  pub calm : pends t.judge.now ≡ true → t.at < t.end
