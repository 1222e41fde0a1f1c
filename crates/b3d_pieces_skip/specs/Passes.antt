-- The promise of taking bytes at once, whatever the row.
use Rattle.std.specs.Prelude.{◌≡◌, ℕ, ◌+◌, ◌≤◌, List, length}
use Rattle.b3d_pieces_spec.specs.declared.Totals.{Totals}
use Rattle.b3d_pieces_spec.specs.declared.Open.{Open}
use Rattle.b3d_pieces_spec.specs.declared.Part.{Part}
use Rattle.b3d_pieces_spec.specs.Good.{Words, Off}
use Rattle.b3d_pieces_spec.specs.Limits.{most_counted}
use Rattle.b3d_pieces_item_steps.specs.declared.Now.{Now}
use Rattle.b3d_pieces_item_steps.specs.declared.Now.TheVariants.{Live, Push, Pop, Fault, Over}
use Rattle.b3d_pieces_judge_step.specs.declared.Judge.{Judge}
use Rattle.b3d_pieces_judge_step.specs.declared.Turn.{Turn}
use Rattle.b3d_pieces_judge_step.specs.Loops.{left_of, rest_of, Going}

-- ---- a turn of the loop after n bytes

-- the turn t after n bytes, with x as what is held
abbrev pub moved_to : Turn → Now → ℕ → Turn
moved_to t x n =
    let j = t.judge in
    let k : Judge = record { size = j.size + n; worth = j.worth; letters = j.letters; length = j.length; shut = j.shut; depth = j.depth; now = x } in
    record { judge = k; at = t.at + n; end = t.end; get = t.get; put = t.put; rec = t.rec }

-- what is asked of what is held after n bytes: the present part is right, the items are no more than the place, and fixed data are words
abbrev pub LiveFine : ℕ → Now → Type 0
LiveFine n (Live at m g f) = Off m at n × (f.count ≤ at) × Words f.kept
LiveFine n (Push at g f o) = Unit {0}
LiveFine n (Pop at g) = Unit {0}
LiveFine n (Fault m q) = Unit {0}
LiveFine n (Over g) = Unit {0}

-- what taking bytes of the piece p at once asks of the turn t
pub record PassReady (t : Turn) (p : List ℕ) : Type 0 where
  -- the turn's end is the piece's
  pub end : t.end ≡ length p
  -- the turn's place is not past its end
  pub within : t.at ≤ t.end
  -- after BB3D's header, what is held is fine
  pub fine : 8 ≤ t.judge.size → LiveFine t.judge.size t.judge.now

-- n bytes of the piece p may be taken at once, in the part m at `at` in f
pub record PassFrom (t : Turn) (p : List ℕ) (n at : ℕ) (m : Part) (g : Totals) (f : Open) : Type 0 where
  -- this is what is held
  pub now : t.judge.now ≡ Live at m g f
  -- the turn's end is the piece's
  pub end : t.end ≡ length p
  -- the piece has n bytes more
  pub room : t.at + n ≤ t.end
  -- BB3D's header is over
  pub body : 8 ≤ t.judge.size
  -- with them the file is at most one byte longer than the longest file
  pub file : t.judge.size + n ≤ most_counted
  -- the present part is right
  pub off : Off m at t.judge.size
  -- the items are no more than the place
  pub count : f.count ≤ at
  -- f's fixed data are words
  pub words : Words f.kept

-- taking bytes of the piece p at once, from the turn t to the turn r, changes nothing that the machine would not change byte by byte
pub record PassIs (t : Turn) (p : List ℕ) (r : Turn) : Type 0 where
  -- for every row, what is held after the rest of the piece is the same
  pub rest : (rs : ℕ → Open) → rest_of r rs p ≡ rest_of t rs p
  -- for every row, the loop's invariant is kept
  pub going : (rs : ℕ → Open) → Going t rs p → Going r rs p
  -- the number that falls at each turn does not grow
  pub less : left_of r ≤ left_of t
  -- the file is closed or not as before
  pub shut : r.judge.shut ≡ t.judge.shut
  -- the record to read next is the same
  pub get : r.get ≡ t.get
