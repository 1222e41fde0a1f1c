-- What E6 asks of the judge of pieces, said of the definitions, for any cut of any bytes.
use Rattle.std.specs.Prelude.{◌≡◌, ℕ, suc, ◌*◌, ◌<◌, ◌≤◌, List, [], ◌∷◌, ◌++◌, length}
use Rattle.wire.specs.Bytes.{AllBytes}
use Rattle.layout.specs.Lists.{All}
use Rattle.layout.specs.Result.{accept, reject}
use Rattle.layout.specs.Refusals as refusals
use Rattle.b3d_spec.specs.declared.Mode.TheVariants.{Strict}
use Rattle.b3d_spec.specs.Rules.{row_limit}
use Rattle.b3d_spec.specs.Tables.{width}
use Rattle.b3d_spec.specs.Answers.{read_answer}
use Rattle.b3d_pieces_spec.specs.Machine.{State, live, fault, over}
use Rattle.b3d_pieces_spec.specs.Close.{Whole, heading, inside, piece, fresh_held, answer_of}
use Rattle.b3d_pieces_spec.specs.Calls.{records, Pieces, fresh_pieces, after_piece, after_close, piece_answer, close_answer, calls, taken}

-- tables with room for any file: each has room for as many rows as the limit allows
abbrev pub Ample : (ℕ → ℕ) → Type 0
Ample room = (k : ℕ) → width k * row_limit ≤ room k

-- the bytes of all calls joined, taken or not
abbrev pub joined : List (ℕ × List ℕ) → List ℕ
joined [] = []
joined (c ∷ l) = c.1 ++ joined l

-- how many chunks are open in a state of the machine
abbrev pub opens : State → ℕ
opens (live at m g f R) = suc (length R)
opens (fault n p) = 0
opens (over g) = 0

-- how many chunks are open in a file that has come this far; none inside BB3D's header
abbrev pub depth : Whole → ℕ
depth (heading i acc tag) = 0
depth (inside tag n st) = opens st

-- a call that is lent `lent` records is refused with number n and place k
pub record Refuses (lent : ℕ) (p : Pieces) (n k : ℕ) : Type 0 where
  -- a piece answers the refusal
  pub piece_says : piece_answer lent p ≡ reject n k
  -- the close answers the refusal
  pub close_says : close_answer lent p ≡ answer_of (reject n k)
  -- a piece leaves the state as it was, whatever its bytes
  pub piece_leaves : (s : List ℕ) → after_piece lent s p ≡ p
  -- the close leaves the state as it was
  pub close_leaves : after_close lent p ≡ p

-- E6, said of the definitions
pub record InPieces : Type 0 where
  -- from a fresh state, after any pieces, a piece of no bytes among them: the close gives what the reader, lent ample tables, would say of all bytes
  -- that were taken, joined: number, place, version, n_texs and counts
  pub same : (l : List (ℕ × List ℕ)) (lent : ℕ) → records ≤ lent → (room : ℕ → ℕ) → Ample room
      → close_answer lent (calls fresh_pieces l) ≡ read_answer Strict room (taken l)
  -- all bytes were taken if each call was lent enough records
  pub all : (l : List (ℕ × List ℕ)) → All (λ (c : ℕ × List ℕ). records ≤ c.0) l → taken l ≡ joined l
  -- until then a piece answers only that it was taken
  pub only : (l : List (ℕ × List ℕ)) (lent : ℕ) → records ≤ lent → piece_answer lent (calls fresh_pieces l) ≡ accept tt
  -- 11 with size 19 at any call lent fewer
  pub few : (p : Pieces) (lent : ℕ) → lent < records → Refuses lent p refusals.too_short records
  -- 15 at place 0 for a piece or close after the close
  pub late : (p : Pieces) (lent : ℕ) → records ≤ lent → Refuses lent (after_close lent p) refusals.closed 0
  -- 19 are enough for the deepest file: no bytes open more chunks
  pub enough : (s : List ℕ) → AllBytes s → depth (piece fresh_held s).whole ≤ records
