-- The calls of the piece judge: a fresh state, a piece, the close. Each call is lent a row of records; `lent` is how many.
use Rattle.std.specs.Prelude.{ℕ, Bool, true, false, not, List, [], ◌∷◌, ◌++◌, leb}
use Rattle.wire.specs.Test.{if}
use Rattle.layout.specs.Result.{Result, accept, reject, check, ◌>>=◌}
use Rattle.layout.specs.Refusals as refusals
use Rattle.b3d_pieces_spec.specs.Close.{Held, fresh_held, piece, closing, answer_of}
use Rattle.b3d_spec.specs.declared.Answer.{Answer}

-- the records that a call must be lent, 02's 19: enough for a BB3D, 16 nodes, a MESH and a chunk of items
abbrev pub records : ℕ
records = 19

-- what is held between two calls, and whether the file was closed
pub record Pieces : Type 0 where
  pub held : Held
  pub shut : Bool

-- before the first call: no byte came, and the file is not closed
abbrev pub fresh_pieces : Pieces
fresh_pieces = record { held = fresh_held; shut = false }

-- whether a call that is lent `lent` records is allowed: 11 with the size needed if they are too few, then 15 at place 0 after the close
unfoldable pub allowed : ℕ → Pieces → Result (Unit {0})
allowed lent p = do
  _ ← check (leb records lent) refusals.too_short records
  check (not p.shut) refusals.closed 0

-- the state after a call: q if the call is allowed, p as it was if it is refused
unfoldable pub on_call : Result (Unit {0}) → Pieces → Pieces → Pieces
on_call (accept x) p q = q
on_call (reject n k) p q = p

-- the state after the piece s, lent `lent` records
unfoldable pub after_piece : ℕ → List ℕ → Pieces → Pieces
after_piece lent s p = on_call (allowed lent p) p (record { held = piece p.held s; shut = false })

-- the state after the close, lent `lent` records
unfoldable pub after_close : ℕ → Pieces → Pieces
after_close lent p = on_call (allowed lent p) p (record { held = p.held; shut = true })

-- a piece's answer: only that it was taken, or the refusal
unfoldable pub piece_answer : ℕ → Pieces → Result (Unit {0})
piece_answer lent p = allowed lent p

-- the close's answer: a refusal of the call, or what all bytes joined come to
unfoldable pub close_answer : ℕ → Pieces → Answer
close_answer lent p = answer_of (allowed lent p >>= λ x. closing p.held)

-- the state after calls of pieces, each given by the number of records lent and the piece's bytes
abbrev pub calls : Pieces → List (ℕ × List ℕ) → Pieces
calls p [] = p
calls p (c ∷ l) = calls (after_piece c.0 c.1 p) l

-- the bytes of the pieces that were taken, joined; a piece lent too few records is not
abbrev pub taken : List (ℕ × List ℕ) → List ℕ
taken [] = []
taken (c ∷ l) = if (leb records c.0) (c.1 ++ taken l) (taken l)
