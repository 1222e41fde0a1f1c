-- What may stand inside what, in which order and how often, as one table; and the one rule that holds the chunks inside a
-- chunk to it. Refusals 4 and 8 are given here and nowhere else.
use Rattle.std.specs.Prelude.{ℕ, Bool, true, false, not, ◌&&◌, ◌||◌, List, [], ◌∷◌, eqb, ltb}
use Rattle.std.proofs.Math.Option.{Option, none, some}
use Rattle.wire.specs.Test.{if}
use Rattle.layout.specs.Chunks.{done, stop, chunk}
use Rattle.layout.specs.Refusals as refusals
use Rattle.b3d_spec.specs.declared.Tag.{Tag}
use Rattle.b3d_spec.specs.declared.Tag.TheVariants.{BB3D, TEXS, BRUS, NODE, MESH, VRTS, TRIS, BONE, KEYS, ANIM}
use Rattle.b3d_spec.specs.Tags.{is, Chunks, split}

-- how often chunks of a tag may stand inside a chunk
pub data Often : Type 0 where
  at_most_once once any_number at_least_once : Often

-- a tag, the turn at which it may stand, and how often. Tags of one turn mix freely, but only one chunk of a turn has a tag that may not be repeated.
pub data Entry : Type 0 where
  entry : Tag → ℕ → Often → Entry

-- the table (01, chunks; E5): the tags that may stand inside a chunk of each tag
abbrev pub nesting : Tag → List Entry
nesting BB3D = entry TEXS 1 at_most_once ∷ entry BRUS 2 at_most_once ∷ entry NODE 3 at_most_once ∷ []
nesting TEXS = []
nesting BRUS = []
nesting NODE = entry MESH 1 at_most_once ∷ entry BONE 1 at_most_once ∷ entry KEYS 2 any_number ∷ entry ANIM 2 at_most_once ∷ entry NODE 3 any_number ∷ []
nesting MESH = entry VRTS 1 once ∷ entry TRIS 2 at_least_once ∷ []
nesting VRTS = []
nesting TRIS = []
nesting BONE = []
nesting KEYS = []
nesting ANIM = []

-- more than one chunk may stand
abbrev pub repeats : Often → Bool
repeats at_most_once = false
repeats once = false
repeats any_number = true
repeats at_least_once = true

-- at least one chunk must stand
abbrev pub needed : Often → Bool
needed at_most_once = false
needed once = true
needed any_number = false
needed at_least_once = true

-- how far the chunks read so far have come: the turn of the last, and whether a tag that may not be repeated stood at it
pub record Reached : Type 0 where
  pub turn : ℕ
  pub spent : Bool

-- chunks have come this far: the turn of the last, and whether one stood there that may not be repeated
abbrev pub reached_at : ℕ → Bool → Reached
reached_at turn spent = record { turn = turn; spent = spent }

-- no chunk was read yet
abbrev pub start : Reached
start = record { turn = 0; spent = false }

-- one of the entries must stand, at a turn after lo and before hi
abbrev pub required_between : List Entry → ℕ → ℕ → Bool
required_between [] lo hi = false
required_between (entry t turn often ∷ l) lo hi = (needed often && (ltb lo turn && ltb turn hi)) || required_between l lo hi

-- a number past every turn
abbrev pub end : ℕ
end = 4

-- after r, a tag of this turn and number may stand: its turn is later, and no tag of `all` is owed between; or its turn is the same, and it may be repeated
-- or none stood there that may not be
abbrev pub may : List Entry → Reached → ℕ → Often → Bool
may all r turn often = (ltb r.turn turn && not (required_between all r.turn turn)) || (eqb r.turn turn && (repeats often || not r.spent))

-- how far chunks that had come to r come with one of this turn and number
abbrev pub after : Reached → ℕ → Often → Reached
after r turn often = record { turn = turn; spent = (eqb r.turn turn && r.spent) || not (repeats often) }

-- how far chunks that had come to r come with one of tag t; none where it may not stand. `all` is the table's list, l what is left to look through of it
unfoldable pub next : List Entry → List Entry → Reached → Tag → Option Reached
next all [] r t = none
next all (entry k turn often ∷ l) r t =
    let others = next all l r t in
    let here : Option Reached = if (may all r turn often) (some (after r turn often)) none in
    if (is t k) here others

-- goes on by `go` if a chunk at p may stand there, else 4 at p
unfoldable pub onward : Option Reached → ℕ → (Reached → Chunks) → Chunks
onward none p go = stop refusals.nesting p
onward (some r) p go = go r

-- the chunks inside a chunk of tag k whose header is at `head`, after chunks that came to r: cut short by 4 at the first one that may not stand where it
-- does, ended by 8 at `head` where a tag that must stand is missing
unfoldable pub order : Tag → ℕ → Reached → Chunks → Chunks
order k head r done = if (required_between (nesting k) r.turn end) (stop refusals.no_vrts_or_tris head) done
order k head r (stop n p) = stop n p
order k head r (chunk t p b l) = onward (next (nesting k) (nesting k) r t) p (λ q. chunk t p b (order k head q l))

-- the chunks of the bytes s from place p on, inside a chunk of tag k whose header is at `head`
unfoldable pub inside : Tag → ℕ → ℕ → List ℕ → Chunks
inside k head p s = order k head start (split p s)
