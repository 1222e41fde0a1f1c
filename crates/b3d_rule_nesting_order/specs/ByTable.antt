-- What the table alone says of a chunk and of the end of the chunks inside one, and the statement that 4 and 8 are given just there.
use Rattle.std.specs.Prelude.{◌≡◌, ℕ, Bool, false, not, ◌&&◌, ◌||◌, List, [], ◌∷◌, eqb, ltb}
use Rattle.wire.specs.Test.{if}
use Rattle.layout.specs.Chunks.{done, stop, chunk}
use Rattle.layout.specs.Refusals as refusals
use Rattle.b3d_spec.specs.declared.Tag.{Tag}
use Rattle.b3d_spec.specs.Tags.{Chunks, tag_number}
use Rattle.b3d_spec.specs.Nesting.{Reached, end, order}
use Rattle.b3d_rule_nesting_table.specs.declared.Entry.{Entry}
use Rattle.b3d_rule_nesting_lookup.specs.Entries.{row_at, entry_of}
use Rattle.b3d_rule_nesting_order.specs.Turns.{between}

-- one of the entries must stand, at a turn after lo and before hi
abbrev pub required_in : List Entry → ℕ → ℕ → Bool
required_in [] lo hi = false
required_in (e ∷ l) lo hi = between e lo hi || required_in l lo hi

-- a chunk of entry e may stand after q: it is allowed, and its turn is later and no tag that must stand is missing before it (owed); or its turn is the same,
-- and it may stand again or none stood there that may not
abbrev pub permitted_by : Bool → Reached → Entry → Bool
permitted_by required_between q e = e.allowed && ((ltb q.turn e.turn && not required_between) || (eqb q.turn e.turn && (e.again || not q.spent)))

-- how far chunks that had come to q come with one of entry e
abbrev pub after_by : Reached → Entry → Reached
after_by q e = record { turn = e.turn; spent = (eqb q.turn e.turn && q.spent) || not e.again }

-- inside a chunk of tag k, after q, a tag that must stand before this turn is missing
abbrev pub missing_before : Tag → Reached → ℕ → Bool
missing_before k q turn = required_in (row_at (tag_number k)) q.turn turn

-- the table decides: `order` is what `parse` reads the chunks inside a chunk of tag k by, whose header is at `head`, after chunks that came to q
pub record ByTable : Type 0 where
  -- a chunk stands there, or is refused with 4 at its header
  pub four : (k : Tag) (head : ℕ) (q : Reached) (t : Tag) (p : ℕ) (b : List ℕ) (l : Chunks)
      → order k head q (chunk t p b l) ≡ if (permitted_by (missing_before k q (entry_of k t).turn) q (entry_of k t))
      (chunk t p b (order k head (after_by q (entry_of k t)) l)) (stop refusals.nesting p)
  -- the chunks may end there, or 8 is given at the header of the chunk that encloses them
  pub eight : (k : Tag) (head : ℕ) (q : Reached) → order k head q done ≡ if (missing_before k q end) (stop refusals.no_vrts_or_tris head) done
  -- 3 comes before both: where the splitting into chunks was stopped, it stays so
  pub stopped : (k : Tag) (head : ℕ) (q : Reached) (n p : ℕ) → order k head q (stop n p) ≡ stop n p
