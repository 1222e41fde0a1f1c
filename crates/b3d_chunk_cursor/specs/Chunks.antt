-- The next known chunk, and a text with its row.
use Rattle.std.specs.Prelude as std
use Rattle.b3d_chunk_cursor.specs.declared.Named.{Named}
use Rattle.std.specs.Prelude.{◌≡◌, ℕ, ◌+◌, ◌-◌, ◌*◌, ◌≤◌, List, ltb, Some, None}
use Rattle.std.proofs.Math.Option.{Option, none, some}
use Rattle.wire.specs.Test.{if}
use Rattle.wire.specs.Cursors.{left, text_at}
use Rattle.wire.specs.declared.Cursor.{Cursor}
use Rattle.layout.specs.Chunks.{done, stop, chunk}
use Rattle.layout.specs.Refusals as refusals
use Rattle.b3d_spec.specs.declared.Tag.{Tag}
use Rattle.b3d_spec.specs.Tags.{Chunks, split}
use Rattle.b3d_chunk_cursor.specs.declared.Next.{Next}
use Rattle.b3d_chunk_cursor.specs.declared.Next.TheVariants as next

-- a tag, if it is known, as code holds it
abbrev pub tagged : Option Tag → std.Option Tag
tagged none = None
tagged (some t) = Some t

-- the chunks that an answer on s stands for: the one found, and those after it
abbrev pub chunks_of : List ℕ → Next → Chunks
chunks_of s (next.Chunk t p b n) = chunk t p (left b s) (split n.at (left n s))
chunks_of s (next.Cut p) = stop refusals.cut_chunk p
chunks_of s next.Done = done

-- a chunk with its header at p, its body b and the cursor n after it stands among the bytes of c
pub record Among (c : Cursor) (p : ℕ) (b n : Cursor) : Type 0 where
  -- its header is not before c
  pub from : c.at ≤ p
  -- its body follows its header
  pub body : b.at ≡ p + 8
  -- its body ends behind its beginning, or there
  pub room : b.at ≤ b.end
  -- the cursor after it follows its body
  pub after : n.at ≡ b.end
  -- that cursor is not past its end
  pub to : n.at ≤ n.end
  -- it has the end of c
  pub same : n.end ≡ c.end

-- where an answer's parts stand: a chunk among the bytes of c; the place of a cut header not past the end of c
abbrev pub NextIn : Cursor → Next → Type 0
NextIn c (next.Chunk t p b n) = Among c p b n
NextIn c (next.Cut p) = p ≤ c.end
NextIn c next.Done = Unit {0}

-- r is what the bytes of s at c begin with
pub record NextIs (s : List ℕ) (c : Cursor) (r : Next) : Type 0 where
  -- the chunks from c on are those that r stands for
  pub says : split c.at (left c s) ≡ chunks_of s r
  -- the parts of r stand among the bytes of c
  pub among : NextIn c r

-- a text that was read and `words` words after it; None where they are not all there
unfoldable pub named_by : ℕ → std.Option (ℕ × Cursor) → std.Option Named
named_by words None = None
named_by words (Some (len, w)) =
    if (ltb (w.end - w.at) (4 * words)) None (Some (record { length = len; row = w; next = record { at = w.at + 4 * words; end = w.end } }))

-- the text of s at c and `words` words after it; None where they are not all there
unfoldable pub named_at : List ℕ → Cursor → ℕ → std.Option Named
named_at s c words = named_by words (text_at s c)

-- a text of len bytes at c, the cursor w at the words behind its zero, and the cursor n after the `words` words
pub record RowIn (c : Cursor) (len : ℕ) (w n : Cursor) (words : ℕ) : Type 0 where
  pub row : w.at ≡ c.at + len + 1
  pub after : n.at ≡ w.at + 4 * words
  pub to : n.at ≤ n.end
  pub row_same : w.end ≡ c.end
  pub same : n.end ≡ c.end

-- where the parts of an answer on a text at c and `words` words stand
abbrev pub NamedIn : Cursor → ℕ → std.Option Named → Type 0
NamedIn c words (Some f) = RowIn c f.length f.row f.next words
NamedIn c words None = Unit {0}
