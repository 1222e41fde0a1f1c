-- The first chunk of a tag among chunks that stand one after the other.
use Rattle.std.specs.Prelude as std
use Rattle.b3d_chunk_walk.specs.declared.Sought.{Sought}
use Rattle.std.specs.Prelude.{◌≡◌, ℕ, ◌+◌, ◌≤◌, List, length, drop, get_or, Some, None}
use Rattle.wire.specs.Test.{if}
use Rattle.wire.specs.Cursors.{Inside, left}
use Rattle.wire.specs.declared.Cursor.{Cursor}
use Rattle.layout.specs.Chunks.{done, stop, chunk}
use Rattle.layout.specs.Parts.{words_of}
use Rattle.b3d_spec.specs.declared.Tag.{Tag}
use Rattle.b3d_spec.specs.Tags.{Chunks, split, is}
use Rattle.b3d_chunk_cursor.specs.Chunks.{Among}
use Rattle.b3d_spec_plain_rows.specs.Plain.{named_items}
use Rattle.b3d_chunk_walk.specs.declared.Headed.{Headed}
use Rattle.b3d_chunk_walk.specs.declared.Three.{Three}

-- the chunks from the first of tag k on; `done` where there is none
unfoldable pub seek_of : Tag → Chunks → Chunks
seek_of k done = done
seek_of k (stop n p) = done
seek_of k (chunk t p b r) = if (is t k) (chunk k p b r) (seek_of k r)

-- the chunks that stand one after the other from the cursor c on
abbrev pub ahead : List ℕ → Cursor → Chunks
ahead s c = split c.at (left c s)

-- the answer of `seek` for tag k as chunks: the chunk found and those after it, or none
abbrev pub sought_of : List ℕ → Tag → std.Option Sought → Chunks
sought_of s k (Some f) = chunk k f.at (left f.body s) (ahead s f.next)
sought_of s k None = done

-- the chunk found lies within the cursor c; nothing is said where none is found
abbrev pub SoughtIn : Cursor → std.Option Sought → Type 0
SoughtIn c (Some f) = Among c f.at f.body f.next
SoughtIn c None = Unit {0}

-- what `seek` promises of its answer r for tag k from the cursor c on
pub record Seeks (s : List ℕ) (c : Cursor) (k : Tag) (r : std.Option Sought) : Type 0 where
  -- r is the first chunk of tag k and what stands after it
  pub says : seek_of k (ahead s c) ≡ sought_of s k r
  -- the chunk found lies within c
  pub among : SoughtIn c r

-- what `first_word` promises of its answer r for a body b
pub record FirstWord (s : List ℕ) (b : Cursor) (r : Headed) : Type 0 where
  -- the number is the first word of the body, 0 where it is not there
  pub number : r.word ≡ get_or (words_of 1 (left b s)) 0 0
  -- the cursor stands before the bytes behind the first four
  pub after : left r.rest s ≡ drop 4 (left b s)
  -- the cursor lies in the file
  pub inside : Inside r.rest (length s)
  -- the cursor is not before the body
  pub onward : b.at ≤ r.rest.at
  -- the cursor ends where the body ends
  pub to_end : r.rest.end ≡ b.end
  -- the chunks that the cursor stands before are those at four bytes behind the body's start
  pub chunks : ahead s r.rest ≡ split (b.at + 4) (drop 4 (left b s))
  -- the named items that the cursor stands before are those at four bytes behind the body's start
  pub items : (n : ℕ) → named_items n r.rest.at (left r.rest s) ≡ named_items n (b.at + 4) (drop 4 (left b s))

-- what `three_words` promises of its answer r for a body b; a number that is not there is 0
pub record ThreeWords (s : List ℕ) (b : Cursor) (r : Three) : Type 0 where
  -- the first number of the body
  pub first_is : get_or (words_of 3 (left b s)) 0 0 ≡ r.first
  -- the second number of the body
  pub second_is : get_or (words_of 3 (left b s)) 1 0 ≡ r.second
  -- the third number of the body
  pub third_is : get_or (words_of 3 (left b s)) 2 0 ≡ r.third
  -- the cursor stands before the bytes behind the first twelve
  pub bytes_are : drop 12 (left b s) ≡ left r.rest s
  -- the cursor lies in the file
  pub inside : Inside r.rest (length s)

-- the chunks inside a MESH with header place p and body b: those behind its brush
abbrev pub inner : ℕ → List ℕ → Chunks
inner p b = split (p + 12) (drop 4 b)
