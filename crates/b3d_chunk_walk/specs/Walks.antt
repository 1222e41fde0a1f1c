-- What the flat walk finds at a place of the file.
use Rattle.std.specs.Prelude as std
use Rattle.b3d_chunk_walk.specs.declared.FlatChunk.{FlatChunk}
use Rattle.std.specs.Prelude.{◌≡◌, ℕ, ◌+◌, ◌<◌, ◌≤◌, not, List, [], length, T, Some, None}
use Rattle.wire.specs.Bytes.{word_at}
use Rattle.wire.specs.Cursors.{left}
use Rattle.wire.specs.declared.Cursor.{Cursor}
use Rattle.layout.specs.Chunks.{chunk}
use Rattle.layout.specs.Result.{accept}
use Rattle.layout.specs.Parts.{Name, Step, named}
use Rattle.b3d_spec.specs.declared.Counts.{Counts}
use Rattle.b3d_spec.specs.declared.Tag.{Tag}
use Rattle.b3d_spec.specs.declared.Tag.TheVariants.{NODE}
use Rattle.b3d_spec.specs.Rules.{node_row}
use Rattle.b3d_spec.specs.Scene.{pivot, no_anim}
use Rattle.b3d_spec.specs.Tags.{Chunks, is}
use Rattle.b3d_spec_plain_rows.specs.Flat.{rest, flat_at}
use Rattle.b3d_spec_plain_rows.specs.Rows.{Open, node_rows, nodes_before, flat_rows, kind_of, anim_of}

-- the body b of a chunk whose header is at p lies in the file s
pub record BodyAt (s : List ℕ) (p : ℕ) (b : Cursor) : Type 0 where
  -- it begins behind the header of eight bytes
  pub head : b.at ≡ p + 8
  -- its cursor is not past its end
  pub room : b.at ≤ b.end
  -- its end is not past the file's
  pub within : b.end ≤ length s

-- the first known chunk from place `at` on is a NODE with header place p and body b
pub record NodeAt (s : List ℕ) (at p : ℕ) (b : Cursor) : Type 0 where
  -- the tag of that chunk
  pub tag : Tag
  -- that tag is NODE
  pub node : T (is tag NODE)
  -- its header is not before `at`
  pub from : at ≤ p
  -- its body lies in the file
  pub body : BodyAt s p b
  -- the chunks after it
  pub others : Chunks
  -- the chunks from `at` on begin with it
  pub first : rest s at ≡ chunk tag p (left b s) others

-- the text and the ten numbers of the NODE at p with body b are all there
pub record NodeRead (s : List ℕ) (p : ℕ) (b : Cursor) : Type 0 where
  -- what was read of it
  pub step : Step (Name × List ℕ)
  -- text and numbers are read without a refusal
  pub is : named node_row (p + 8) (left b s) ≡ accept step
  -- the text begins behind the header
  pub name : step.value.0.place ≡ p + 8
  -- there are ten numbers
  pub ten : length step.value.1 ≡ 10

-- the flat run from place `at` on begins with a chunk of tag t, with header place p and body b, and goes on at place q
pub record ChunkIs (s : List ℕ) (at : ℕ) (t : Tag) (p : ℕ) (b : Cursor) (q : ℕ) : Type 0 where
  -- the flat run is this chunk, then the run from q on
  pub run : flat_at s at ≡ chunk t p (left b s) (flat_at s q)
  -- the length in its header is the body's
  pub size : word_at s (p + 4) ≡ length (left b s)
  -- the body lies in the file
  pub body : BodyAt s p b
  -- the header is not before `at`
  pub from : at ≤ p
  -- the run goes on later than `at`
  pub more : at < q
  -- the run goes on behind the header
  pub behind : p + 8 ≤ q
  -- of a NODE the text and numbers are all there
  pub node : T (is t NODE) → NodeRead s p b
  -- a chunk that is no NODE is passed over whole
  pub past : T (not (is t NODE)) → b.end ≤ q
  -- the run does not go on past the file's end
  pub to : q ≤ length s

-- a flat run cs that adds nothing
pub record Ends (cs : Chunks) : Type 0 where
  -- no row of tables 4 to 10 comes from it
  pub rows : (k : ℕ) (n : Counts) → flat_rows k n cs ≡ []
  -- no row of table 3 comes from it
  pub nodes : (l : List Open) (n : Counts) → node_rows l n cs ≡ []
  -- no NODE begins in it
  pub before : (e : ℕ) → nodes_before e cs ≡ 0
  -- no MESH or BONE comes in it before a NODE
  pub kind : kind_of cs ≡ pivot
  -- no ANIM comes in it before a NODE
  pub anim : anim_of cs ≡ no_anim

-- the answer of `flat_next` at place `at`: the run begins with that chunk, or the run adds nothing
abbrev pub FlatIs : List ℕ → ℕ → std.Option FlatChunk → Type 0
FlatIs s at (Some f) = ChunkIs s at f.tag f.at f.body f.next
FlatIs s at None = Ends (flat_at s at)

-- what `flat_next` promises of its answer r at place `at` of the file s
pub record Steps (s : List ℕ) (at : ℕ) (r : std.Option FlatChunk) : Type 0 where
  -- r is the chunk that the flat run begins with, or its end
  pub is : FlatIs s at r
