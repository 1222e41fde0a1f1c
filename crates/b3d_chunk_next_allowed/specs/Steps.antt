-- The next chunk inside a chunk, in the terms of the nesting rule: the answer gives 4 and 8 where `order` does.
use Rattle.std.specs.Prelude as std
use Rattle.b3d_chunk_next_allowed.specs.declared.Enclosed.{Enclosed}
use Rattle.layout.specs.declared.Refusal.{Refusal}
use Rattle.std.specs.Prelude.{◌≡◌, ℕ, ◌≤◌, List, Ok, Err, Some, None}
use Rattle.std.proofs.Math.Option.{some}
use Rattle.wire.specs.Cursors.{left}
use Rattle.wire.specs.declared.Cursor.{Cursor}
use Rattle.layout.specs.Chunks.{done, stop, chunk}
use Rattle.b3d_spec.specs.declared.Tag.{Tag}
use Rattle.b3d_spec.specs.Tags.{Chunks, split}
use Rattle.b3d_spec.specs.Nesting.{nesting, order}
use Rattle.b3d_spec.specs.Nesting as nest
use Rattle.b3d_chunk_cursor.specs.Chunks.{NextIs}
use Rattle.b3d_chunk_cursor.specs.declared.Next.TheVariants as next
use Rattle.b3d_rule_nesting_order.specs.declared.Reached.{Reached}
use Rattle.b3d_chunk_cursor.specs.declared.Next.{Next}
use Rattle.wire.specs.Test.{if}
use Rattle.b3d_rule_nesting_order.specs.Turns.{reached_of, permit_of}

-- what the rule permits of what was found next inside a chunk of tag k, after q: a chunk, or the end of the chunks; of a cut header nothing
abbrev pub permit_for : Tag → Reached → Next → std.Option Reached
permit_for k q (next.Cut p) = None
permit_for k q next.Done = if (nest.required_between (nest.nesting k) q.turn nest.end) None (Some q)
permit_for k q (next.Chunk t p b n) = permit_of (nest.next (nest.nesting k) (nest.nesting k) (reached_of q) t)

-- the chunks that an answer on s stands for: the one found, and those after it, inside a chunk of tag k whose header is at `head`
abbrev pub chunks_of : List ℕ → Tag → ℕ → std.Result (std.Option Enclosed) Refusal → Chunks
chunks_of s k head (Ok (Some f)) = chunk f.tag f.at (left f.body s) (order k head (reached_of f.reached) (split f.next.at (left f.next s)))
chunks_of s k head (Err f) = stop f.number f.place
chunks_of s k head (Ok None) = done

-- the next chunk from c on, of tag t, with its header at p, its body b and the cursor n after it, may stand inside a chunk of tag k
pub record Stood (s : List ℕ) (k : Tag) (q z : Reached) (c : Cursor) (t : Tag) (p : ℕ) (b n : Cursor) : Type 0 where
  -- it is the next known chunk
  pub next : NextIs s c (next.Chunk t p b n)
  -- it brings the chunks from q to z
  pub turn : nest.next (nesting k) (nesting k) (reached_of q) t ≡ some (reached_of z)

-- where an answer's parts stand: a chunk that may stand from c on; a refusal's place not past the end of c; at the end no chunk is left
abbrev pub EnclosedIn : List ℕ → Tag → Reached → Cursor → std.Result (std.Option Enclosed) Refusal → Type 0
EnclosedIn s k q c (Ok (Some f)) = Stood s k q f.reached c f.tag f.at f.body f.next
EnclosedIn s k q c (Err e) = e.place ≤ c.end
EnclosedIn s k q c (Ok None) = NextIs s c next.Done

-- r is what the nesting rule makes of the bytes of c, inside a chunk of tag k whose header is at `head`, after q
pub record EnclosedIs (s : List ℕ) (k : Tag) (head : ℕ) (q : Reached) (c : Cursor) (r : std.Result (std.Option Enclosed) Refusal) : Type 0 where
  -- the chunks from c on, held to the rule, are those that r stands for
  pub says : order k head (reached_of q) (split c.at (left c s)) ≡ chunks_of s k head r
  -- the parts of r stand among the bytes of c
  pub within : EnclosedIn s k q c r
