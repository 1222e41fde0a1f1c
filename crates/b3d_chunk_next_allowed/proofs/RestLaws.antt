-- The chunks that a cursor has left, by what `next_chunk` finds there, and by what the nesting table makes of it.
use Rattle.std.specs.Prelude.{Ok, Err, Some, None}
use Rattle.std.specs.Prelude as std
use Rattle.b3d_chunk_next_allowed.specs.declared.Enclosed.{Enclosed}
use Rattle.layout.specs.declared.Refusal.{Refusal}
use mathlib.Core.Path.{ap, ◌≡◌}
use Prim.Native.Nat.{ℕ, ◌≤◌}
use native.Mathlib.Omega.{arith}
use mathlib.Core.List.{List}
use lib.ListN.{length}
use Rattle.wire.specs.Cursors.{Inside, left}
use Rattle.wire.specs.declared.Cursor.{Cursor}
use Rattle.layout.specs.Chunks.{done, stop, chunk}
use Rattle.b3d_spec.specs.declared.Tag.{Tag}
use Rattle.b3d_spec.specs.Nesting.{nesting, Reached, next as next_turn, onward, order}
use Rattle.b3d_chunk_cursor.specs.Chunks.{NextIs}
use Rattle.b3d_chunk_cursor.specs.declared.Next.{Next}
use Rattle.b3d_chunk_cursor.specs.declared.Next.TheVariants as next
use Rattle.b3d_chunk_cursor.proofs.NextLaws.{chunk-is, done-is}
use Rattle.b3d_spec_chunk_places.specs.Places.{Body, rest_in, Among}
use Rattle.b3d_rule_nesting_order.specs.declared.Reached.{Reached as State}
use Rattle.b3d_rule_nesting_order.specs.Turns.{reached_of}
use Rattle.b3d_chunk_next_allowed.specs.Steps.{EnclosedIs}
use Rattle.b3d_chunk_next_allowed.proofs.InsideLaws.{stepped, step-among, stopped, ended}

module _ (s : List ℕ) (c : Cursor) (r : Next) (x : NextIs s c r) (k : Tag) (head : ℕ) (q : Reached) where
  -- a known chunk: 4 at its header if it may not stand there, else its reading and then the chunks after it
  pub rest-chunk : (t : Tag) (p : ℕ) (b n : Cursor) → r ≡ next.Chunk t p b n
      → rest_in s k head q c ≡ onward (next_turn (nesting k) (nesting k) q t) p (λ z. chunk t p (left b s) (rest_in s k head z n))
  unfolding rest_in order
  rest-chunk t p b n w = ap (order k head q) (chunk-is s c r x t p b n w)

  pub rest-done : r ≡ next.Done → rest_in s k head q c ≡ order k head q done
  unfolding rest_in
  rest-done w = ap (order k head q) (done-is s c r x w)

-- the same, by what `first_inside` or `next_inside` makes of it
module _ (s : List ℕ) (k : Tag) (head : ℕ) (q : State) (c : Cursor) (r : std.Result (std.Option Enclosed) Refusal) (x : EnclosedIs s k head q c r) where
  pub rest-step : (f : Enclosed) → r ≡ Ok (Some f)
      → rest_in s k head (reached_of q) c ≡ chunk f.tag f.at (left f.body s) (rest_in s k head (reached_of f.reached) f.next)
  unfolding rest_in
  rest-step f w = stepped s k head q c r x f w

  pub rest-stop : (e : Refusal) → r ≡ Err e → rest_in s k head (reached_of q) c ≡ stop e.number e.place
  unfolding rest_in
  rest-stop e w = stopped s k head q c r x e w

  pub rest_end : r ≡ (Ok None) → rest_in s k head (reached_of q) c ≡ done
  unfolding rest_in
  rest_end w = ended s k head q c r x w

  -- the body of a chunk that may stand there
  pub step-body : (at : ℕ) → Among at c (length s) → (d : Enclosed) → r ≡ Ok (Some d) → Body d.at d.body (length s)
  step-body at g d w =
      let f = step-among s k head q c r x d w in
      record { head = f.body; room = f.room; within = omega (arith, g.within); small = g.small }

-- what `next_chunk`, `first_inside` and `next_inside` ask of a cursor
pub among-inside : (at : ℕ) (c : Cursor) (n : ℕ) → Among at c n → Inside c n
among-inside at c n g = record { before = g.room; within = g.within }

pub among-head : (at : ℕ) (c : Cursor) (n : ℕ) → Among at c n → at ≤ c.at
among-head at c n g = omega (arith, g.head)
