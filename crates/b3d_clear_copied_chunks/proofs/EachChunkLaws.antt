-- Each chunk of a tag, written one after the other: what the loop has come to, and a law for each way on.
use Rattle.std.specs.Prelude.{Some, None}
use Rattle.std.specs.Prelude as std
use Rattle.b3d_chunk_walk.specs.declared.Sought.{Sought}
use mathlib.Core.Path.{◌≡◌, refl, ap, sym, ◌∙◌}
use Prim.Native.Nat.{ℕ, ◌+◌, ◌-◌, ◌<◌, ◌≤◌}
use native.Mathlib.Omega.{arith}
use mathlib.Core.List.{List, [], ◌++◌}
use mir.Syntax.{w64}
use mir.Val.{Fits}
use lib.Dec.{eqb_refl}
use lib.ListN.{length, take, drop}
use Rattle.wire.specs.Cursors.{Inside, left}
use Rattle.wire.specs.declared.Cursor.{Cursor}
use Rattle.layout.specs.Rows.{most_bytes}
use Rattle.shared_output.specs.Writing.{Room, Put}
use Rattle.shared_output.proofs.PieceLaws.{Pieces, pieces_none, piece-room, piece-next, pieces-done}
use Rattle.layout.proofs.ResultLaws.{if_yes, if_no}
use Rattle.b3d_spec.specs.Tags.{Chunks, code, is}
use Rattle.b3d_spec.specs.declared.Tag.{Tag}
use Rattle.b3d_chunk_walk.specs.Seeks.{Seeks, seek_of}
use Rattle.b3d_chunk_walk.proofs.SeekLaws.{sought_none, sought_is, sought_among, by_seek}
use Rattle.b3d_spec_chunk_places.specs.Places.{Body}
use Rattle.b3d_spec_chunk_places.proofs.HeadLaws.{body-inside}
use Rattle.b3d_clear_spec.specs.Copies.{each, chunks_at}

-- each chunk of a tag stands from the first of the tag on
each_seek : (k : Tag) (one : ℕ → List ℕ → List ℕ) (cs : Chunks) → each k one cs ≡ each k one (seek_of k cs)
unfolding each
each_seek k one =
    by_seek k (each k one) (λ n p. refl)
    (λ t p b r y. if_no (is t k) (one p b ++ each k one r) (each k one r) y)

-- of the chunks of tag k from `from` on those before c are written, up to n
pub record EachLeft (s : List ℕ) (k : Tag) (one : ℕ → List ℕ → List ℕ) (from : Cursor) (out₀ out : List ℕ) (c : Cursor) (n : ℕ) : Type 0 where
  pub inside : Inside c (length s)
  pub small : length s ≤ most_bytes
  pub pieces : Pieces 0 (each k one (chunks_at s from)) (each k one (chunks_at s c)) out₀ out n

module _ (s : List ℕ) (k : Tag) (one : ℕ → List ℕ → List ℕ) (from : Cursor) where
  pub each_start : (out : List ℕ) → Inside from (length s) → length s ≤ most_bytes → Room (each k one (chunks_at s from)) out → EachLeft s k one from out out from 0
  each_start out i h r = record { inside = i; small = h; pieces = pieces_none [] (each k one (chunks_at s from)) out 0 refl r }

  module _ (out₀ out : List ℕ) (c : Cursor) (n : ℕ) (v : EachLeft s k one from out₀ out c n) where
    pub each_inside : Inside c (length s)
    each_inside = v.inside

    pub each_long : length out ≡ length out₀
    each_long = v.pieces.wrote.long

    pub each_at : n ≤ length out
    each_at = v.pieces.inside

    finish : each k one (chunks_at s c) ≡ [] → Put (each k one (chunks_at s from)) out₀ out n
    finish e = pieces-done (rw e at v.pieces)

    module _ (r : std.Option Sought) (x : Seeks s c k r) where
      pub each_done : r ≡ None → Put (each k one (chunks_at s from)) out₀ out n
      unfolding each
      each_done w = finish (each_seek k one (chunks_at s c) ∙ ap (each k one) (sought_none s c k r x w))

      module _ (g : Sought) (w : r ≡ Some g) where
        pub each_body : Body g.at g.body (length s)
        each_body = let f = sought_among s c k r x g w in record { head = f.body; room = f.room; within = omega (arith, v.inside.within); small = v.small }

        pub each_bytes : Inside g.body (length s)
        each_bytes = body-inside s g.at g.body each_body

        pub each_less : g.next.end - g.next.at < c.end - c.at
        each_less = let f = sought_among s c k r x g w in omega arith

        module _ (piece : List ℕ) (same : piece ≡ one g.at (left g.body s)) where
          step : each k one (chunks_at s c) ≡ piece ++ each k one (chunks_at s g.next)
          unfolding each
          step =
              each_seek k one (chunks_at s c) ∙ ap (each k one) (sought_is s c k r x g w)
              ∙ if_yes (is k k) (one g.at (left g.body s) ++ each k one (chunks_at s g.next)) (each k one (chunks_at s g.next)) (eqb_refl (code k))
              ∙ ap (λ (l : List ℕ). l ++ each k one (chunks_at s g.next)) (sym same)

          pub each_room : Room piece (take (length out - n) (drop n out))
          each_room = piece-room v.pieces piece (each k one (chunks_at s g.next)) step

          module _ (zs : List ℕ) (size : ℕ) (h : Put piece (take (length out - n) (drop n out)) zs size) where
            on : Pieces 0 (each k one (chunks_at s from)) (each k one (chunks_at s g.next)) out₀ (take n out ++ (zs ++ drop (length out - n) (drop n out))) (n + size)
            on = piece-next v.pieces piece (each k one (chunks_at s g.next)) step h

            pub each_sum : Fits w64 (n + size)
            each_sum = record { fits = omega (arith, on.below) }

            pub each_more : EachLeft s k one from out₀ (take n out ++ (zs ++ drop (length out - n) (drop n out))) g.next (n + size)
            each_more =
                let f = sought_among s c k r x g w in
                record { inside = record { before = f.to; within = omega (arith, v.inside.within) }; small = v.small; pieces = on }

pub ruleset each_laws = (each_start, each_inside, each_long, each_at, each_done, each_body, each_bytes, each_less, each_room, each_sum, each_more)
