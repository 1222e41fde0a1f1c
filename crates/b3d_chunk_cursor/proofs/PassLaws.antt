-- Unknown chunks are passed over: what a header makes of the chunks that are left, and the answers of `next_chunk`.
use Rattle.std.specs.Prelude.{Some, None}
use Rattle.std.specs.Prelude as std
use Prim.Native.Nat.{ℕ, ◌+◌, ◌≤◌}
use native.Mathlib.Omega.{arith}
use native.Mathlib.Nat.{le_refl}
use mathlib.Core.Logic.{⊎_elim}
use mathlib.Core.Path.{◌≡◌, refl, sym, ◌∙◌}
use mathlib.Core.List.{List, ◌∷◌}
use mathlib.Core.Option.{none, some}
use lib.ListN.{length, take, drop, get_or}
use Rattle.wire.specs.Bytes.{word_at}
use Rattle.wire.specs.Cursors.{Inside, left, header_at}
use Rattle.wire.specs.declared.Cursor.{Cursor}
use Rattle.wire.specs.declared.Header.{Header}
use Rattle.wire.specs.declared.Header.TheVariants as header
use Rattle.wire.proofs.LeftLaws.{span, left-length, left-nil, left-four, left-drop, left-take}
use Rattle.wire.proofs.AnswerLaws.{Framed, framed, header-end, header-cut}
use Rattle.layout.specs.Chunks.{done, stop, chunk}
use Rattle.layout.proofs.ChunkLaws.{split-none, split-short, split-past, split-known, split_unknown}
use Rattle.b3d_spec.specs.declared.Tag.{Tag}
use Rattle.b3d_spec.specs.Tags.{tag_of, split}
use Rattle.b3d_chunk_cursor.specs.Chunks.{tagged, NextIs}
use Rattle.b3d_chunk_cursor.specs.declared.Next.TheVariants as next
use Rattle.b3d_chunk_cursor.proofs.TagLaws.{known-tag, other_tag}

-- ---- the chunks at a cursor

module _ (s : List ℕ) (c : Cursor) (i : Inside c (length s)) where
  -- eight bytes of a header, and what follows them
  head : c.at + 8 ≤ c.end → left c s
      ≡ get_or s c.at 0 ∷ get_or s (c.at + 1) 0 ∷ get_or s (c.at + 2) 0 ∷ get_or s (c.at + 3) 0
      ∷ get_or s (c.at + 4) 0 ∷ get_or s (c.at + 4 + 1) 0 ∷ get_or s (c.at + 4 + 2) 0 ∷ get_or s (c.at + 4 + 3) 0 ∷ left (span (c.at + 8) c.end) s
  head h =
      rw (
        left-four s c (span (c.at + 4) c.end) i (omega arith) refl refl,
        left-four s (span (c.at + 4) c.end) (span (c.at + 8) c.end) (record { before = omega arith; within = i.within }) (omega arith) (omega arith) refl,
      )

  split-end : header_at s c ≡ header.End → split c.at (left c s) ≡ done
  split-end e = rw (left-nil s c (header-end s c e)) (split-none tag_of c.at)

  split-cut : header_at s c ≡ header.Cut → split c.at (left c s) ≡ stop 3 c.at
  unfolding word_at
  split-cut e =
      let z = header-cut s c e in
      let n = left-length s c i in
      ⊎_elim
      (λ h. split-short tag_of c.at (left c s) (omega arith) (omega arith))
      (λ h. rw (head (omega arith)) (split-past tag_of c.at _ _ _ _ _ _ _ _ _ (omega (arith, left-length s (span (c.at + 8) c.end) (record { before = omega arith; within = i.within })))))
      z.1

  module _ (t : ℕ) (b n : Cursor) (e : header_at s c ≡ header.Whole t b n) where
    f : Framed s c t b n
    f = framed s c t b n e

    after : Inside (span (c.at + 8) c.end) (length s)
    after = record { before = f.head; within = i.within }

    size : word_at s (c.at + 4) ≤ length (left (span (c.at + 8) c.end) s)
    size = omega (arith, f, left-length s (span (c.at + 8) c.end) after)

    body : left b s ≡ take (word_at s (c.at + 4)) (left (span (c.at + 8) c.end) s)
    body = left-take s (span (c.at + 8) c.end) (word_at s (c.at + 4)) b after (omega (arith, f)) f.body f.size

    rest : left n s ≡ drop (word_at s (c.at + 4)) (left (span (c.at + 8) c.end) s)
    rest = left-drop s (span (c.at + 8) c.end) (word_at s (c.at + 4)) n (f.after ∙ f.size) f.same

    split-whole : (k : Tag) → tag_of t ≡ some k → split c.at (left c s) ≡ chunk k c.at (left b s) (split n.at (left n s))
    unfolding word_at
    split-whole k q =
        rw (body, rest, f.after ∙ f.size, head f.head) (split-known tag_of c.at _ _ _ _ _ _ _ _ _ size k (rw f.tag at q))

    split-other : tag_of t ≡ none → split c.at (left c s) ≡ split n.at (left n s)
    unfolding word_at
    split-other q =
        rw (rest, f.after ∙ f.size, head f.head) (split_unknown tag_of c.at _ _ _ _ _ _ _ _ _ size (rw f.tag at q))

-- ---- the loop

-- from `from` on only unknown chunks have been passed, up to c
pub record Passed (s : List ℕ) (from c : Cursor) : Type 0 where
  pub inside : Inside c (length s)
  pub after : from.at ≤ c.at
  pub same : c.end ≡ from.end
  pub rest : split from.at (left from s) ≡ split c.at (left c s)

pub pass_none : (s : List ℕ) (c : Cursor) → Inside c (length s) → Passed s c c
pass_none s c i = record { inside = i; after = le_refl _; same = refl; rest = refl }

module _ (s : List ℕ) (from c : Cursor) (p : Passed s from c) (r : Header) (e : r ≡ header_at s c) where
  pub next-none : r ≡ header.End → NextIs s from next.Done
  next-none w = record { says = p.rest ∙ split-end s c p.inside (sym e ∙ w); among = tt }

  pub next-cut : r ≡ header.Cut → NextIs s from (next.Cut c.at)
  next-cut w = record { says = p.rest ∙ split-cut s c p.inside (sym e ∙ w); among = omega arith }

  module _ (t : ℕ) (b n : Cursor) (w : r ≡ header.Whole t b n) (g : std.Option Tag) (h : g ≡ tagged (tag_of t)) where
    pub next_known : (k : Tag) → g ≡ Some k → NextIs s from (next.Chunk k c.at b n)
    next_known k q =
        let f = framed s c t b n (sym e ∙ w) in
        record {
          says = p.rest ∙ split-whole s c p.inside t b n (sym e ∙ w) k (known-tag (tag_of t) k (sym q ∙ h));
          among = record { from = p.after; body = f.body; room = f.room; after = f.after; to = omega arith; same = f.same ∙ p.same };
        }

    pub pass_one : g ≡ None → Passed s from n
    pass_one q =
        let f = framed s c t b n (sym e ∙ w) in
        record {
          inside = omega arith;
          after = omega arith;
          same = f.same ∙ p.same;
          rest = p.rest ∙ split-other s c p.inside t b n (sym e ∙ w) (other_tag (tag_of t) (sym q ∙ h));
        }

pub ruleset passing = (pass_none, next-none, next-cut, next_known, pass_one)
