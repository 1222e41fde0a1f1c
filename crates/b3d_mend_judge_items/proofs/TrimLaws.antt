-- What the loop of `trimmed` has passed: whole chunks, in any cursor that ends behind them.
use Prim.Native.Nat.{ℕ, ◌+◌, ◌-◌, ◌≤◌, ◌<◌}
use native.Mathlib.Omega.{arith}
use native.Mathlib.Nat.{le_refl}
use mathlib.Core.Logic.{⊎_elim}
use mathlib.Core.Path.{◌≡◌, refl, sym, ap, ◌∙◌}
use mathlib.Core.List.{List}
use lib.ListN.{length}
use Rattle.wire.specs.Bytes.{word_at}
use Rattle.wire.specs.Cursors.{Inside, left, header_at}
use Rattle.wire.specs.declared.Cursor.{Cursor}
use Rattle.wire.specs.declared.Header.{Header}
use Rattle.wire.specs.declared.Header.TheVariants as header
use Rattle.wire.proofs.LeftLaws.{span, left-nil}
use Rattle.wire.proofs.AnswerLaws.{Framed, framed, header-end, header-cut}
use Rattle.layout.specs.Chunks.{done, keep}
use Rattle.layout.proofs.ChunkLaws.{split-none}
use Rattle.b3d_spec.specs.Tags.{tag_of, split, Chunks}
use Rattle.b3d_mend_spec.specs.Pieces.{Pieces, pieces, chunks_of}
use Rattle.b3d_mend_judge_items.proofs.PieceStepLaws.{piece-chunks, at-end, at-spare, at-past, at_piece, at_split, split-cut}
use Rattle.b3d_mend_judge_items.specs.Trimmed.{Trimmed}

-- from `from` on whole chunks have been passed, up to c: `before` puts those that are known before others
pub record Passing (s : List ℕ) (from c : Cursor) : Type 0 where
  pub inside : Inside c (length s)
  pub after : from.at ≤ c.at
  pub same : c.end ≡ from.end
  pub before : Chunks → Chunks
  pub all : chunks_of (pieces from.at (left from s)) ≡ before (chunks_of (pieces c.at (left c s)))
  pub part : (e : ℕ) → c.at ≤ e → e ≤ from.end → split from.at (left (span from.at e) s) ≡ before (split c.at (left (span c.at e) s))

pub pass_none : (s : List ℕ) (c : Cursor) → Inside c (length s) → Passing s c c
pass_none s c i = record { inside = i; after = le_refl _; same = refl; before = (λ z. z); all = refl; part = (λ e h k. refl) }

module _ (s : List ℕ) (from c : Cursor) (p : Passing s from c) (i : Inside from (length s)) (r : Header) (e : r ≡ header_at s c) where
  -- the whole cursor
  whole : split c.at (left c s) ≡ chunks_of (pieces c.at (left c s)) → Trimmed s from from
  whole h = record {
    same = refl;
    room = i.before;
    within = le_refl _;
    chunks =
        p.part from.end (omega (arith, p.inside.before, p.same)) (le_refl _)
        ∙ ap p.before (ap (λ (z : ℕ). split c.at (left (span c.at z) s)) (sym p.same) ∙ h)
        ∙ sym p.all;
  }

  pub trim_end : r ≡ header.End → Trimmed s from from
  unfolding chunks_of
  trim_end w =
      let h = header-end s c (sym e ∙ w) in
      whole (rw (left-nil s c h, split-none tag_of c.at) (sym (ap chunks_of (rw (left-nil s c h) at (at-end s c p.inside h)))))

  module _ (w : r ≡ header.Cut) where
    pub trim_spare : c.end - c.at < 8 → Trimmed s from (span from.at c.at)
    unfolding chunks_of
    trim_spare h =
        let z = header-cut s c (sym e ∙ w) in
        let none : split c.at (left (span c.at c.at) s) ≡ done = rw (left-nil s (span c.at c.at) (le_refl _)) (split-none tag_of c.at) in
        record {
          same = refl;
          room = p.after;
          within = omega (arith, p.inside.before, p.same);
          chunks =
              p.part c.at (le_refl _) (omega (arith, p.inside.before, p.same))
              ∙ ap p.before (none ∙ sym (ap chunks_of (at-spare s c p.inside z.0 h)))
              ∙ sym p.all;
        }

    pub trim_past : 8 ≤ c.end - c.at → Trimmed s from from
    unfolding chunks_of
    trim_past h =
        let z = header-cut s c (sym e ∙ w) in
        ⊎_elim
        (λ k. absurd (omega arith))
        (λ k. whole (split-cut s c p.inside k.0 k.1 ∙ sym (ap chunks_of (at-past s c p.inside k.0 k.1))))
        z.1

  module _ (t : ℕ) (b n : Cursor) (w : r ≡ header.Whole t b n) where
    frame : Framed s c t b n
    frame = framed s c t b n (sym e ∙ w)

    next-at : n.at ≡ c.at + 8 + word_at s (c.at + 4)
    next-at = frame.after ∙ frame.size

    pub pass_one : Passing s from n
    pass_one =
        let f = frame in
        let one = keep (tag_of (word_at s c.at)) c.at (left (span (c.at + 8) n.at) s) in
        record {
          inside = record { before = omega (arith, f.same, f.inside, f.after); within = omega (arith, f.same, p.inside.within) };
          after = omega (arith, p.after, next-at);
          same = f.same ∙ p.same;
          before = (λ z. p.before (one z));
          all =
              p.all
              ∙ ap (λ (z : Pieces). p.before (chunks_of z)) (at_piece s c p.inside n.at next-at (omega (arith, f.inside, f.after)))
              ∙ ap p.before (piece-chunks (tag_of (word_at s c.at)) c.at _ (left (span (c.at + 8) n.at) s) (pieces n.at (left (span n.at c.end) s)))
              ∙ ap (λ (z : ℕ). p.before (one (chunks_of (pieces n.at (left (span n.at z) s))))) (sym f.same);
          part = (λ q h k.
              p.part q (omega (arith, next-at)) k
              ∙ ap p.before (at_split s (span c.at q) (record { before = omega (arith, next-at); within = omega (arith, i.within) }) n.at next-at h));
        }

pub ruleset trimming = (pass_none, trim_end, trim_spare, trim_past, pass_one)
