-- The pieces of a stretch of bytes, one at a time: by the list, and at a cursor by what its header says.
use Prim.Native.Nat.{ℕ, ◌+◌, ◌-◌, ◌≤◌, ◌<◌}
use native.Mathlib.Omega.{arith}
use mathlib.Core.Path.{◌≡◌, refl, ◌∙◌}
use mathlib.Core.Option.{Option, none, some}
use mathlib.Core.List.{List, [], ◌∷◌}
use lib.ListN.{length, take, drop, get_or}
use lib.Dec.{leb, le→leb}
use Rattle.wire.specs.Bytes.{word, word_at}
use Rattle.wire.specs.Test.{if}
use Rattle.wire.specs.Cursors.{Inside, left}
use Rattle.wire.specs.declared.Cursor.{Cursor}
use Rattle.wire.specs.declared.Header.TheVariants as header
use Rattle.wire.proofs.LeftLaws.{span, left-length, left-nil, left-four, left-drop, left-take}
use Rattle.layout.specs.Chunks.{stop, keep}
use Rattle.layout.proofs.ChunkLaws.{split_step, split-past}
use Rattle.layout.proofs.ResultLaws.{if_yes}
use Rattle.b3d_spec.specs.declared.Tag.{Tag}
use Rattle.b3d_spec.specs.Tags.{tag_of, split}
use Rattle.b3d_mend_spec.proofs.StepLaws.{pieces_none, pieces-short, pieces-past, pieces_whole}
use Rattle.b3d_mend_spec.specs.Pieces.{Pieces, none_left, spare, past, piece, pieces, chunks_of}

-- ---- by the list

module _ (p a b c d e x y z : ℕ) (s : List ℕ) where
  pub split-whole : word e x y z ≤ length s → split p (a ∷ b ∷ c ∷ d ∷ e ∷ x ∷ y ∷ z ∷ s)
      ≡ keep (tag_of (word a b c d)) p (take (word e x y z) s) (split (p + 8 + word e x y z) (drop (word e x y z) s))
  split-whole k = split_step tag_of p a b c d e x y z s ∙ if_yes (leb (word e x y z) (length s)) _ _ (le→leb _ _ k)

pub piece-chunks : (o : Option Tag) (p : ℕ) (h b : List ℕ) (r : Pieces) → chunks_of (piece o p h b r) ≡ keep o p b (chunks_of r)
unfolding piece chunks_of keep
piece-chunks none p h b r = refl
piece-chunks (some t) p h b r = refl

-- ---- at a cursor

-- the eight bytes of a header at a place
abbrev pub head_at : List ℕ → ℕ → List ℕ
head_at s p = get_or s p 0 ∷ get_or s (p + 1) 0 ∷ get_or s (p + 2) 0 ∷ get_or s (p + 3) 0 ∷ get_or s (p + 4) 0 ∷ get_or s (p + 4 + 1) 0 ∷ get_or s (p + 4 + 2) 0 ∷ get_or s (p + 4 + 3) 0 ∷ []

module _ (s : List ℕ) (c : Cursor) (i : Inside c (length s)) where
  head : c.at + 8 ≤ c.end → left c s
      ≡ get_or s c.at 0 ∷ get_or s (c.at + 1) 0 ∷ get_or s (c.at + 2) 0 ∷ get_or s (c.at + 3) 0
      ∷ get_or s (c.at + 4) 0 ∷ get_or s (c.at + 4 + 1) 0 ∷ get_or s (c.at + 4 + 2) 0 ∷ get_or s (c.at + 4 + 3) 0 ∷ left (span (c.at + 8) c.end) s
  head h =
      rw (
        left-four s c (span (c.at + 4) c.end) i (omega arith) refl refl,
        left-four s (span (c.at + 4) c.end) (span (c.at + 8) c.end) (record { before = omega arith; within = i.within }) (omega arith) (omega arith) refl,
      )

  -- nothing, 1 to 7 bytes, a length past the end
  pub at-end : c.end ≤ c.at → pieces c.at (left c s) ≡ none_left
  at-end h = rw (left-nil s c h) (pieces_none c.at)

  pub at-spare : c.at < c.end → c.end - c.at < 8 → pieces c.at (left c s) ≡ spare c.at (left c s)
  at-spare h k = let n = left-length s c i in pieces-short c.at (left c s) (omega arith) (omega arith)

  pub at-past : 8 ≤ c.end - c.at → c.end - (c.at + 8) < word_at s (c.at + 4) → pieces c.at (left c s) ≡ past c.at (left c s)
  unfolding word_at
  at-past h k =
      let n = left-length s (span (c.at + 8) c.end) (record { before = omega arith; within = i.within }) in
      rw (head (omega arith)) (pieces-past c.at _ _ _ _ _ _ _ _ _ (omega arith))

  pub split-cut : 8 ≤ c.end - c.at → c.end - (c.at + 8) < word_at s (c.at + 4) → split c.at (left c s) ≡ stop 3 c.at
  unfolding word_at
  split-cut h k =
      let n = left-length s (span (c.at + 8) c.end) (record { before = omega arith; within = i.within }) in
      rw (head (omega arith)) (split-past tag_of c.at _ _ _ _ _ _ _ _ _ (omega arith))

  -- a chunk whose body ends at e, which is not past the end
  module _ (e : ℕ) (is : e ≡ c.at + 8 + word_at s (c.at + 4)) (le : e ≤ c.end) where
    after : Inside (span (c.at + 8) c.end) (length s)
    after = record { before = omega arith; within = i.within }

    size : word_at s (c.at + 4) ≤ length (left (span (c.at + 8) c.end) s)
    size = omega (arith, left-length s (span (c.at + 8) c.end) after)

    body : left (span (c.at + 8) e) s ≡ take (word_at s (c.at + 4)) (left (span (c.at + 8) c.end) s)
    body = left-take s (span (c.at + 8) c.end) (word_at s (c.at + 4)) (span (c.at + 8) e) after (omega arith) refl is

    rest : left (span e c.end) s ≡ drop (word_at s (c.at + 4)) (left (span (c.at + 8) c.end) s)
    rest = left-drop s (span (c.at + 8) c.end) (word_at s (c.at + 4)) (span e c.end) is refl

    pub at_piece : pieces c.at (left c s) ≡ piece (tag_of (word_at s c.at)) c.at (head_at s c.at) (left (span (c.at + 8) e) s) (pieces e (left (span e c.end) s))
    unfolding word_at
    at_piece = rw (body, rest, is, head (omega arith)) (pieces_whole c.at _ _ _ _ _ _ _ _ _ size)

    pub at_split : split c.at (left c s) ≡ keep (tag_of (word_at s c.at)) c.at (left (span (c.at + 8) e) s) (split e (left (span e c.end) s))
    unfolding word_at
    at_split = rw (body, rest, is, head (omega arith)) (split-whole c.at _ _ _ _ _ _ _ _ _ size)
