-- Items that are a text and words, each written as an empty text and its words.
use Rattle.std.specs.Prelude.{Some, None}
use Rattle.std.specs.Prelude as std
use Rattle.b3d_chunk_cursor.specs.declared.Named.{Named}
use mathlib.Core.Path.{◌≡◌, refl, ap, sym, ◌∙◌}
use Prim.Native.Nat.{ℕ, ◌+◌, ◌-◌, ◌*◌, ◌<◌, ◌≤◌}
use native.Mathlib.Omega.{arith}
use mathlib.Core.List.{List, [], ◌++◌}
use mir.Syntax.{w64}
use mir.Val.{Fits}
use lib.ListN.{length, take, drop, set, replicate, length-set, length-replicate}
use Rattle.wire.specs.Bytes.{AllBytes}
use Rattle.wire.specs.Cursors.{Inside, left}
use Rattle.wire.specs.declared.Cursor.{Cursor}
use Rattle.wire.proofs.LeftLaws.{span, left-length, left-take, left-bytes}
use Rattle.layout.specs.Parts.{words_of}
use Rattle.layout.specs.Rules.{any}
use Rattle.layout.specs.Write.{write_words}
use Rattle.layout.proofs.PartLaws.{length-words}
use Rattle.layout.proofs.StepLaws.{length-words-of}
use Rattle.shared_output.specs.Writing.{Wrote, Room, Put}
use Rattle.shared_output.proofs.PieceLaws.{Pieces, pieces_none, piece-room, piece-next, pieces-done}
use Rattle.shared_output.proofs.WroteLaws.{wrote_none, wrote-byte, wrote-part, part_length}
use Rattle.b3d_chunk_cursor.specs.Chunks.{named_at, NamedIn}
use Rattle.b3d_chunk_cursor.proofs.NamedLaws.{named-cut, named-any, named-among}
use Rattle.b3d_clear_spec.specs.Copies.{unnamed, item_of, unnamed_items}
use Rattle.b3d_clear_spec.proofs.ExactLaws.{words-of_exact}
use Rattle.b3d_clear_spec.proofs.ItemLaws.{items-step}
use Rattle.b3d_clear_copied_chunks.proofs.ChunkLaws.{left-part}

-- ---- an item

module _ (s : List ℕ) (row : Cursor) (words : ℕ) (i : Inside row (length s)) (h : row.at + 4 * words ≤ row.end) (out : List ℕ)
    (r : Room (unnamed (words_of words (left row s))) out) where
  long : length (write_words (words_of words (left row s)) []) ≡ 4 * words
  long = omega (arith, length-words (words_of words (left row s)) [], length-words-of words (left row s) (omega (arith, left-length s row i)))

  pub unnamed-first : 0 < length out
  unnamed-first = omega (arith, r.room)

  pub unnamed-there : row.at + 4 * words ≤ length s
  unnamed-there = omega (arith, i.within)

  -- the first byte is set, to whatever
  module _ (v : ℕ) where
    pub unnamed-one : 1 ≤ length (set out 0 v)
    unnamed-one = rw (length-set out 0 v) (omega (arith, r.room))

    pub unnamed-room : 4 * words ≤ length (take (length (set out 0 v) - 1) (drop 1 (set out 0 v)))
    unnamed-room = rw (part_length, length-set out 0 v) (omega (arith, r.room, long))

    pub unnamed-long : (w ys : List ℕ) → Wrote (take (length (set out 0 v) - 1) (drop 1 (set out 0 v))) w ys
        → length (take 1 (set out 0 v) ++ (ys ++ drop (length (set out 0 v) - 1) (drop 1 (set out 0 v)))) ≡ length out
    unnamed-long w ys h = (wrote-part 1 (wrote-byte v 0 (wrote_none out) refl unnamed-first) refl h).long

  pub unnamed-done : AllBytes s → (ys : List ℕ) → Wrote (take (length (set out 0 0) - 1) (drop 1 (set out 0 0))) (take (4 * words) (drop row.at s)) ys
      → Put (unnamed (words_of words (left row s))) out (take 1 (set out 0 0) ++ (ys ++ drop (length (set out 0 0) - 1) (drop 1 (set out 0 0)))) (4 * words + 1)
  unnamed-done all ys w =
      let b : Cursor = span row.at (row.at + 4 * words) in
      let n : row.at + 4 * words - row.at ≡ 4 * words = omega arith in
      let e : take (4 * words) (drop row.at s) ≡ write_words (words_of words (left row s)) [] =
      ap (λ (k : ℕ). take k (drop row.at s)) (sym n) ∙ left-part s b (record { before = omega arith; within = unnamed-there }) ∙ left-take s row (4 * words) b i h refl refl
      ∙ sym (words-of_exact words (left row s) (left-bytes s row all) (omega (arith, left-length s row i))) in
      record {
        wrote = wrote-part 1 (wrote-byte 0 0 (wrote_none out) refl unnamed-first) refl (rw e at w);
        bytes = omega (arith, long);
        small = omega (arith, r.small, long);
      }

pub ruleset unnamed_laws = (unnamed-first, unnamed-one, unnamed-there, unnamed-room, unnamed-done, unnamed-long)

-- ---- one after the other

-- those before c are written, up to n
pub record ItemsLeft (s : List ℕ) (words : ℕ) (from : Cursor) (out₀ out : List ℕ) (c : Cursor) (n : ℕ) : Type 0 where
  pub inside : Inside c (length s)
  pub pieces : Pieces 0 (unnamed_items words from.at (left from s)) (unnamed_items words c.at (left c s)) out₀ out n

module _ (s : List ℕ) (words : ℕ) (from : Cursor) where
  pub items_start : (out : List ℕ) → Inside from (length s) → Room (unnamed_items words from.at (left from s)) out → ItemsLeft s words from out out from 0
  items_start out i r = record { inside = i; pieces = pieces_none [] (unnamed_items words from.at (left from s)) out 0 refl r }

  module _ (out₀ out : List ℕ) (c : Cursor) (n : ℕ) (v : ItemsLeft s words from out₀ out c n) where
    pub items_inside : Inside c (length s)
    items_inside = v.inside

    pub items_long : length out ≡ length out₀
    items_long = v.pieces.wrote.long

    pub items_at : n ≤ length out
    items_at = v.pieces.inside

    module _ (r : std.Option Named) (e : r ≡ named_at s c words) where
      pub items_done : r ≡ None → Put (unnamed_items words from.at (left from s)) out₀ out n
      unfolding item_of
      items_done q =
          let z : unnamed_items words c.at (left c s) ≡ [] =
          items-step words c.at (left c s) ∙ ap (item_of (unnamed_items words)) (named-cut s c words v.inside (replicate words any) (length-replicate words any) r e q) in
          pieces-done (rw z at v.pieces)

      module _ (ir : NamedIn c words r) (g : Named) (q : r ≡ Some g) where
        pub items_row : Inside g.row (length s)
        items_row = let f = named-among c words r ir g q in record { before = omega arith; within = omega (arith, v.inside.within) }

        pub items_words : g.row.at + 4 * words ≤ g.row.end
        items_words = let f = named-among c words r ir g q in omega arith

        pub items_less : g.next.end - g.next.at < c.end - c.at
        items_less = let f = named-among c words r ir g q in omega arith

        step : unnamed_items words c.at (left c s) ≡ unnamed (words_of words (left g.row s)) ++ unnamed_items words g.next.at (left g.next s)
        unfolding item_of
        step = items-step words c.at (left c s) ∙ ap (item_of (unnamed_items words)) (named-any s c words v.inside r e g q)

        pub items_room : Room (unnamed (words_of words (left g.row s))) (take (length out - n) (drop n out))
        items_room = piece-room v.pieces (unnamed (words_of words (left g.row s))) (unnamed_items words g.next.at (left g.next s)) step

        module _ (zs : List ℕ) (size : ℕ) (h : Put (unnamed (words_of words (left g.row s))) (take (length out - n) (drop n out)) zs size) where
          on : Pieces 0 (unnamed_items words from.at (left from s)) (unnamed_items words g.next.at (left g.next s)) out₀ (take n out ++ (zs ++ drop (length out - n) (drop n out))) (n + size)
          on = piece-next v.pieces (unnamed (words_of words (left g.row s))) (unnamed_items words g.next.at (left g.next s)) step h

          pub items_sum : Fits w64 (n + size)
          items_sum = record { fits = omega (arith, on.below) }

          pub items_more : ItemsLeft s words from out₀ (take n out ++ (zs ++ drop (length out - n) (drop n out))) g.next (n + size)
          items_more = let f = named-among c words r ir g q in record { inside = record { before = f.to; within = omega (arith, v.inside.within) }; pieces = on }

pub ruleset item_laws = (items_start, items_inside, items_long, items_at, items_done, items_row, items_words, items_less, items_room, items_sum, items_more)
