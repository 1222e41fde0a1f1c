-- The next text with its words: a law for each need.
use Rattle.std.specs.Prelude.{Some, None}
use Rattle.std.specs.Prelude as std
use Rattle.b3d_chunk_cursor.specs.declared.Named.{Named}
use mathlib.Core.Path.{◌≡◌, refl, ap, sym, subst, ◌∙◌}
use Prim.Native.Nat.{ℕ, ◌+◌, ◌*◌, ◌<◌, ◌≤◌}
use native.Mathlib.Omega.{arith}
use mathlib.Core.List.{List, ◌∷◌, ◌++◌, map}
use lib.ListN.{length, take, replicate, length-append, length-replicate}
use lib.Seq.{sets, length-take-le}
use Rattle.wire.specs.Cursors.{Inside, left}
use Rattle.wire.specs.declared.Cursor.{Cursor}
use Rattle.wire.proofs.LeftLaws.{left-length}
use Rattle.layout.specs.Parts.{Name, words_of}
use Rattle.layout.specs.Rules.{any, NONE}
use Rattle.layout.proofs.StepLaws.{length-words-of}
use Rattle.layout.specs.Rows.{name_cells}
use Rattle.b3d_chunk_cursor.specs.Chunks.{named_at, NamedIn}
use Rattle.b3d_chunk_cursor.proofs.NamedLaws.{named-cut, named-any, named-among, row_inside as named-inside, row_room as named_room, after-inside}
use Rattle.b3d_spec_plain_rows.specs.Plain.{next_item, named_items}
use Rattle.b3d_spec_plain_rows.proofs.NamedItemLaws.{items-from}
use Rattle.b3d_read_materials.specs.Texts.{named_row}
use Rattle.b3d_rows_positions.specs.declared.Position.{Position}
use Rattle.b3d_rows_items.specs.NextText.{text_rows, TextPosition, TextNexts}

module _ (k : ℕ) (s : List ℕ) (x : Position) (v : TextPosition k s x) where
  abbrev c : Cursor
  c = x.items.rest

  abbrev n : ℕ
  n = x.items.words

  abbrev free : ℕ
  free = x.items.size

  pub text-inside : Inside x.items.rest (length s)
  text-inside = v.at.inside

  pub text-words : x.items.words ≤ 64
  text-words = omega (arith, v.at.words)

  pub text-place : x.items.rest.at < 0x100000000
  text-place = omega (arith, v.at.inside.before, v.at.inside.within, v.small)

  module _ (r : std.Option Named) (e : r ≡ named_at s x.items.rest x.items.words) where
    pub text_none : r ≡ None → (row : List ℕ) → TextNexts k s x row row None
    unfolding next_item text_rows
    text_none q row =
        let z = items-from n c.at (left c s) ∙ ap (next_item (named_items n)) (named-cut s c n v.at.inside (replicate n any) (length-replicate n any) r e q) in
        record { is = record { none = ap (λ (l : List (Name × List ℕ)). map (named_row free) l) z; same = refl } }

    module _ (b : NamedIn x.items.rest x.items.words r) (g : Named) (q : r ≡ Some g) where
      pub text-row : Inside g.row (length s)
      text-row = named-inside c n r b g q (length s) v.at.inside

      pub text_room : g.row.at + 4 * x.items.words ≤ g.row.end
      text_room = named_room c n r b g q

      pub text-size : g.length < 0x100000000
      text-size = let f = named-among c n r b g q in omega (arith, v.at.inside.within, v.small, f.row, f.after, f.to, f.same)

      abbrev cells : List ℕ
      cells = c.at ∷ g.length ∷ (words_of n (left g.row s) ++ replicate free NONE)

      one : text_rows s x.items ≡ cells ∷ map (named_row free) (named_items n g.next.at (left g.next s))
      unfolding next_item named_row name_cells text_rows
      one =
          let f = named-among c n r b g q in
          let l : length (take g.length (left c s)) ≡ g.length = length-take-le g.length (left c s) (omega (arith, left-length s c v.at.inside, f.row, f.after, f.to, f.same)) in
          let z = items-from n c.at (left c s) ∙ ap (next_item (named_items n)) (named-any s c n v.at.inside r e g q) in
          ap (λ (y : List (Name × List ℕ)). map (named_row free) y) z
          ∙ ap (λ (j : ℕ). (c.at ∷ j ∷ (words_of n (left g.row s) ++ replicate free NONE)) ∷ map (named_row free) (named_items n g.next.at (left g.next s))) l

      cells_long : length cells ≡ 2 + n + free
      cells_long =
          let f = named-among c n r b g q in
          let l = length-words-of n (left g.row s) (omega (arith, left-length s g.row text-row, f.after, f.to, f.same, f.row_same)) in
          omega (arith, l, length-append (words_of n (left g.row s)) (replicate free NONE), length-replicate free NONE)

      module _ (j : ℕ) (ej : j ≡ x.items.size) where
        pub text-wide : (row : List ℕ) → 42 ≤ length row → 0 + 2 + x.items.words + j ≤ length row
        text-wide row h = omega (arith, v.at.most)

        pub text-next : (row put : List ℕ) → put ≡ sets row 0 (x.items.rest.at ∷ g.length ∷ (words_of x.items.words (left g.row s) ++ replicate j NONE))
            → (y : Position) → y ≡ record { at = x.at; inner = x.inner; items = record { rest = g.next; words = x.items.words; flags = x.items.flags; sets = x.items.sets; size = x.items.size }; counts = x.counts }
            → TextNexts k s x row put (Some y)
        unfolding text_rows
        text-next row put ep y ey =
            subst (λ (z : Position). TextNexts k s x row put (Some z)) (sym ey)
            (record {
              is = record {
                comes = record { cells = cells; is = one; wide = cells_long ∙ v.at.wide; stores = rw ej at ep };
                position = record { at = record { inside = after-inside c n r b g q (length s) v.at.inside; words = v.at.words; wide = v.at.wide; most = v.at.most }; small = v.small };
              };
            })

pub ruleset text_laws = (text-inside, text-words, text-place, text_none, text-row, text_room, text-size, text-wide, text-next)
