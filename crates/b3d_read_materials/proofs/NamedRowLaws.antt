-- Texts with words, one after the other: what each turn of `fill_named` stores.
use Rattle.std.specs.Prelude.{Some, None}
use Rattle.std.specs.Prelude as std
use Rattle.b3d_chunk_cursor.specs.declared.Named.{Named}
use mathlib.Core.Path.{◌≡◌, refl, ap, ◌∙◌}
use Prim.Native.Nat.{ℕ, ◌+◌, ◌-◌, ◌<◌, ◌≤◌}
use native.Mathlib.Omega.{arith}
use mathlib.Core.List.{List, ◌∷◌, ◌++◌, map}
use lib.ListN.{length, take, replicate, length-append, length-replicate}
use lib.Seq.{sets, length-take-le}
use Rattle.wire.specs.Cursors.{Inside, left}
use Rattle.wire.specs.declared.Cursor.{Cursor}
use Rattle.wire.proofs.LeftLaws.{left-length}
use Rattle.layout.specs.Parts.{Name, words_of}
use Rattle.layout.specs.Rules.{any, NONE}
use Rattle.layout.proofs.StepLaws.{length-words-of}
use Rattle.layout.specs.Rows.{name_cells, joined}
use Rattle.b3d_chunk_cursor.specs.Chunks.{named_at, NamedIn}
use Rattle.b3d_chunk_cursor.proofs.NamedLaws.{named-cut, named-any, named-among, row_inside, after-inside}
use Rattle.b3d_spec_plain_rows.specs.Plain.{next_item, named_items}
use Rattle.b3d_spec_plain_rows.proofs.NamedItemLaws.{items-from}
use Rattle.b3d_chunk_walk.proofs.PutLaws.{Putting, put-start, put_long, put_room, put_more, put_done}
use Rattle.b3d_read_materials.specs.Texts.{named_row}

-- the words of the rows from a cursor on
abbrev pub texts_from : List ℕ → ℕ → ℕ → Cursor → List ℕ
texts_from s n rest c = joined (map (named_row rest) (named_items n c.at (left c s)))

-- of the rows from `from` on what is left stands from c on
pub record TextsLeft (s : List ℕ) (n rest : ℕ) (out₀ : List ℕ) (from : Cursor) (out : List ℕ) (c : Cursor) (base : ℕ) : Type 0 where
  pub inside : Inside c (length s)
  pub puts : Putting out₀ 0 (texts_from s n rest from) out base (texts_from s n rest c)

module _ (s : List ℕ) (n rest : ℕ) (out₀ : List ℕ) (from : Cursor) where
  pub texts_start : Inside from (length s) → TextsLeft s n rest out₀ from out₀ from 0
  texts_start i = record { inside = i; puts = put-start _ refl }

  module _ (out : List ℕ) (c : Cursor) (base : ℕ) (v : TextsLeft s n rest out₀ from out c base) where
    pub texts_inside : Inside c (length s)
    texts_inside = v.inside

    pub texts_long : length out ≡ length out₀
    texts_long = put_long v.puts

    pub texts_place : length s < 0x100000000 → c.at < 0x100000000
    texts_place small = omega (arith, v.inside.before, v.inside.within)

    module _ (r : std.Option Named) (e : r ≡ named_at s c n) where
      pub texts_cut : r ≡ None → out ≡ sets out₀ 0 (texts_from s n rest from)
      unfolding next_item joined
      texts_cut q =
          let z = items-from n c.at (left c s) ∙ ap (next_item (named_items n)) (named-cut s c n v.inside (replicate n any) (length-replicate n any) r e q) in
          put_done v.puts (ap (λ (l : List (Name × List ℕ)). joined (map (named_row rest) l)) z)

      module _ (b : NamedIn c n r) (g : Named) (q : r ≡ Some g) where
        abbrev cells : List ℕ
        cells = c.at ∷ g.length ∷ (words_of n (left g.row s) ++ replicate rest NONE)

        pub text-size : length s < 0x100000000 → g.length < 0x100000000
        text-size small = let f = named-among c n r b g q in omega (arith, v.inside.within, f.row, f.after, f.to, f.same)

        one : texts_from s n rest c ≡ cells ++ texts_from s n rest g.next
        unfolding next_item joined named_row name_cells
        one =
            let f = named-among c n r b g q in
            let l : length (take g.length (left c s)) ≡ g.length = length-take-le g.length (left c s) (omega (arith, left-length s c v.inside, f.row, f.after, f.to, f.same)) in
            let z = items-from n c.at (left c s) ∙ ap (next_item (named_items n)) (named-any s c n v.inside r e g q) in
            ap (λ (y : List (Name × List ℕ)). joined (map (named_row rest) y)) z
            ∙ ap (λ (k : ℕ). (c.at ∷ k ∷ (words_of n (left g.row s) ++ replicate rest NONE)) ++ texts_from s n rest g.next) l

        cells_long : length cells ≡ 2 + n + rest
        cells_long =
            let f = named-among c n r b g q in
            let i = row_inside c n r b g q (length s) v.inside in
            let l = length-words-of n (left g.row s) (omega (arith, left-length s g.row i, f.after, f.to, f.same, f.row_same)) in
            omega (arith, l, length-append (words_of n (left g.row s)) (replicate rest NONE), length-replicate rest NONE)

        pub texts_room : length (texts_from s n rest from) ≤ length out₀ → base + 2 + n + rest ≤ length out
        texts_room h = omega (arith, put_room v.puts (omega arith) cells (texts_from s n rest g.next) one, cells_long)

        pub texts_next : (put : List ℕ) (to : ℕ) → to ≡ base + 2 + n + rest → put ≡ sets out base (c.at ∷ g.length ∷ (words_of n (left g.row s) ++ replicate rest NONE)) → TextsLeft s n rest out₀ from put g.next to
        texts_next put to et ep = record {
          inside = after-inside c n r b g q (length s) v.inside;
          puts = put_more v.puts cells (texts_from s n rest g.next) put to one (omega (arith, et, cells_long)) ep;
        }

pub ruleset texts_laws = (texts_start, texts_inside, texts_long, texts_place, texts_cut, text-size, texts_room, texts_next)
