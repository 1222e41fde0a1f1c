-- The texts of a file: a law for each need.
use Rattle.std.specs.Prelude.{Some, None}
use Rattle.std.specs.Prelude as std
use Rattle.b3d_chunk_walk.specs.declared.Sought.{Sought}
use mathlib.Core.Path.{◌≡◌, refl, ap, sym, ◌∙◌}
use Prim.Native.Nat.{ℕ, ◌+◌, ◌-◌, ◌<◌, ◌≤◌}
use native.Mathlib.Omega.{arith}
use mathlib.Core.List.{List, []}
use lib.ListN.{length}
use Rattle.wire.specs.Test.{if}
use Rattle.wire.specs.Cursors.{Inside}
use Rattle.wire.proofs.LeftLaws.{span, left-nil}
use Rattle.b3d_spec.specs.declared.Tag.TheVariants.{TEXS, BRUS}
use Rattle.b3d_spec.specs.Tables.{width}
use Rattle.b3d_spec_plain_rows.specs.Plain.{named_in, named_items}
use Rattle.b3d_spec_plain_rows.specs.Rows.{texture_rows, brush_rows}
use Rattle.b3d_chunk_walk.specs.Seeks.{FirstWord}
use Rattle.b3d_chunk_walk.specs.declared.Headed.{Headed}
use Rattle.b3d_chunk_walk.proofs.FirstWordLaws.{word-inside}
use Rattle.b3d_read_materials.specs.Texts.{FirstIs}
use Rattle.b3d_read_materials.proofs.MaterialLaws.{file-one, file_two, first-none, no-brushes, rows_are, head-is, texts_are, textures-body, brushes-body, brushes-rest}
use Rattle.b3d_rows_open_items.specs.declared.OpenItems.{OpenItems}
use Rattle.b3d_rows_items.specs.NextText.{text_rows, TextsOpen}

none_rows : (s : List ℕ) (e free : ℕ) → text_rows s (record { rest = span e e; words = 7; flags = 0; sets = 0; size = free }) ≡ []
unfolding text_rows named_items named_in
none_rows s e free = rw (left-nil s (span e e) (omega arith))

module _ (s : List ℕ) (r : std.Option Sought) where
  module _ (x : FirstIs s TEXS r) where
    pub textures-none : r ≡ None → (i : OpenItems) → i ≡ record { rest = span (length s) (length s); words = 7; flags = 0; sets = 0; size = 0 } → TextsOpen 1 s i
    unfolding width if
    textures-none w i e =
        rw e
        (record {
          rows = file-one s [] ∙ first-none s TEXS texture_rows r x w ∙ sym (none_rows s (length s) 0);
          at = record { inside = record { before = omega arith; within = omega arith }; words = omega arith; wide = refl; most = omega arith };
        })

    pub textures-some : (f : Sought) → r ≡ Some f → (i : OpenItems) → i ≡ record { rest = f.body; words = 7; flags = 0; sets = 0; size = 0 } → TextsOpen 1 s i
    unfolding width if text_rows
    textures-some f w i e =
        rw e
        (record {
          rows = rows_are s [] r x f w;
          at = record { inside = textures-body s [] r x f w; words = omega arith; wide = refl; most = omega arith };
        })

  module _ (x : FirstIs s BRUS r) where
    pub brushes-none : r ≡ None → (i : OpenItems) → i ≡ record { rest = span (length s) (length s); words = 7; flags = 0; sets = 0; size = 8 } → TextsOpen 2 s i
    unfolding width if
    brushes-none w i e =
        rw e
        (record {
          rows = file_two s [] ∙ first-none s BRUS brush_rows r x w ∙ sym (none_rows s (length s) 8);
          at = record { inside = record { before = omega arith; within = omega arith }; words = omega arith; wide = refl; most = omega arith };
        })

    module _ (g : Sought) (w : r ≡ Some g) where
      pub brushes-in : Inside g.body (length s)
      brushes-in = brushes-body s [] r x g w

      module _ (h : Headed) (f : FirstWord s g.body h) where
        pub brushes-over : 8 < h.word → (i : OpenItems) → i ≡ record { rest = span (length s) (length s); words = 7; flags = 0; sets = 0; size = 8 } → TextsOpen 2 s i
        unfolding width if
        brushes-over k i e =
            rw e
            (record {
              rows = head-is s [] r x g w h f ∙ no-brushes h.word (g.at + 12) _ k ∙ sym (none_rows s (length s) 8);
              at = record { inside = record { before = omega arith; within = omega arith }; words = omega arith; wide = refl; most = omega arith };
            })

        module _ (k : h.word ≤ 8) (ids : ℕ) (ei : ids ≡ h.word) where
          pub brushes-some : (i : OpenItems) → i ≡ record { rest = h.rest; words = 7 + ids; flags = 0; sets = 0; size = 8 - h.word } → TextsOpen 2 s i
          unfolding width if text_rows
          brushes-some i e =
              let z : 8 - ids ≡ 8 - h.word = ap (λ (j : ℕ). 8 - j) ei in
              rw (e, ← z)
              (record {
                rows = texts_are s [] r x g w h f k ids ei;
                at = record { inside = brushes-rest s [] r x g w h f; words = omega (arith, ei); wide = omega (arith, ei); most = omega (arith, ei) };
              })

pub ruleset open_laws = (word-inside, textures-none, textures-some, brushes-none, brushes-in, brushes-over, brushes-some)
