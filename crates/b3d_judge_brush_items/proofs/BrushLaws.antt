-- The brushes of a BRUS: what the loop of `brush_items` has counted.
use Rattle.layout.specs.Refused.{refusal_at}
use Rattle.std.specs.Prelude.{Ok, Err, Some, None}
use Rattle.std.specs.Prelude as std
use Rattle.layout.specs.declared.Refusal.{Refusal}
use Rattle.b3d_chunk_cursor.specs.declared.Named.{Named}
use Prim.Native.Nat.{ℕ, ◌≤◌, ◌<◌, ◌+◌, ◌-◌, ◌*◌}
use native.Mathlib.Omega.{arith}
use mathlib.Core.Path.{◌≡◌, refl, sym, ap, subst, ◌∙◌}
use mathlib.Core.List.{List, ◌++◌}
use lib.ListN.{length, drop, replicate, length-replicate}
use mir.Val.{Fits}
use mir.Syntax.{w64}
use Rattle.wire.specs.Cursors.{Inside, left}
use Rattle.wire.specs.declared.Cursor.{Cursor}
use Rattle.wire.proofs.LeftLaws.{span, left-length, left-drop}
use Rattle.layout.specs.Result.{Result, accept, reject}
use Rattle.layout.specs.Parts.{words_of, judged, items}
use Rattle.layout.specs.Rules.{Rule, any, unit}
use Rattle.layout.proofs.StepLaws.{length-words-of, words-add}
use Rattle.b3d_spec.specs.declared.Mode.{Mode}
use Rattle.b3d_spec.specs.declared.Mode.TheVariants.{Strict, Lenient}
use Rattle.b3d_spec.specs.Scene.{Brush}
use Rattle.b3d_spec.specs.Rules.{slots, brush_row, texture_id, brush_ids}
use Rattle.b3d_spec.specs.Parse.{read_brush, brush_of}
use Rattle.b3d_chunk_cursor.specs.Chunks.{named_at, NamedIn}
use Rattle.shared_ids.specs.Ids.{first_bad}
use Rattle.b3d_chunk_cursor.proofs.NamedLaws.{named-among}
use Rattle.shared_ids.proofs.IdLaws.{ids-pass, ids-stop, after-good, after-bad}
use Rattle.b3d_judge_brush_items.specs.Brushes.{counted_brushes, brush_colours}
use Rattle.b3d_judge_brush_items.proofs.CountLaws.{counted_from, Counting, count_none, count_done, count_cut, count_bad, count_one}

-- so many brushes have been passed, each the zero of a text, seven words and its slots at least
abbrev pub Brushes : Mode → ℕ → ℕ → List ℕ → Cursor → Cursor → ℕ → Type 0
Brushes mode slots textures s from c count = Counting (read_brush mode slots textures) (29 + 4 * slots) s from c count

from-none : (o : Result (List Brush)) (x : std.Result ℕ Refusal) → counted_from 0 o ≡ x → x ≡ counted_brushes o
from-none (accept l) x e = let z : 0 + length l ≡ length l = omega arith in sym e ∙ ap Ok z
from-none (reject n p) x e = sym e

brush-long : (mode : Mode) (n t : ℕ) → length (brush_row mode ++ brush_ids n t) ≡ 7 + n
brush-long Strict n t = simp length-replicate (omega arith)
brush-long Lenient n t = simp length-replicate (omega arith)

-- a brush's rules: the colours that the mode looks at, and others
brush-rules : (mode : Mode) (n t k : ℕ) → k ≡ brush_colours mode → (brush_row mode ++ brush_ids n t ≡ replicate k unit ++ (replicate (7 - k) any ++ brush_ids n t)) × (k ≤ 4)
brush-rules Strict n t k e = (subst (λ (j : ℕ). brush_row Strict ++ brush_ids n t ≡ replicate j unit ++ (replicate (7 - j) any ++ brush_ids n t)) (sym e) refl, omega arith)
brush-rules Lenient n t k e = (subst (λ (j : ℕ). brush_row Lenient ++ brush_ids n t ≡ replicate j unit ++ (replicate (7 - j) any ++ brush_ids n t)) (sym e) refl, omega arith)

module _ (mode : Mode) (slots textures : ℕ) (s : List ℕ) (from : Cursor) where
  abbrev rules : List Rule
  rules = brush_row mode ++ brush_ids slots textures

  abbrev all : Result (List Brush)
  all = items (read_brush mode slots textures) from.at (left from s)

  long : length rules ≡ 7 + slots
  long = brush-long mode slots textures

  pub brushes-none : Inside from (length s) → Brushes mode slots textures s from from 0
  brushes-none i = count_none (read_brush mode slots textures) (29 + 4 * slots) s from i

  module _ (c : Cursor) (count : ℕ) (k₀ : Brushes mode slots textures s from c count) where
    pub brushes_done : c.end ≤ c.at → Ok count ≡ counted_brushes all
    unfolding read_brush
    brushes_done h = from-none all _ (count_done brush_of rules k₀ h)

    pub brushes-room : count * (29 + 4 * slots) ≤ from.end - from.at
    brushes-room = omega arith

    module _ (h : c.at < c.end) (r : std.Option Named) (e : r ≡ named_at s c (7 + slots)) where
      pub brushes_cut : r ≡ None → Err (refusal_at 5 c.at) ≡ counted_brushes all
      unfolding read_brush
      brushes_cut q = from-none all _ (count_cut brush_of rules k₀ h long e q)

      module _ (u : Named) (q : r ≡ Some u) (b : NamedIn c (7 + slots) r) where
        abbrev ids : Cursor
        ids = record { at = u.row.at + 28; end = u.row.end }

        pub ids-room : ids.at + 4 * slots ≤ ids.end
        ids-room = let f = named-among c (7 + slots) r b u q in omega arith

        pub ids_inside : Inside ids (length s)
        ids_inside = let f = named-among c (7 + slots) r b u q in omega arith

        pub ids-fit : Fits w64 u.row.end → Fits w64 ids.at
        ids-fit z = omega (arith, ids-room)

        pub id-fits : (g : ℕ) → g < slots → Fits w64 u.row.end → Fits w64 (ids.at + 4 * g)
        id-fits g z y = omega (arith, ids-room)

        pub id-before : (g : ℕ) → g < slots → ids.at + 4 * g ≤ from.end
        id-before g z = let f = named-among c (7 + slots) r b u q in omega arith

        pub row_inside : Inside u.row (length s)
        row_inside = omega (arith, ids_inside)

        module _ (k : ℕ) (ek : k ≡ brush_colours mode) where
          few : k ≤ 4
          few = (brush-rules mode slots textures k ek).1

          pub colours-few : k ≤ 64
          colours-few = omega (arith, few)

          pub colours-room : u.row.at + 4 * k ≤ u.row.end
          colours-room = omega (arith, few, ids-room)

          pub colour-fits : (d : ℕ) → d < k → Fits w64 u.row.end → Fits w64 (u.row.at + 4 * d)
          colour-fits d z y = omega (arith, colours-room)

          pub colour-before : (d : ℕ) → d < k → u.row.at + 4 * d ≤ from.end
          colour-before d z = let f = named-among c (7 + slots) r b u q in omega (arith, few)

          -- what is left of the row after its colours
          abbrev past : Cursor
          past = span (u.row.at + 4 * k) u.row.end

          in_two : {A : Type 0} (a : A) → judged rules u.row.at (words_of (7 + slots) (left u.row s)) a
              ≡ judged (replicate k unit ++ (replicate (7 - k) any ++ brush_ids slots textures)) u.row.at (words_of k (left u.row s) ++ words_of (7 - k + slots) (left past s)) a
          in_two a =
              let e : 7 + slots ≡ k + (7 - k + slots) = omega (arith, few) in
              let room : 4 * k ≤ length (left u.row s) = omega (arith, left-length s u.row row_inside, colours-room) in
              rw (e, words-add k (7 - k + slots) (left u.row s) room, left-drop s u.row (4 * k) past refl refl)
              (ap (λ (rs : List Rule). judged rs u.row.at (words_of k (left u.row s) ++ words_of (7 - k + slots) (drop (4 * k) (left u.row s))) a) (brush-rules mode slots textures k ek).0)

          long-colours : length (words_of k (left u.row s)) ≡ k
          long-colours = length-words-of k (left u.row s) (omega (arith, left-length s u.row row_inside, colours-room))

          module _ (d : ℕ) (ed : d ≡ first_bad unit (words_of k (left u.row s))) where
            pub brushes-colour : d < k → Err (refusal_at 6 (u.row.at + 4 * d)) ≡ counted_brushes all
            unfolding read_brush
            brushes-colour z =
                from-none all _ (count_bad brush_of rules k₀ h long e q (λ a. rw ed (in_two a
                ∙ ids-stop unit k u.row.at (words_of k (left u.row s)) (words_of (7 - k + slots) (left past s)) _ a long-colours (omega arith))))

            module _ (kd : k ≤ d) (dk : d ≤ k) (g : ℕ) (f : g ≡ first_bad (texture_id textures) (words_of slots (left ids s))) where
              passed : {A : Type 0} (a : A) → judged rules u.row.at (words_of (7 + slots) (left u.row s)) a ≡ judged (replicate (7 - k) any ++ brush_ids slots textures) (u.row.at + 4 * k) (words_of (7 - k + slots) (left past s)) a
              passed a = in_two a ∙ ids-pass unit k u.row.at (words_of k (left u.row s)) (words_of (7 - k + slots) (left past s)) _ a long-colours (omega arith)

              past-inside : Inside past (length s)
              past-inside = omega (arith, row_inside, colours-room)

              past_room : past.at + 4 * (7 - k + slots) ≤ past.end
              past_room = omega (arith, few, ids-room)

              past_to : ids.at ≡ past.at + 4 * (7 - k)
              past_to = omega (arith, few)

              pub brushes-bad : g < slots → Err (refusal_at 7 (ids.at + 4 * g)) ≡ counted_brushes all
              unfolding read_brush
              brushes-bad z =
                  from-none all _ (count_bad brush_of rules k₀ h long e q (λ a. passed a ∙ after-bad s past ids (texture_id textures) (7 - k) slots a past-inside past_room past_to refl g f z))

              pub brushes-one : slots ≤ g → g ≤ slots → Brushes mode slots textures s from u.next (count + 1)
              unfolding read_brush
              brushes-one y z =
                  count_one brush_of rules k₀ h long e q b (omega arith) (λ a. passed a ∙ after-good s past ids (texture_id textures) (7 - k) slots a past-inside past_room past_to refl g f y z)

pub ruleset brushes =
    (brushes-none, brushes_done, brushes-room, brushes_cut, ids-room, ids_inside, ids-fit, id-fits, id-before, row_inside, colours-few, colours-room, colour-fits, colour-before, brushes-colour, brushes-bad, brushes-one)
