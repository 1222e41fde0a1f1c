-- What is put of a TRIS and of a BONE.
use mathlib.Core.Path.{◌≡◌, refl, sym, ap, ap₂, ◌∙◌}
use Prim.Native.Nat.{ℕ, ◌+◌, ◌-◌, ◌<◌, ◌≤◌}
use native.Mathlib.Omega.{arith}
use mathlib.Core.Bool.{Bool, true, false}
use mathlib.Core.List.{List, [], ◌∷◌, ◌++◌}
use lib.ListN.{length, drop}
use Rattle.wire.specs.Bytes.{bytes, word_at}
use Rattle.wire.specs.Test.{if}
use Rattle.wire.specs.Cursors.{Inside, left}
use Rattle.wire.specs.declared.Cursor.{Cursor}
use Rattle.wire.proofs.LeftLaws.{span, left-length, left-four, left-drop}
use Rattle.layout.specs.Parts.{words_of}
use Rattle.layout.specs.Rules.{Rule, names_or_none, NONE, holds}
use Rattle.shared_output.proofs.PartLaws.{Both}
use Rattle.shared_ids.specs.Ids.{id_row}
use Rattle.b3d_mend_spec.specs.Edits.{keep, mend, was}
use Rattle.b3d_mend_spec.specs.Walks.{word_edit, word_edits, item_edits, tris_edits, bone_edits}
use Rattle.b3d_mend_spec.proofs.WalkLaws.{edits-none}
use Rattle.shared_put_or_count.specs.Emits.{RoomFrom, Emits}
use Rattle.b3d_mend_write_spec.specs.Shown.{shown}
use Rattle.shared_put_or_count.proofs.PutLaws.{emits_none, fits-first, fits-second, emits_both}
use Rattle.b3d_mend_write_spec.proofs.ShowsLaws.{shown-none, shown-cons}

-- ---- BONE

module _ (s : List ℕ) (c : Cursor) (vertices : ℕ) (report wet : Bool) (xs : List ℕ) (at : ℕ) where
  pub bone-fits : RoomFrom wet (shown report c.at (bone_edits vertices (left c s))) at xs → RoomFrom wet (shown report c.at (item_edits (id_row 1 1 vertices) (left c s))) at xs
  unfolding bone_edits
  bone-fits f = f

  pub bone-done : (ys : List ℕ) (n : ℕ) → Emits wet (shown report c.at (item_edits (id_row 1 1 vertices) (left c s))) xs at ys n → Emits wet (shown report c.at (bone_edits vertices (left c s))) xs at ys n
  unfolding bone_edits
  bone-done ys n e = e

pub ruleset bone_laws = (bone-fits, bone-done)

-- ---- TRIS

tris_short : (brushes vertices : ℕ) (l : List ℕ) → length l < 4 → tris_edits brushes vertices l ≡ []
unfolding tris_edits word_edits
tris_short brushes vertices [] h = edits-none _
tris_short brushes vertices (a ∷ []) h = edits-none _
tris_short brushes vertices (a ∷ b ∷ []) h = edits-none _
tris_short brushes vertices (a ∷ b ∷ c ∷ []) h = edits-none _
tris_short brushes vertices (a ∷ b ∷ c ∷ d ∷ l) h = absurd (omega arith)

pub word-was : (r : Rule) (w : ℕ) → length (was (word_edit r w)) ≡ 4
unfolding word_edit was if
word-was r w = go (holds r w)
  where
    go : (b : Bool) → length (was (if b (keep (bytes w [])) (mend 2 (bytes w []) (bytes NONE [])))) ≡ 4
    go true = refl
    go false = refl

module _ (s : List ℕ) (c : Cursor) (i : Inside c (length s)) (brushes vertices : ℕ) (report wet : Bool) (xs : List ℕ) (at : ℕ) where
  abbrev All : List ℕ
  All = shown report c.at (tris_edits brushes vertices (left c s))

  pub tris_cut : c.end - c.at < 4 → Emits wet All xs at xs at
  tris_cut h = emits_none wet All xs at (ap (shown report c.at) (tris_short brushes vertices (left c s) (omega (arith, left-length s c i))) ∙ shown-none report c.at)

  module _ (h : 4 ≤ c.end - c.at) where
    four : words_of 1 (left c s) ≡ word_at s c.at ∷ []
    unfolding word_at
    four = rw (left-four s c (span (c.at + 4) c.end) i (omega arith) refl refl)

    opened : tris_edits brushes vertices (left c s) ≡ word_edit (names_or_none brushes) (word_at s c.at) ∷ item_edits (id_row 3 0 vertices) (left (span (c.at + 4) c.end) s)
    unfolding tris_edits word_edits
    opened =
        ap₂ (λ (ws l : List ℕ). word_edits (names_or_none brushes ∷ []) ws ++ item_edits (id_row 3 0 vertices) l) four (sym (left-drop s c 4 (span (c.at + 4) c.end) refl refl))

    two : Both All (shown report c.at (word_edit (names_or_none brushes) (word_at s c.at) ∷ [])) (shown report (c.at + 4) (item_edits (id_row 3 0 vertices) (left (span (c.at + 4) c.end) s)))
    two = record {
      is =
          ap (shown report c.at) opened
          ∙ (shown-cons report c.at (word_edit (names_or_none brushes) (word_at s c.at)) (item_edits (id_row 3 0 vertices) (left (span (c.at + 4) c.end) s))).is
          ∙ ap (λ (n : ℕ). shown report c.at (word_edit (names_or_none brushes) (word_at s c.at) ∷ []) ++ shown report (c.at + n) (item_edits (id_row 3 0 vertices) (left (span (c.at + 4) c.end) s))) (word-was (names_or_none brushes) (word_at s c.at));
    }

    pub tris_inside : Inside (span (c.at + 4) c.end) (length s)
    tris_inside = record { before = omega arith; within = i.within }

    module _ (f : RoomFrom wet All at xs) where
      pub tris_first : RoomFrom wet (shown report c.at (word_edit (names_or_none brushes) (word_at s c.at) ∷ [])) at xs
      tris_first = fits-first two wet xs at f

      module _ (ys : List ℕ) (m : ℕ) (e : Emits wet (shown report c.at (word_edit (names_or_none brushes) (word_at s c.at) ∷ [])) xs at ys m) where
        pub tris_second : RoomFrom wet (shown report (c.at + 4) (item_edits (id_row 3 0 vertices) (left (span (c.at + 4) c.end) s))) m ys
        tris_second = fits-second two wet xs at ys m e f

        pub tris_done : (zs : List ℕ) (n : ℕ) → Emits wet (shown report (c.at + 4) (item_edits (id_row 3 0 vertices) (left (span (c.at + 4) c.end) s))) ys m zs n → Emits wet All xs at zs n
        tris_done zs n g = emits_both two wet xs at ys m e zs n g

pub ruleset tris_laws = (tris_cut, tris_inside, tris_first, tris_second, tris_done)
