-- What is put of a brush: what stays up to its ids, then those.
use mathlib.Core.Path.{◌≡◌, refl, sym, ap, ap₂, ◌∙◌}
use Prim.Native.Nat.{ℕ, zero, suc, ◌+◌, ◌-◌, ◌*◌, ◌<◌, ◌≤◌}
use native.Mathlib.Nat.{suc-add}
use native.Mathlib.Omega.{arith}
use mathlib.Core.Bool.{Bool, true, false}
use mathlib.Core.List.{List, [], ◌∷◌, ◌++◌, append_assoc, append-nil}
use lib.ListN.{length, take, drop, replicate, length-append, length-take, length-drop}
use Rattle.wire.specs.Bytes.{bytes, word, AllBytes}
use Rattle.wire.specs.Test.{if}
use Rattle.wire.specs.Cursors.{Inside, left}
use Rattle.wire.specs.declared.Cursor.{Cursor}
use Rattle.wire.proofs.LeftLaws.{span, left-drop, left-length}
use Rattle.layout.specs.Parts.{words_of}
use Rattle.layout.specs.Rules.{Rule, any}
use Rattle.layout.specs.Write.{write_words, write_text}
use Rattle.layout.proofs.StepLaws.{words-add, length-words-of}
use Rattle.shared_output.proofs.PartLaws.{Both}
use Rattle.shared_output.proofs.AppendLaws.{text-zero}
use Rattle.b3d_spec.specs.declared.Mode.TheVariants.{Lenient}
use Rattle.b3d_spec.specs.Rules.{brush_row, brush_ids}
use Rattle.b3d_mend_spec.specs.Edits.{Edit, keep, was, becomes, after}
use Rattle.b3d_mend_spec.specs.Report.{entries, report_bytes}
use Rattle.b3d_mend_spec.specs.Walks.{word_edit, word_edits}
use Rattle.shared_put_or_count.specs.Emits.{RoomFrom, Emits}
use Rattle.b3d_mend_write_spec.specs.Shown.{shown}
use Rattle.shared_put_or_count.proofs.PutLaws.{fits-first, fits-second, emits_both}
use Rattle.b3d_mend_write_spec.proofs.ShowsLaws.{shown-cons}
use Rattle.b3d_mend_write_edits.proofs.SliceLaws.{words_left, left-first}
use Rattle.b3d_mend_write_brushes.specs.Ids.{id_edits}
use Rattle.b3d_mend_write_brushes.specs.Brushes.{BrushAt, brush_edits}

-- ---- what stays, one after the other

kept-join : (report : Bool) (p q r : ℕ) (a b : List ℕ) → shown report p (keep a ∷ []) ++ shown report q (keep b ∷ []) ≡ shown report r (keep (a ++ b) ∷ [])
unfolding shown entries report_bytes after becomes
kept-join true p q r a b = refl
kept-join false p q r a b = ap₂ ◌++◌ (append-nil a) (append-nil b) ∙ sym (append-nil (a ++ b))

kept-none : (report : Bool) (p : ℕ) → shown report p (keep [] ∷ []) ≡ []
unfolding shown entries report_bytes after becomes
kept-none true p = refl
kept-none false p = refl

words-both : (w : ℕ) (ws : List ℕ) → bytes w [] ++ write_words ws [] ≡ write_words (w ∷ ws) []
words-both w ws = refl

any_step : (k v : ℕ) (vs ws : List ℕ) (rs : List Rule) → word_edits (replicate (suc k) any ++ rs) ((v ∷ vs) ++ ws) ≡ keep (bytes v []) ∷ word_edits (replicate k any ++ rs) (vs ++ ws)
unfolding word_edits word_edit if
any_step k v vs ws rs = refl

place : (report : Bool) (p v : ℕ) (l : List Edit) → shown report (p + length (was (keep (bytes v [])))) l ≡ shown report (p + 4) l
unfolding was
place report p v l = refl

any-shown : (report : Bool) (k p : ℕ) (vs ws : List ℕ) (rs : List Rule) → length vs ≡ k
    → shown report p (word_edits (replicate k any ++ rs) (vs ++ ws)) ≡ shown report p (keep (write_words vs []) ∷ []) ++ shown report (p + 4 * k) (word_edits rs ws)
any-shown report zero p [] ws rs l =
    let e : p ≡ p + 4 * 0 = omega arith in
    ap (λ (q : ℕ). shown report q (word_edits rs ws)) e ∙ ap (λ (z : List ℕ). z ++ shown report (p + 4 * 0) (word_edits rs ws)) (sym (kept-none report p))
any-shown report zero p (v ∷ vs) ws rs l = absurd (omega arith)
any-shown report (suc k) p [] ws rs l = absurd (omega arith)
any-shown report (suc k) p (v ∷ vs) ws rs l =
    let e : p + 4 + 4 * k ≡ p + 4 * suc k = omega arith in
    ap (shown report p) (any_step k v vs ws rs)
    ∙ (shown-cons report p (keep (bytes v [])) (word_edits (replicate k any ++ rs) (vs ++ ws))).is
    ∙ ap (λ (z : List ℕ). shown report p (keep (bytes v []) ∷ []) ++ z) (place report p v (word_edits (replicate k any ++ rs) (vs ++ ws)) ∙ any-shown report k (p + 4) vs ws rs (omega arith))
    ∙ sym (append_assoc (shown report p (keep (bytes v []) ∷ [])) (shown report (p + 4) (keep (write_words vs []) ∷ [])) (shown report (p + 4 + 4 * k) (word_edits rs ws)))
    ∙ ap₂ (λ (z : List ℕ) (q : ℕ). z ++ shown report q (word_edits rs ws)) (kept-join report p (p + 4) p (bytes v []) (write_words vs [])) e

-- words of the first bytes
words_take : (n : ℕ) (l : List ℕ) → 4 * n ≤ length l → words_of n (take (4 * n) l) ≡ words_of n l
words_take zero l h = refl
words_take (suc n) [] h = absurd (omega arith)
words_take (suc n) (a ∷ []) h = absurd (omega arith)
words_take (suc n) (a ∷ b ∷ []) h = absurd (omega arith)
words_take (suc n) (a ∷ b ∷ c ∷ []) h = absurd (omega arith)
words_take (suc n) (a ∷ b ∷ c ∷ d ∷ l) h =
    let e : 4 * suc n ≡ suc (suc (suc (suc (4 * n)))) = omega arith in
    ap (λ (k : ℕ). words_of (suc n) (take k (a ∷ b ∷ c ∷ d ∷ l))) e ∙ ap (λ (z : List ℕ). word a b c d ∷ z) (words_take n l (omega arith))

-- ---- a brush

pub take-over : (a r : List ℕ) (k : ℕ) → take (length a + k) (a ++ r) ≡ a ++ take k r
take-over [] r k = ap (λ (n : ℕ). take n r) (let e : 0 + k ≡ k = omega arith in e)
take-over (x ∷ a) r k = ap (λ (n : ℕ). take n (x ∷ (a ++ r))) (suc-add (length a) k) ∙ ap (λ (l : List ℕ). x ∷ l) (take-over a r k)

module _ (s : List ℕ) (c row : Cursor) (slots textures : ℕ) (b : BrushAt s c row slots) (h : AllBytes s) (report wet : Bool) (xs : List ℕ) (at : ℕ) where
  abbrev name : List ℕ
  name = take (row.at - (c.at + 1)) (left c s)

  row_inside : Inside row (length s)
  row_inside = record { before = omega (arith, b.room); within = omega (arith, b.inside.within, b.same) }

  -- the bytes up to the ids
  front : write_text name [] ++ write_words (words_of 7 (left row s)) [] ≡ take (row.at + 28 - c.at) (drop c.at s)
  front =
      let n : row.at + 28 - c.at ≡ row.at - (c.at + 1) + 1 + 28 = omega (arith, b.before) in
      ap₂ ◌++◌ (text-zero name) (words_left s row 7 h row_inside (omega (arith, b.room)) ∙ sym (left-first s row 28 row_inside (omega (arith, b.room))))
      ∙ sym (join name (left row s) 28 (omega (arith, left-length s row row_inside, b.room)))
      ∙ ap (take (length (name ++ (0 ∷ [])) + 28)) (sym (b.text ∙ sym (append_assoc name (0 ∷ []) (left row s))))
      ∙ ap (λ (k : ℕ). take k (left c s)) (let l = length-append name (0 ∷ []) in let q : length (name ++ (0 ∷ [])) + 28 ≡ row.at + 28 - c.at = omega (arith, b.long, b.before) in q)
      ∙ left-first s c (row.at + 28 - c.at) b.inside (omega (arith, b.room, b.same, b.before))
    where
      join : (a r : List ℕ) (k : ℕ) → k ≤ length r → take (length (a ++ (0 ∷ [])) + k) ((a ++ (0 ∷ [])) ++ r) ≡ (a ++ (0 ∷ [])) ++ take k r
      join a r k le = take-over (a ++ (0 ∷ [])) r k

  size : length (take (row.at + 28 - c.at) (drop c.at s)) ≡ row.at + 28 - c.at
  size = simp (length-take, length-drop) (omega (arith, b.inside.within, b.room, b.same, b.before))

  ids_are : words_of slots (drop (4 * 7) (left row s)) ≡ words_of slots (drop (row.at + 28) s)
  ids_are =
      let d = span (row.at + 28) row.end in
      let i : Inside d (length s) = record { before = omega (arith, b.room); within = row_inside.within } in
      let r : d.at + 4 * slots ≤ d.end = omega (arith, b.room) in
      ap (words_of slots) (sym (left-drop s row 28 d refl refl))
      ∙ sym (words_take slots (left d s) (omega (arith, left-length s d i)))
      ∙ ap (words_of slots) (left-first s d (4 * slots) i r)
      ∙ words_take slots (drop (row.at + 28) s) (omega (arith, length-drop (row.at + 28) s, b.room, row_inside.within))

  text_long : length (write_text name []) ≡ row.at - c.at
  text_long = ap length (text-zero name) ∙ simp length-append (omega (arith, b.long, b.before))

  two : Both (shown report c.at (brush_edits slots textures c row s)) (shown report c.at (keep (take (row.at + 28 - c.at) (drop c.at s)) ∷ [])) (shown report (row.at + 28) (id_edits textures slots (row.at + 28) s))
  unfolding brush_edits id_edits was
  two =
      let q : c.at + length (write_text name []) + 4 * 7 ≡ row.at + 28 = omega (arith, text_long, b.before) in
      record {
        is =
            (shown-cons report c.at (keep (write_text name [])) (word_edits (brush_row Lenient ++ brush_ids slots textures) (words_of (7 + slots) (left row s)))).is
            ∙ ap (λ (z : List ℕ). shown report c.at (keep (write_text name []) ∷ []) ++ shown report (c.at + length (write_text name [])) (word_edits (brush_row Lenient ++ brush_ids slots textures) z))
            (words-add 7 slots (left row s) (omega (arith, left-length s row row_inside, b.room)))
            ∙ ap (λ (z : List ℕ). shown report c.at (keep (write_text name []) ∷ []) ++ z)
            (any-shown report 7 (c.at + length (write_text name [])) (words_of 7 (left row s)) (words_of slots (drop (4 * 7) (left row s))) (brush_ids slots textures) (length-words-of 7 (left row s) (omega (arith, left-length s row row_inside, b.room))))
            ∙ sym (append_assoc (shown report c.at (keep (write_text name []) ∷ [])) _ _)
            ∙ ap₂ ◌++◌
            (kept-join report c.at (c.at + length (write_text name [])) c.at (write_text name []) (write_words (words_of 7 (left row s)) []) ∙ ap (λ (z : List ℕ). shown report c.at (keep z ∷ [])) front)
            (ap₂ (λ (n : ℕ) (z : List ℕ). shown report n (word_edits (brush_ids slots textures) z)) q ids_are);
      }

  pub brush-front : c.at + (row.at + 28 - c.at) ≤ length s
  brush-front = omega (arith, b.inside.within, b.room, b.same, b.before)

  pub brush-ids : row.at + 28 + 4 * slots ≤ length s
  brush-ids = omega (arith, row_inside.within, b.room)

  module _ (f : RoomFrom wet (shown report c.at (brush_edits slots textures c row s)) at xs) where
    pub brush-first : RoomFrom wet (shown report c.at (keep (take (row.at + 28 - c.at) (drop c.at s)) ∷ [])) at xs
    brush-first = fits-first two wet xs at f

    module _ (ys : List ℕ) (m : ℕ) (e : Emits wet (shown report c.at (keep (take (row.at + 28 - c.at) (drop c.at s)) ∷ [])) xs at ys m) where
      pub brush-second : RoomFrom wet (shown report (row.at + 28) (id_edits textures slots (row.at + 28) s)) m ys
      brush-second = fits-second two wet xs at ys m e f

      pub brush-done : (zs : List ℕ) (n : ℕ) → Emits wet (shown report (row.at + 28) (id_edits textures slots (row.at + 28) s)) ys m zs n → Emits wet (shown report c.at (brush_edits slots textures c row s)) xs at zs n
      brush-done zs n g = emits_both two wet xs at ys m e zs n g

-- the ids are behind the name
pub brush-small : (s : List ℕ) (c row : Cursor) (slots : ℕ) → BrushAt s c row slots → length s < 4294967296 → row.at + 28 < 18446744073709551616
brush-small s c row slots b h = omega (arith, b.room, b.same, b.inside.within)

pub brush-behind : (s : List ℕ) (c row : Cursor) (slots : ℕ) → BrushAt s c row slots → c.at ≤ row.at + 28
brush-behind s c row slots b = omega (arith, b.before)

pub ruleset brush_laws = (brush-front, brush-ids, brush-first, brush-second, brush-done, brush-small, brush-behind)
