-- What is put of a file: three numbers, then its chunks.
use mathlib.Core.Path.{◌≡◌, refl, sym, ap, ap₂, ◌∙◌}
use Prim.Native.Nat.{ℕ, ◌+◌, ◌-◌, ◌<◌, ◌≤◌}
use native.Mathlib.Omega.{arith}
use mathlib.Core.Bool.{Bool, true, false}
use mathlib.Core.List.{List, [], ◌∷◌, ◌++◌}
use lib.ListN.{length, take, drop, length-drop}
use lib.Dec.{eqb}
use borrow.Author.Tests.{eq-eqb, ne_eqb}
use Rattle.wire.specs.Bytes.{bytes, word_at, AllBytes}
use Rattle.wire.specs.Test.{if}
use Rattle.wire.specs.Cursors.{Inside}
use Rattle.wire.proofs.LeftLaws.{span, left-four}
use Rattle.layout.specs.Parts.{words_of}
use Rattle.layout.specs.Rows.{most_bytes}
use Rattle.shared_output.proofs.PartLaws.{Both}
use Rattle.b3d_spec.specs.Tags.{code}
use Rattle.b3d_spec.specs.declared.Tag.TheVariants.{BB3D}
use Rattle.b3d_mend_spec.specs.Edits.{Edit, keep, follow, mend, file_length, becomes, after}
use Rattle.b3d_mend_spec.specs.Report.{entries, report_bytes}
use Rattle.shared_put_or_count.specs.Emits.{RoomFrom, Emits}
use Rattle.b3d_mend_write_spec.specs.Shown.{shown}
use Rattle.shared_put_or_count.proofs.PutLaws.{emits_none, fits-first, fits-second, emits_both, fits-same, emits_same}
use Rattle.b3d_mend_write_edits.proofs.SliceLaws.{left-all, word_slice}
use Rattle.b3d_mend_write_scopes.specs.Shown.{walk_inside, walk_chunk, file_scope, walk_body, walk_file}
use Rattle.b3d_mend_write_leaves.specs.Answers.{Walks}
use Rattle.b3d_mend_write_leaves.specs.declared.Walk.{Walk}
use Rattle.b3d_mend_write_scopes.specs.Opens.{walk_from}
use Rattle.b3d_mend_write_file.specs.Starts.{start_shown}

-- ---- three numbers

module _ (a b c : ℕ) (wet : Bool) (xs : List ℕ) (at : ℕ) (f : RoomFrom wet (bytes a (bytes b (bytes c []))) at xs) where
  first : Both (bytes a (bytes b (bytes c []))) (bytes a []) (bytes b (bytes c []))
  first = record { is = refl }

  second : Both (bytes b (bytes c [])) (bytes b []) (bytes c [])
  second = record { is = refl }

  pub three_a : RoomFrom wet (bytes a []) at xs
  three_a = fits-first first wet xs at f

  module _ (ys : List ℕ) (m : ℕ) (e : Emits wet (bytes a []) xs at ys m) where
    behind : RoomFrom wet (bytes b (bytes c [])) m ys
    behind = fits-second first wet xs at ys m e f

    pub three_b : RoomFrom wet (bytes b []) m ys
    three_b = fits-first second wet ys m behind

    module _ (zs : List ℕ) (n : ℕ) (g : Emits wet (bytes b []) ys m zs n) where
      pub three_c : RoomFrom wet (bytes c []) n zs
      three_c = fits-second second wet ys m zs n g behind

      pub three-done : (us : List ℕ) (o : ℕ) → Emits wet (bytes c []) zs n us o → Emits wet (bytes a (bytes b (bytes c []))) xs at us o
      three-done us o h = emits_both first wet xs at ys m e us o (emits_both second wet ys m zs n g us o h)

pub ruleset three_laws = (three_a, three_b, three_c, three-done)

-- ---- the start

numbers : (s : List ℕ) → 12 ≤ length s → words_of 3 s ≡ word_at s 0 ∷ word_at s 4 ∷ word_at s 8 ∷ []
unfolding word_at
numbers s h =
    ap (words_of 3) (sym (left-all s 0))
    ∙ rw (
      left-four s (span 0 (length s)) (span 4 (length s)) (record { before = omega arith; within = omega arith }) (omega arith) refl refl,
      left-four s (span 4 (length s)) (span 8 (length s)) (record { before = omega arith; within = omega arith }) (omega arith) refl refl,
      left-four s (span 8 (length s)) (span 12 (length s)) (record { before = omega arith; within = omega arith }) (omega arith) refl refl,
    )

abbrev start : ℕ → ℕ → ℕ → ℕ → List Edit
start said is new version = keep (bytes (code BB3D) []) ∷ file_length said is new ∷ keep (bytes version []) ∷ []

in-file : (said is new version : ℕ) → shown false 0 (start said is new version) ≡ bytes (code BB3D) (bytes new (bytes version []))
unfolding shown after becomes file_length if
in-file said is new version = go (eqb said is)
  where
    go : (b : Bool) → after (keep (bytes (code BB3D) []) ∷ if b (follow is new) (mend 1 (bytes said []) (bytes new [])) ∷ keep (bytes version []) ∷ []) ≡ bytes (code BB3D) (bytes new (bytes version []))
    go true = refl
    go false = refl

told-right : (is new version : ℕ) → shown true 0 (start is is new version) ≡ []
unfolding shown entries report_bytes file_length if
told-right is new version = rw (eq-eqb is is refl)

told_wrong : (said is new version : ℕ) → (said ≡ is → ⊥) → shown true 0 (start said is new version) ≡ shown true 4 (mend 1 (bytes said []) (bytes new []) ∷ [])
unfolding shown entries report_bytes file_length if
told_wrong said is new version h = rw (ne_eqb said is h)

module _ (s : List ℕ) (size : ℕ) (lo : 12 ≤ length s) (hi : length s ≤ most_bytes) (all : AllBytes s) (report wet : Bool) (xs : List ℕ) (at : ℕ) where
  pub start-four : 4 + 4 ≤ length s
  start-four = omega arith

  pub start-eight : 8 + 4 ≤ length s
  start-eight = omega arith

  pub start-behind : 8 ≤ length s
  start-behind = omega arith

  pub start_small : length s < 4294967296
  start_small = omega arith

  is-start : start_shown report size s ≡ shown report 0 (start (word_at s 4) (length s - 8) (size + 4) (word_at s 8))
  unfolding start_shown
  is-start =
      let n : 4 + size ≡ size + 4 = omega arith in
      rw (numbers s lo, length-drop 8 s, n)

  module _ (e : report ≡ true) where
    pub start_right : (v : ℕ) → v ≡ word_at s 4 → (u : ℕ) → u ≡ v → u ≡ length s - 8 → Emits wet (start_shown report size s) xs at xs at
    start_right v ev u eu q =
        emits_none wet (start_shown report size s) xs at
        (is-start
        ∙ ap₂ (λ (b : Bool) (w : ℕ). shown b 0 (start w (length s - 8) (size + 4) (word_at s 8))) e (sym ev ∙ sym eu ∙ q)
        ∙ told-right (length s - 8) (size + 4) (word_at s 8))

    module _ (v : ℕ) (ev : v ≡ word_at s 4) (u : ℕ) (eu : u ≡ v) (q : u ≡ length s - 8 → ⊥) where
      wrong : start_shown report size s ≡ shown report 4 (mend 1 (take 4 (drop 4 s)) (bytes (size + 4) []) ∷ [])
      wrong =
          is-start ∙ ap (λ (b : Bool). shown b 0 (start (word_at s 4) (length s - 8) (size + 4) (word_at s 8))) e
          ∙ told_wrong (word_at s 4) (length s - 8) (size + 4) (word_at s 8) (λ z. q (eu ∙ ev ∙ z))
          ∙ ap₂ (λ (b : Bool) (l : List ℕ). shown b 4 (mend 1 l (bytes (size + 4) []) ∷ [])) (sym e) (word_slice s 4 all start-four)

      pub start_wrong_fits : RoomFrom wet (start_shown report size s) at xs → RoomFrom wet (shown report 4 (mend 1 (take 4 (drop 4 s)) (bytes (size + 4) []) ∷ [])) at xs
      start_wrong_fits f = fits-same wrong wet xs at f

      pub start_wrong : (ys : List ℕ) (n : ℕ) → Emits wet (shown report 4 (mend 1 (take 4 (drop 4 s)) (bytes (size + 4) []) ∷ [])) xs at ys n → Emits wet (start_shown report size s) xs at ys n
      start_wrong ys n g = emits_same wrong wet xs at ys n g

  module _ (e : report ≡ false) (v : ℕ) (ev : v ≡ word_at s 8) where
    in_bytes : start_shown report size s ≡ bytes (code BB3D) (bytes (size + 4) (bytes v []))
    in_bytes =
        is-start ∙ ap (λ (b : Bool). shown b 0 (start (word_at s 4) (length s - 8) (size + 4) (word_at s 8))) e
        ∙ in-file (word_at s 4) (length s - 8) (size + 4) (word_at s 8)
        ∙ ap (λ (w : ℕ). bytes (code BB3D) (bytes (size + 4) (bytes w []))) (sym ev)

    pub start-file-fits : RoomFrom wet (start_shown report size s) at xs → RoomFrom wet (bytes (code BB3D) (bytes (size + 4) (bytes v []))) at xs
    start-file-fits f = fits-same in_bytes wet xs at f

    pub start-file : (ys : List ℕ) (n : ℕ) → Emits wet (bytes (code BB3D) (bytes (size + 4) (bytes v []))) xs at ys n → Emits wet (start_shown report size s) xs at ys n
    start-file ys n g = emits_same in_bytes wet xs at ys n g

pub start-long : (size : ℕ) → size + 4 < 4294967296 → size + 4 < 18446744073709551616
start-long size h = omega arith

pub ruleset start_laws = (start-four, start-eight, start-behind, start_small, start_right, start_wrong_fits, start_wrong, start-file-fits, start-file, start-long)

-- ---- the file

pub file-inside : (s : List ℕ) → 12 ≤ length s → Inside (span 12 (length s)) (length s)
file-inside s h = record { before = h; within = omega arith }

module _ (s : List ℕ) (size : ℕ) (report wet : Bool) (xs : List ℕ) (at : ℕ) where
  both : Both (walk_file report size s) (start_shown report size s) (walk_from report 17 file_scope s (span 12 (length s))).bytes
  unfolding walk_file walk_body start_shown walk_from
  both = record { is = ap (λ (l : List ℕ). start_shown report size s ++ (walk_inside report (walk_chunk report 17) file_scope 12 l).bytes) (sym (left-all s 12)) }

  module _ (f : RoomFrom wet (walk_file report size s) at xs) where
    pub file-start : RoomFrom wet (start_shown report size s) at xs
    file-start = fits-first both wet xs at f

    module _ (ys : List ℕ) (m : ℕ) (e : Emits wet (start_shown report size s) xs at ys m) where
      pub file-chunks : RoomFrom wet (walk_from report 17 file_scope s (span 12 (length s))).bytes m ys
      file-chunks = fits-second both wet xs at ys m e f

      pub file-done : (zs : List ℕ) (w : Walk) → Walks wet (walk_from report 17 file_scope s (span 12 (length s))) ys m zs w → Emits wet (walk_file report size s) xs at zs w.at
      file-done zs w g = emits_both both wet xs at ys m e zs w.at g.put

pub ruleset file_laws = (file-inside, file-start, file-chunks, file-done)
