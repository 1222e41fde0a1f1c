-- What each step of `label` says of the label, and the name on it.
use Prim.Native.Nat.{ℕ, ◌+◌, ◌-◌, ◌<◌, ◌≤◌}
use native.Mathlib.Nat.{add-sub_cancel_left}
use native.Mathlib.Omega.{arith}
use mathlib.Core.Logic.{⊎_elim}
use mathlib.Core.Path.{◌≡◌, ap, sym, ◌∙◌}
use mathlib.Core.List.{List}
use lib.ListN.{length, take, drop, get_or, length-drop}
use lib.Seq.{take-length}
use lib.Dec.{eqb, eqb→eq}
use mir.Facts.{eqb_no}
use borrow.Author.Tests.{eq-eqb, ne_eqb, le-leb, lt-leb}
use Rattle.wire.specs.Bytes.{word_at}
use Rattle.wire.specs.Cursors.{Inside, left, header_at}
use Rattle.wire.specs.declared.Cursor.{Cursor}
use Rattle.wire.specs.declared.Header.{Header}
use Rattle.wire.specs.declared.Header.TheVariants as header
use Rattle.wire.proofs.AnswerLaws.{Framed, framed, header-end, header-cut}
use Rattle.wire.proofs.LeftLaws.{span, left-take}
use Rattle.layout.specs.Result.{check}
use Rattle.layout.specs.Parts.{words_of}
use Rattle.layout.proofs.ResultLaws.{by_test}
use Rattle.layout.proofs.StepLaws.{word_of, row_any, any-short}
use Rattle.b3d_spec.specs.declared.Tag.TheVariants.{BB3D}
use Rattle.b3d_spec.specs.Tags.{code}
use Rattle.b3d_label_spec.specs.Walk.{Refused, file_in, label_walk, no_label, labelled, label_of, name_on}
use Rattle.b3d_label.specs.Answers.{Labels}
use Rattle.b3d_label_spec.specs.declared.TrayLabel.{TrayLabel}
use Rattle.b3d_label.proofs.RootLaws.{label-none}

-- the whole file
abbrev all : List ℕ → Cursor
all s = span 0 (length s)

module _ (s : List ℕ) where
  short-file : length s < 8 → Refused (label_walk s)
  unfolding label_walk
  short-file h = (5, 0, rw (any-short 2 0 s h))

  module _ (h : 8 ≤ length s) where
    tag-number : get_or (words_of 2 s) 0 0 ≡ word_at s 0
    unfolding word_at
    tag-number = word_of 2 0 s (omega arith) h

    size_number : get_or (words_of 2 s) 1 0 ≡ word_at s 4
    unfolding word_at
    size_number = word_of 2 1 s (omega arith) h

    other-file : (word_at s 0 ≡ code BB3D → ⊥) → Refused (label_walk s)
    unfolding label_walk check
    other-file z = (2, 0, rw (row_any 2 0 s h, tag-number, ne_eqb (word_at s 0) (code BB3D) z))

    module _ (t : word_at s 0 ≡ code BB3D) where
      past-file : length s - 8 < word_at s 4 → Refused (label_walk s)
      unfolding label_walk check
      past-file z = (3, 0, rw (row_any 2 0 s h, tag-number, eq-eqb (word_at s 0) (code BB3D) t, size_number, lt-leb (word_at s 4) (length (drop 8 s)) (omega (arith, length-drop 8 s))))

      whole-file : word_at s 4 ≤ length s - 8 → label_walk s ≡ file_in 8 (take (word_at s 4) (drop 8 s))
      unfolding label_walk check
      whole-file z = rw (row_any 2 0 s h, tag-number, eq-eqb (word_at s 0) (code BB3D) t, size_number, le-leb (word_at s 4) (length (drop 8 s)) (omega (arith, length-drop 8 s)))

-- ---- by what the first header says

module _ (s : List ℕ) (r : Header) (e : r ≡ header_at s (all s)) where
  pub label-end : r ≡ header.End → (l : TrayLabel) → l ≡ no_label → Labels (label_walk s) (length s) l
  label-end w = let z = header-end s (all s) (sym e ∙ w) in label-none (label_walk s) (length s) (short-file s (omega arith))

  pub label-cut : r ≡ header.Cut → (l : TrayLabel) → l ≡ no_label → Labels (label_walk s) (length s) l
  label-cut w = let z = header-cut s (all s) (sym e ∙ w) in label-none (label_walk s) (length s) (⊎_elim (λ h. short-file s (omega arith)) (λ h. long (omega (arith, h.0)) (omega (arith, h.1))) z.1)
    where
      long : 8 ≤ length s → length s - 8 < word_at s 4 → Refused (label_walk s)
      long h k = by_test (eqb (word_at s 0) (code BB3D)) (λ t. past-file s h (eqb→eq (word_at s 0) (code BB3D) t) k) (λ t. other-file s h (eqb_no {a = word_at s 0} {b = code BB3D} t))

  module _ (t : ℕ) (b n : Cursor) (w : r ≡ header.Whole t b n) where
    f : Framed s (all s) t b n
    f = framed s (all s) t b n (sym e ∙ w)

    pub label-other : (t ≡ code BB3D → ⊥) → (l : TrayLabel) → l ≡ no_label → Labels (label_walk s) (length s) l
    label-other z = label-none (label_walk s) (length s) (other-file s f.head (λ q. z (f.tag ∙ q)))

    pub label_inside : Inside b (length s)
    label_inside = let g = f in omega arith

    rest : left (span 8 (length s)) s ≡ drop 8 s
    unfolding left
    rest = rw (take-length s)

    body : left b s ≡ take (word_at s 4) (drop 8 s)
    body = let g = f in rw (← rest) (left-take s (span 8 (length s)) (word_at s 4) b (omega arith) (omega arith) (omega arith) (omega arith))

    pub label-file : t ≡ code BB3D → (l : TrayLabel) → Labels (file_in b.at (left b s)) (length s) l → Labels (label_walk s) (length s) l
    label-file z l h =
        let g = f in
        let same : file_in b.at (left b s) ≡ label_walk s =
        ap (file_in b.at) body ∙ ap (λ (p : ℕ). file_in p (take (word_at s 4) (drop 8 s))) f.body ∙ sym (whole-file s f.head (sym f.tag ∙ z) (omega arith)) in
        record { is = h.is ∙ ap labelled same; within = h.within }

-- ---- what is promised of it

module _ (s : List ℕ) (l : TrayLabel) where
  pub label_is : Labels (label_walk s) (length s) l → l ≡ label_of s
  unfolding label_of
  label_is h = h.is

  pub label-within : Labels (label_walk s) (length s) l → l.name_place + l.name_length ≤ length s
  label-within h = h.within

  pub name-on : l ≡ label_of s → take (l.name_place + l.name_length - l.name_place) (drop l.name_place s) ≡ name_on (label_of s) s
  unfolding name_on
  name-on h = rw (← h, add-sub_cancel_left)

pub ruleset label_laws = (label-end, label-cut, label-other, label_inside, label-file, label_is, label-within, name-on)
