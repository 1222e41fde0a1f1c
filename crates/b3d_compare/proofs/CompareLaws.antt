-- A law for each way through `list_into` and `compare`.
use mathlib.Core.Path.{◌≡◌, refl, ap, sym, ◌∙◌}
use Prim.Native.Nat.{ℕ, ◌<◌, ◌≤◌}
use native.Mathlib.Omega.{arith}
use mathlib.Core.Bool.{true, false}
use mathlib.Core.List.{List, [], ◌∷◌}
use lib.ListN.{length}
use borrow.Author.Tests.{le-leb, lt-leb}
use Rattle.wire.specs.Test.{if}
use Rattle.wire.specs.Bytes.{AllBytes, over}
use Rattle.shared_put_or_count.specs.Emits.{written, RoomFrom, Emits}
use Rattle.shared_table_words.proofs.JoinedLaws.{over-all}
use Rattle.b3d_spec.specs.declared.Mode.TheVariants.{Lenient}
use Rattle.b3d_spec.specs.declared.Answer.{Answer}
use Rattle.b3d_spec.specs.Answers.{judge, answer}
use Rattle.slip_of_b3d.proofs.SlipOfLaws.{refused_as, accepted-as}
use Rattle.b3d_compare_spec.specs.declared.Compared.{Compared}
use Rattle.b3d_compare_spec.specs.Changes.{twelve}
use Rattle.b3d_compare_spec.specs.Compare.{Comparison, refused, room_for, compare, compared, output_after, compare_answer, compare_output}
use Rattle.b3d_compare_spec.proofs.BoundLaws.{list-small}
use Rattle.b3d_compare_spec.proofs.CompareLaws.{both, compares}
use Rattle.b3d_compare_files.specs.Files.{AcceptedFile, files_bytes}
use Rattle.b3d_compare_files.proofs.AcceptedPairLaws.{files_are}

-- ---- `list_into`

over_none : (l xs : List ℕ) → length l ≡ 0 → xs ≡ over l xs
unfolding over
over_none [] xs z = refl
over_none (c ∷ l) xs z = absurd (omega arith)

-- the list is short enough to be counted
module _ (a b x y : List ℕ) (v : AcceptedFile a x) (w : AcceptedFile b y) (ha : AllBytes a) (hb : AllBytes b) where
  files-small : length (files_bytes a b x y) < 4294967296
  files-small = omega (arith, ap length (files_are a b x y v w), list-small a b v.scene w.scene ha hb v.is w.is)

  module _ (xs : List ℕ) where
    pub dry_fits : RoomFrom false (files_bytes a b x y) 0 xs
    dry_fits = record { room = omega (arith, files-small); small = omega (arith, files-small) }

    module _ (ys : List ℕ) (n : ℕ) (e : Emits false (files_bytes a b x y) xs 0 ys n) where
      pub size_small : n < 4294967296
      size_small = omega (arith, e.to, files-small)

      pub wet_fits : n ≤ length ys → RoomFrom true (files_bytes a b x y) 0 ys
      wet_fits h = record { room = omega (arith, e.to); small = omega (arith, files-small) }

-- n bytes w were counted, and the output xs is left as it was, as ys
module _ (w xs ys : List ℕ) (n : ℕ) (e : Emits false w xs 0 ys n) where
  kept : ys ≡ xs
  unfolding written
  kept = e.is

  size_is : n ≡ length w
  size_is = omega (arith, e.to)

  module _ (h : n ≡ 0) where
    pub none-answer : record { number = 0; place = 0; which = 0; size = 0 } ≡ compared (room_for (length xs) w)
    unfolding room_for compared if
    none-answer = let z : length w ≡ 0 = omega (arith, size_is) in rw (le-leb (length w) (length xs) (omega arith), z)

    pub none_kept : ys ≡ output_after (room_for (length xs) w) xs
    unfolding room_for output_after if
    none_kept = kept ∙ rw (le-leb (length w) (length xs) (omega (arith, size_is))) (over_none w xs (omega (arith, size_is)))

  module _ (h : length ys < n) where
    pub short-answer : record { number = 11; place = n; which = 0; size = 0 } ≡ compared (room_for (length xs) w)
    unfolding room_for compared if
    short-answer = rw (lt-leb (length w) (length xs) (omega (arith, size_is, e.long)), size_is)

    pub short-kept : ys ≡ output_after (room_for (length xs) w) xs
    unfolding room_for output_after if
    short-kept = kept ∙ rw (lt-leb (length w) (length xs) (omega (arith, size_is, e.long)))

  module _ (h : n ≤ length ys) where
    pub list-answer : record { number = 0; place = 0; which = 0; size = n } ≡ compared (room_for (length xs) w)
    unfolding room_for compared if
    list-answer = rw (le-leb (length w) (length xs) (omega (arith, size_is, e.long)), size_is)

    pub list_left : (zs : List ℕ) (m : ℕ) → Emits true w ys 0 zs m → zs ≡ output_after (room_for (length xs) w) xs
    unfolding room_for output_after if written
    list_left zs m p = rw (le-leb (length w) (length xs) (omega (arith, size_is, e.long))) (p.is ∙ rw kept (over-all xs w (omega (arith, size_is, e.long))))

pub ruleset into_laws = (dry_fits, size_small, wet_fits, none-answer, none_kept, short-answer, short-kept, list-answer, list_left)

-- ---- `compare`

-- a file that is answered by 0
pub judged : (s : List ℕ) (x : Answer) → x ≡ answer (judge Lenient s) → x.number ≡ 0 → (l : List ℕ) → l ≡ x.version ∷ x.n_texs ∷ x.counts → AcceptedFile s l
unfolding twelve
judged s x ex z l h = let g = accepted-as s [] (judge Lenient s) refl x ex z in record { scene = g.scene; is = g.is; numbers = h ∙ g.numbers }

module _ (a b out : List ℕ) where
  answered : (c : Comparison) → compare a b (length out) ≡ c → (r : Compared) → r ≡ compared c → r ≡ compare_answer a b out
  unfolding compare_answer
  answered c e r h = h ∙ ap compared (sym e)

  left_so : (c : Comparison) → compare a b (length out) ≡ c → (ys : List ℕ) → ys ≡ output_after c out → ys ≡ compare_output a b out
  unfolding compare_output
  left_so c e ys h = h ∙ ap (λ (x : Comparison). output_after x out) (sym e)

  module _ (x : Answer) (ex : x ≡ answer (judge Lenient a)) where
    module _ (d : x.number ≡ 0 → ⊥) where
      first-invalid : compare a b (length out) ≡ refused x.number x.place 1
      first-invalid = (compares a b (length out)).first x.number x.place (refused_as a [] (judge Lenient a) refl x ex d).is

      pub first-refused : record { number = x.number; place = x.place; which = 1; size = 0 } ≡ compare_answer a b out
      unfolding compared
      first-refused = answered (refused x.number x.place 1) first-invalid _ refl

      pub first_kept : out ≡ compare_output a b out
      unfolding output_after
      first_kept = left_so (refused x.number x.place 1) first-invalid out refl

    module _ (z : x.number ≡ 0) where
      module _ (y : Answer) (ey : y ≡ answer (judge Lenient b)) where
        module _ (d : y.number ≡ 0 → ⊥) where
          second-bad : compare a b (length out) ≡ refused y.number y.place 2
          second-bad =
              let g = accepted-as a [] (judge Lenient a) refl x ex z in
              (compares a b (length out)).second g.scene y.number y.place g.is (refused_as b [] (judge Lenient b) refl y ey d).is

          pub second-refused : record { number = y.number; place = y.place; which = 2; size = 0 } ≡ compare_answer a b out
          unfolding compared
          second-refused = answered (refused y.number y.place 2) second-bad _ refl

          pub second_kept : out ≡ compare_output a b out
          unfolding output_after
          second_kept = left_so (refused y.number y.place 2) second-bad out refl

        module _ (i : y.number ≡ 0) where
          module _ (l m : List ℕ) (hl : l ≡ x.version ∷ x.n_texs ∷ x.counts) (hm : m ≡ y.version ∷ y.n_texs ∷ y.counts) where
            both-good : compare a b (length out) ≡ room_for (length out) (files_bytes a b l m)
            both-good =
                let v = judged a x ex z l hl in
                let w = judged b y ey i m hm in
                both a b (length out) v.scene w.scene v.is w.is ∙ ap (room_for (length out)) (sym (files_are a b l m v w))

            pub both-answer : (r : Compared) → r ≡ compared (room_for (length out) (files_bytes a b l m)) → r ≡ compare_answer a b out
            both-answer r h = answered (room_for (length out) (files_bytes a b l m)) both-good r h

            pub both_left : (ys : List ℕ) → ys ≡ output_after (room_for (length out) (files_bytes a b l m)) out → ys ≡ compare_output a b out
            both_left ys h = left_so (room_for (length out) (files_bytes a b l m)) both-good ys h

pub ruleset compare_laws = (judged, first-refused, first_kept, second-refused, second_kept, both-answer, both_left)
