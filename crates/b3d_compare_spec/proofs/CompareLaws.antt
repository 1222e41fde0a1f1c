-- What holds of a comparison.
use mathlib.Core.Path.{◌≡◌, refl, ap, sym, ◌∙◌}
use Prim.Native.Nat.{ℕ, ◌<◌, ◌≤◌}
use native.Mathlib.Omega.{arith}
use mathlib.Core.List.{List, [], ◌∷◌}
use lib.ListN.{length}
use lib.Dec.{leb}
use borrow.Author.Tests.{le-leb, lt-leb}
use Rattle.wire.specs.Test.{if}
use Rattle.layout.specs.Result.{accept, reject}
use Rattle.layout.proofs.ResultLaws.{by-if}
use Rattle.b3d_spec.specs.declared.Mode.TheVariants.{Lenient}
use Rattle.b3d_spec.specs.Answers.{judge}
use Rattle.b3d_spec.specs.Scene.{Scene}
use Rattle.b3d_compare_spec.specs.Changes.{Change, changes}
use Rattle.b3d_compare_spec.specs.List.{list_bytes}
use Rattle.b3d_compare_spec.specs.Compare.{listed, refused, of_file, room_for, compare}
use Rattle.b3d_compare_spec.specs.Compares.{Compares}
use Rattle.b3d_compare_spec.proofs.ExactLaws.{listed-exactly}
use Rattle.b3d_compare_spec.proofs.SizeLaws.{some_byte}
use Rattle.b3d_compare_spec.proofs.ReadBackLaws.{readable}
use Rattle.b3d_compare_spec.proofs.NameLaws.{names-told}
use Rattle.b3d_compare_spec.proofs.BoundLaws.{list-most}

listed_inj : {x y : List ℕ} → listed x ≡ listed y → x ≡ y
listed_inj e = cc

refused-listed : {A : Type 0} {n p i : ℕ} {l : List ℕ} → refused n p i ≡ listed l → A
refused-listed e = let z : ◌≡◌ {A = ℕ} 0 1 = cc in absurd (omega arith)

room-yes : (room : ℕ) (l : List ℕ) → length l ≤ room → room_for room l ≡ listed l
unfolding room_for if
room-yes room l h = rw (le-leb (length l) room h)

room-no : (room : ℕ) (l : List ℕ) → room < length l → room_for room l ≡ refused 11 (length l) 0
unfolding room_for if
room-no room l h = rw (lt-leb (length l) room h)

room-empty : (room : ℕ) (l : List ℕ) → room_for room l ≡ listed [] → l ≡ []
unfolding room_for
room-empty room l e = by-if (leb (length l) room) (listed l) (refused 11 (length l) 0) e (λ _ g. listed_inj g) (λ _ g. refused-listed g)

list-none : (l : List Change) → list_bytes l ≡ [] → l ≡ []
unfolding list_bytes
list-none [] e = refl
list-none (c ∷ l) e = absurd (omega (arith, some_byte c (list_bytes l), ap length e))

module _ (a b : List ℕ) (room : ℕ) where
  pub both : (t u : Scene) → judge Lenient a ≡ accept t → judge Lenient b ≡ accept u → compare a b room ≡ room_for room (list_bytes (changes a b t u))
  unfolding compare of_file
  both t u e f = rw (e, f)

  not_first : (n p : ℕ) → judge Lenient a ≡ reject n p → compare a b room ≡ refused n p 1
  unfolding compare of_file
  not_first n p e = rw e

  not-second : (t : Scene) (n p : ℕ) → judge Lenient a ≡ accept t → judge Lenient b ≡ reject n p → compare a b room ≡ refused n p 2
  unfolding compare of_file
  not-second t n p e f = rw (e, f)

  none : room_for room (list_bytes []) ≡ listed []
  unfolding list_bytes
  none = room-yes room [] (omega arith)

  pub compares : Compares a b room
  compares =
      record {
        first = not_first;
        second = not-second;
        short = λ t u e f h. both t u e f ∙ room-no room (list_bytes (changes a b t u)) h;
        list = λ t u e f h. both t u e f ∙ room-yes room (list_bytes (changes a b t u)) h;
        says = λ t u e f. listed-exactly a b t u;
        reads = λ t u e f. readable a b t u;
        most = λ ha hb t u e f. list-most a b t u ha hb e f;
        first_names = names-told a;
        second_names = names-told b;
        same = λ t u e f g. both t u e f ∙ ap (λ (l : List Change). room_for room (list_bytes l)) ((listed-exactly a b t u).nothing g) ∙ none;
        differs = λ g t u e f. (listed-exactly a b t u).empty (list-none (changes a b t u) (room-empty room (list_bytes (changes a b t u)) (sym (both t u e f) ∙ g)));
      }
