-- What is known of two accepted files: their rows, table by table, and that the list from their bytes is the list of their scenes.
use mathlib.Core.Path.{◌≡◌, refl, ap, ap₂, sym, ◌∙◌, subst}
use Prim.Native.Nat.{ℕ, suc, ◌+◌, ◌-◌, ◌<◌, ◌≤◌}
use native.Mathlib.Omega.{arith}
use mathlib.Core.List.{List, [], ◌∷◌, ◌++◌}
use lib.ListN.{length, get_or}
use Rattle.layout.proofs.AllLaws.{All}
use Rattle.layout.specs.Result.{accept}
use Rattle.b3d_spec.specs.declared.Mode.TheVariants.{Lenient}
use Rattle.b3d_spec.specs.Answers.{judge}
use Rattle.b3d_spec.specs.Scene.{Scene}
use Rattle.b3d_spec.specs.Tables.{rows, tables, node_tables, counts}
use Rattle.b3d_spec.proofs.AnswerLaws.{Small, judge_got}
use Rattle.b3d_spec_plain_rows.proofs.Laws.{rows_law}
use Rattle.b3d_compare_spec.specs.Changes.{row_changes, table_changes, twelve, changes_in, changes}
use Rattle.b3d_compare_spec.specs.List.{list_bytes}
use Rattle.b3d_compare_spec.proofs.SizeLaws.{list-append}
use Rattle.b3d_compare_spec.proofs.WalkLaws.{changes-twelve, changes-cells, same-twelve, tables_step}
use Rattle.b3d_compare_tables.specs.Tables.{Comparable, table_bytes}
use Rattle.b3d_compare_next_rows.proofs.NextLaws.{range, at-range}
use Rattle.b3d_compare_tables.proofs.AcceptedLaws.{comparable}
use Rattle.b3d_compare_files.specs.Files.{AcceptedFile, tables_bytes, or_else, files_bytes}

-- ---- rows of one file

count-each : (t : Scene) → All (λ k. get_or (twelve t) (k + 1) 0 ≡ length (rows k t)) (range 1 10)
unfolding twelve counts tables node_tables
count-each t = (refl, (refl, (refl, (refl, (refl, (refl, (refl, (refl, (refl, (refl, tt))))))))))

small-each : (t : Scene) → Small t → All (λ k. length (rows k t) ≤ 2097151) (range 1 10)
unfolding tables node_tables
small-each t h = h

module _ (s x : List ℕ) (v : AcceptedFile s x) (k : ℕ) (lo : 1 ≤ k) (hi : k ≤ 10) (kk : ℕ) (ek : kk ≡ k) where
  count_is : get_or x (kk + 1) 0 ≡ length (rows k v.scene)
  count_is = rw (ek, v.numbers) (at-range (λ j. get_or (twelve v.scene) (j + 1) 0 ≡ length (rows j v.scene)) 1 10 (count-each v.scene) k lo (omega arith))

  pub rows-known : Comparable k (get_or x (kk + 1) 0) s
  rows-known = subst (λ (n : ℕ). Comparable k n s) (sym count_is) (comparable s v.scene v.is k lo hi)

  pub rows_few : get_or x (kk + 1) 0 ≤ 2097151
  rows_few = omega (arith, count_is, at-range (λ j. length (rows j v.scene) ≤ 2097151) 1 10 (small-each v.scene (judge_got Lenient s v.scene v.is).1) k lo (omega arith))

-- ---- the tables from k on

unfoldable pub tables_from : ℕ → List ℕ
tables_from k = range k (11 - k)

pub from_first : tables_from 1 ≡ tables
unfolding tables_from tables node_tables
from_first = refl

pub from_step : (k : ℕ) → k ≤ 10 → tables_from k ≡ k ∷ tables_from (k + 1)
unfolding tables_from
from_step k h = let e : 11 - k ≡ suc (11 - (k + 1)) = omega arith in rw e

pub from_end : (k : ℕ) → 10 < k → tables_from k ≡ []
unfolding tables_from
from_end k h = let e : 11 - k ≡ 0 = omega arith in rw e

-- ---- the list

module _ (a b : List ℕ) (t u : Scene) (e : judge Lenient a ≡ accept t) (f : judge Lenient b ≡ accept u) where
  table_is : (k : ℕ) → 1 ≤ k → k ≤ 10 → table_bytes k a b ≡ list_bytes (table_changes k a b 0 (rows k t) (rows k u))
  unfolding table_bytes
  table_is k lo hi = ap₂ (λ (p q : List (List ℕ)). list_bytes (table_changes k a b 0 p q)) (rows_law a t e k lo hi) (rows_law b u f k lo hi)

  tables_are : (ks : List ℕ) → All (λ k. (1 ≤ k) × (k ≤ 10)) ks → tables_bytes a b ks ≡ list_bytes (changes_in a b t u ks)
  unfolding tables_bytes changes_in list_bytes
  tables_are [] h = refl
  tables_are (k ∷ ks) h =
      ap₂ ◌++◌ (table_is k h.0.0 h.0.1) (tables_are ks h.1)
      ∙ sym (ap list_bytes (tables_step a b t u k ks (omega (arith, h.0.0))) ∙ list-append (table_changes k a b 0 (rows k t) (rows k u)) (changes_in a b t u ks))

  ten : All (λ k. (1 ≤ k) × (k ≤ 10)) tables
  unfolding tables node_tables
  ten = ((omega arith, omega arith), ((omega arith, omega arith), ((omega arith, omega arith), ((omega arith, omega arith), ((omega arith, omega arith), ((omega arith, omega arith), ((omega arith, omega arith), ((omega arith, omega arith), ((omega arith, omega arith), ((omega arith, omega arith), tt))))))))))

  pub cells_are : tables_bytes a b tables ≡ list_bytes (changes_in a b t u tables)
  cells_are = tables_are tables ten

pub or_some : (l m : List ℕ) → (length l ≡ 0 → ⊥) → or_else l m ≡ l
unfolding or_else
or_some [] m h = absurd (h refl)
or_some (c ∷ l) m h = refl

pub or_none : (l m : List ℕ) → length l ≡ 0 → or_else l m ≡ m
unfolding or_else
or_none [] m h = refl
or_none (c ∷ l) m h = absurd (omega arith)

pub by_length : {P : Type 0} (l : List ℕ) → (length l ≡ 0 → P) → (0 < length l → P) → P
by_length [] f g = f refl
by_length (c ∷ l) f g = g (omega arith)

pub by_none : (l : List ℕ) → length l ≡ 0 → l ≡ []
by_none [] h = refl
by_none (c ∷ l) h = absurd (omega arith)

module _ (a b x y : List ℕ) (v : AcceptedFile a x) (w : AcceptedFile b y) where
  -- the list of the two scenes
  pub files_are : files_bytes a b x y ≡ list_bytes (changes a b v.scene w.scene)
  unfolding files_bytes
  files_are =
      let t = v.scene in
      let u = w.scene in
      let l = list_bytes (row_changes 0 a b 0 (twelve t) (twelve u)) in
      rw (v.numbers, w.numbers)
      (by_length l
      (λ z. or_none l (tables_bytes a b tables) z ∙ cells_are a b t u v.is w.is ∙ ap list_bytes (sym (changes-cells a b t u z)))
      (λ z. or_some l (tables_bytes a b tables) (λ q. omega arith) ∙ ap list_bytes (sym (changes-twelve a b t u z))))

  -- no entry of the twelve: they are the same
  pub same_numbers : length (list_bytes (row_changes 0 a b 0 x y)) ≡ 0 → x ≡ y
  same_numbers z = v.numbers ∙ same-twelve a b v.scene w.scene (rw (v.numbers, w.numbers) at z) ∙ sym w.numbers
