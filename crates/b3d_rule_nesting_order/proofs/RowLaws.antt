-- What a row of the table owes.
use mathlib.Core.Path.{◌≡◌, refl, ap, sym, ◌∙◌}
use Prim.Native.Nat.{ℕ, ◌+◌, ◌<◌, ◌≤◌}
use native.Mathlib.Numerals.{add-one}
use native.Mathlib.Omega.{arith}
use mathlib.Core.Bool.{Bool, true, false, ◌||◌}
use mathlib.Core.List.{List}
use lib.ListN.{length, drop, get_or, drop_of_length-le}
use lib.Seq.{drop-cons}
use Rattle.wire.specs.Test.{if}
use Rattle.b3d_spec.specs.declared.Tag.{Tag}
use Rattle.b3d_spec.specs.Nesting.{nesting, required_between}
use Rattle.b3d_spec.proofs.Files.TagCodeLaws.{by-tag}
use Rattle.b3d_rule_nesting_table.specs.declared.Entry.{Entry}
use Rattle.b3d_rule_nesting_table.specs.Table.{denied, entry_in, nesting_table}
use Rattle.b3d_spec.specs.Tags.{tag_number}
use Rattle.b3d_rule_nesting_order.specs.Turns.{between}
use Rattle.b3d_rule_nesting_lookup.specs.Entries.{row_at}
use Rattle.b3d_rule_nesting_order.specs.ByTable.{required_in}

-- the rule's list for a tag owes what its row does
pub row_owed : (k : Tag) (lo hi : ℕ) → required_in (row_at (tag_number k)) lo hi ≡ required_between (nesting k) lo hi
unfolding nesting_table entry_in if
row_owed k lo hi = by-tag (λ k. required_in (row_at (tag_number k)) lo hi ≡ required_between (nesting k) lo hi) (refl, refl, refl, refl, refl, refl, refl, refl, refl, refl) k

row_long : (k : Tag) → length (row_at (tag_number k)) ≡ 10
unfolding nesting_table entry_in if
row_long = by-tag (λ k. length (row_at (tag_number k)) ≡ 10) (refl, refl, refl, refl, refl, refl, refl, refl, refl, refl)

-- nothing before this column of a row is owed
pub record Looking (row : List Entry) (lo hi column : ℕ) : Type 0 where
  pub small : column ≤ 10
  pub long : length row ≡ 10
  pub same : required_in (drop column row) lo hi ≡ required_in row lo hi

module _ (k : Tag) (row : List Entry) (is : row ≡ row_at (tag_number k)) (lo hi : ℕ) where
  pub looking_start : Looking row lo hi 0
  looking_start = record { small = omega arith; long = ap length is ∙ row_long k; same = refl }

  by_rule : required_in row lo hi ≡ required_between (nesting k) lo hi
  by_rule = ap (λ (l : List Entry). required_in l lo hi) is ∙ row_owed k lo hi

  module _ (column : ℕ) (v : Looking row lo hi column) where
    abbrev from : List Entry → Bool
    from l = required_in l lo hi

    pub looking_done : 10 ≤ column → false ≡ required_between (nesting k) lo hi
    looking_done d = sym (ap from (drop_of_length-le row {i = column} (omega (arith, v.long)))) ∙ v.same ∙ by_rule

    module _ (l : column < 10) (b : Bool) (t : b ≡ between (get_or row column denied) lo hi) where
      step : b || from (drop (column + 1) row) ≡ from row
      step =
          let n : column < length row = omega (arith, v.long) in
          ap (λ (z : Bool). z || from (drop (column + 1) row)) t
          ∙ ap (λ (j : ℕ). between (get_or row column denied) lo hi || from (drop j row)) (add-one column)
          ∙ sym (ap from (drop-cons row column denied n)) ∙ v.same

      pub looking_found : b ≡ true → true ≡ required_between (nesting k) lo hi
      looking_found y = ap (λ (z : Bool). z || from (drop (column + 1) row)) (sym y) ∙ step ∙ by_rule

      pub looking_on : b ≡ false → Looking row lo hi (column + 1)
      looking_on y = record {
        small = omega arith;
        long = v.long;
        same = ap (λ (z : Bool). z || from (drop (column + 1) row)) (sym y) ∙ step;
      }

pub ruleset looking = (looking_start, looking_done, looking_found, looking_on)
