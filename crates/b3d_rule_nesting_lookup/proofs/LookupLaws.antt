-- What stands at a tag's place in the table: its row, and an entry in it.
use mathlib.Core.Path.{◌≡◌, ap}
use mathlib.Core.List.{List, []}
use lib.ListN.{get_or}
use Rattle.b3d_spec.specs.declared.Tag.{Tag}
use Rattle.b3d_rule_nesting_table.specs.declared.Entry.{Entry}
use Rattle.b3d_rule_nesting_table.specs.Table.{denied, nesting_table, entry_at}
use Rattle.b3d_spec.specs.Tags.{tag_number}
use Rattle.b3d_rule_nesting_lookup.specs.Entries.{row_at, entry_of}

pub row_picked : (t k : Tag) (rows : List (List Entry)) → rows ≡ nesting_table → k ≡ t → get_or rows (tag_number t) [] ≡ row_at (tag_number k)
row_picked t k rows is e = rw e (ap (λ (x : List (List Entry)). get_or x (tag_number t) []) is)

pub entry_picked : (t k u : Tag) (row : List Entry) → row ≡ row_at (tag_number u) → k ≡ t → get_or row (tag_number t) denied ≡ entry_of u k
unfolding entry_at
entry_picked t k u row is e = rw e (ap (λ (x : List Entry). get_or x (tag_number t) denied) is)
