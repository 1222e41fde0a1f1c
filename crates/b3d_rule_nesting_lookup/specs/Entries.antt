-- Rows and entries of the table by their tags.
use Rattle.std.specs.Prelude.{ℕ, List, [], get_or}
use Rattle.b3d_spec.specs.declared.Tag.{Tag}
use Rattle.b3d_spec.specs.Tags.{tag_number}
use Rattle.b3d_rule_nesting_table.specs.declared.Entry.{Entry}
use Rattle.b3d_rule_nesting_table.specs.Table.{nesting_table, entry_at}

-- the table's row of this number, from 0 on
abbrev pub row_at : ℕ → List Entry
row_at row = get_or nesting_table row []

-- the table's entry for tag t inside a chunk of tag k
abbrev pub entry_of : Tag → Tag → Entry
entry_of k t = entry_at (tag_number k) (tag_number t)
