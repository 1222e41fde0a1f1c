-- `key_list_valid` answers `key_list_valid` of the row by its parts.
use Rattle.b3d_check_rows.proofs.AndLaws.{ands}
use Rattle.b3d_check_row_runs.proofs.ItemLaws.{list-parts}
use borrow.Author.Rules.{rules}
use Rattle.b3d_check_row_runs.proofs.key_list_valid.Goals as goal

pub overflow_mul-flags : goal.overflow_mul-flags
overflow_mul-flags c = search (list-parts, ands, rules)

pub overflow_add-flags : goal.overflow_add-flags
overflow_add-flags c = search (list-parts, ands, rules)

pub offset_bounds-t-i : goal.offset_bounds-t-i
offset_bounds-t-i c = search (list-parts, ands, rules)

pub bounds-t-i : goal.bounds-t-i
bounds-t-i c = search (list-parts, ands, rules)

pub returns-then-not-flags : goal.returns-then-not-flags
returns-then-not-flags c = search (list-parts, ands, rules)

pub keys_valid-requires : goal.keys_valid-requires
keys_valid-requires c = search (list-parts, ands, rules)

pub returns : goal.returns
returns c = search (list-parts, ands, rules)
