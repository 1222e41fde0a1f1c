-- `name_valid` answers `name_valid` of its two cells.
use Rattle.b3d_check_rows.proofs.RowLaws.{name_laws}
use borrow.Author.Rules.{rules}
use Rattle.b3d_check_rows.proofs.name_valid.Goals as goal

pub size-from-requires : goal.size-from-requires
size-from-requires c = search (name_laws, rules)

pub size-many-requires : goal.size-many-requires
size-many-requires c = search (name_laws, rules)

pub overflow_add-from : goal.overflow_add-from
overflow_add-from c = search (name_laws, rules)

pub returns-then-names-from : goal.returns-then-names-from
returns-then-names-from c = search (name_laws, rules)

pub text_valid-requires : goal.text_valid-requires
text_valid-requires c = search (name_laws, rules)

pub returns : goal.returns
returns c = search (name_laws, rules)
