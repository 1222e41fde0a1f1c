-- `open_brushes` finds the first BRUS.
use Rattle.b3d_rows_items.proofs.OpenTextLaws.{open_laws}
use borrow.Author.Rules.{rules}
use Rattle.b3d_rows_items.proofs.open_brushes.Goals as goal

pub first_chunk-requires : goal.first_chunk-requires
first_chunk-requires c = search (open_laws, rules)

pub no_texts-requires : goal.no_texts-requires
no_texts-requires c = search (open_laws, rules)

pub returns-in_default : goal.returns-in_default
returns-in_default c = search (open_laws, rules)

pub first_word-head-requires : goal.first_word-head-requires
first_word-head-requires c = search (open_laws, rules)

pub no_texts-requires-then-head-gt-MOST_SLOTS : goal.no_texts-requires-then-head-gt-MOST_SLOTS
no_texts-requires-then-head-gt-MOST_SLOTS c = search (open_laws, rules)

pub returns-then-head-gt-MOST_SLOTS : goal.returns-then-head-gt-MOST_SLOTS
returns-then-head-gt-MOST_SLOTS c = search (open_laws, rules)

pub size-ids-requires : goal.size-ids-requires
size-ids-requires c = search (open_laws, rules)

pub overflow_add-result : goal.overflow_add-result
overflow_add-result c = search (open_laws, rules)

pub returns : goal.returns
returns c = search (open_laws, rules)
