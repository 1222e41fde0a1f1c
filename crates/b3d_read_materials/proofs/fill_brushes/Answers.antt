-- `fill_brushes` stores the brushes of the first BRUS.
use Rattle.b3d_read_materials.proofs.MaterialLaws.{brushes_laws}
use borrow.Author.Rules.{rules}
use Rattle.b3d_read_materials.proofs.fill_brushes.Goals as goal

pub first_chunk-requires : goal.first_chunk-requires
first_chunk-requires c = search (brushes_laws, rules)

pub returns-in_default : goal.returns-in_default
returns-in_default c = search (brushes_laws, rules)

pub first_word-head-requires : goal.first_word-head-requires
first_word-head-requires c = search (brushes_laws, rules)

pub returns-then-head-gt-MOST_SLOTS : goal.returns-then-head-gt-MOST_SLOTS
returns-then-head-gt-MOST_SLOTS c = search (brushes_laws, rules)

pub size-ids-requires : goal.size-ids-requires
size-ids-requires c = search (brushes_laws, rules)

pub overflow_add-ids : goal.overflow_add-ids
overflow_add-ids c = search (brushes_laws, rules)

pub overflow_sub-ids : goal.overflow_sub-ids
overflow_sub-ids c = search (brushes_laws, rules)

pub fill_named-requires : goal.fill_named-requires
fill_named-requires c = search (brushes_laws, rules)

pub shape_of-out : goal.shape_of-out
shape_of-out c = search (brushes_laws, rules)

pub returns : goal.returns
returns c = search (brushes_laws, rules)
