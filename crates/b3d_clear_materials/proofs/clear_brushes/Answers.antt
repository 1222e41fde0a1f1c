-- `clear_brushes` goes by the number that stands first.
use Rattle.b3d_clear_materials.proofs.ListLaws.{brus_laws}
use borrow.Author.Rules.{rules}
use Rattle.b3d_clear_materials.proofs.clear_brushes.Goals as goal

pub number-requires : goal.number-requires
number-requires c = search (brus_laws, rules)

pub returns-then-slots-gt-MOST_SLOTS : goal.returns-then-slots-gt-MOST_SLOTS
returns-then-slots-gt-MOST_SLOTS c = search (brus_laws, rules)

pub returns-then-items : goal.returns-then-items
returns-then-items c = search (brus_laws, rules)

pub size-words-requires : goal.size-words-requires
size-words-requires c = search (brus_laws, rules)

pub overflow_add-words : goal.overflow_add-words
overflow_add-words c = search (brus_laws, rules)

pub brus_chunk-requires : goal.brus_chunk-requires
brus_chunk-requires c = search (brus_laws, rules)

pub shape_of-out : goal.shape_of-out
shape_of-out c = search (brus_laws, rules)

pub returns-in_default : goal.returns-in_default
returns-in_default c = search (brus_laws, rules)

pub returns : goal.returns
returns c = search (brus_laws, rules)
