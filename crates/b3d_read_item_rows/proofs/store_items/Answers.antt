-- `store_items` copies the words of the items.
use Rattle.b3d_read_item_rows.proofs.ItemLaws.{items_laws}
use borrow.Author.Rules.{rules}
use Rattle.b3d_read_item_rows.proofs.store_items.Goals as goal

pub overflow_sub-n : goal.overflow_sub-n
overflow_sub-n c = search (items_laws, rules)

pub overflow_mul-n : goal.overflow_mul-n
overflow_mul-n c = search (items_laws, rules)

pub nonzero_div-n : goal.nonzero_div-n
nonzero_div-n c = search (items_laws, rules)

pub overflow_mul-n-2 : goal.overflow_mul-n-2
overflow_mul-n-2 c = search (items_laws, rules)

pub copy_words-requires : goal.copy_words-requires
copy_words-requires c = search (items_laws, rules)

pub overflow_add-result : goal.overflow_add-result
overflow_add-result c = search (items_laws, rules)

pub shape_of-out : goal.shape_of-out
shape_of-out c = search (items_laws, rules)

pub returns : goal.returns
returns c = search (items_laws, rules)
