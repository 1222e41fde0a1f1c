-- `store_keys` stores the rows of a KEYS.
use Rattle.b3d_read_item_rows.proofs.KeyRowLaws.{key_laws}
use borrow.Author.Rules.{rules}
use Rattle.b3d_read_item_rows.proofs.store_keys.Goals as goal

pub overflow_sub-end : goal.overflow_sub-end
overflow_sub-end c = search (key_laws, rules)

pub returns-then-end-at-lt4 : goal.returns-then-end-at-lt4
returns-then-end-at-lt4 c = search (key_laws, rules)

pub number_at-flags-requires : goal.number_at-flags-requires
number_at-flags-requires c = search (key_laws, rules)

pub key_words-width-requires : goal.key_words-width-requires
key_words-width-requires c = search (key_laws, rules)

pub overflow_add-from : goal.overflow_add-from
overflow_add-from c = search (key_laws, rules)

pub overflow_sub-count : goal.overflow_sub-count
overflow_sub-count c = search (key_laws, rules)

pub overflow_mul-count : goal.overflow_mul-count
overflow_mul-count c = search (key_laws, rules)

pub nonzero_div-count : goal.nonzero_div-count
nonzero_div-count c = search (key_laws, rules)

pub fill_keys-requires : goal.fill_keys-requires
fill_keys-requires c = search (key_laws, rules)

pub overflow_mul-result : goal.overflow_mul-result
overflow_mul-result c = search (key_laws, rules)

pub overflow_add-result : goal.overflow_add-result
overflow_add-result c = search (key_laws, rules)

pub shape_of-out : goal.shape_of-out
shape_of-out c = search (key_laws, rules)

pub returns : goal.returns
returns c = search (key_laws, rules)
