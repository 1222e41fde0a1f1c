-- `list_bytes` adds up a row of table 9.
use Rattle.b3d_write_row_size.proofs.RowLaws.{items_laws}
use borrow.Author.Rules.{rules}
use Rattle.b3d_write_row_size.proofs.list_bytes.Goals as goal

pub key_words-words-requires : goal.key_words-words-requires
key_words-words-requires c = search (items_laws, rules)

pub size-requires : goal.size-requires
size-requires c = search (items_laws, rules)

pub overflow_mul-result : goal.overflow_mul-result
overflow_mul-result c = search (items_laws, rules)

pub overflow_mul-result-2 : goal.overflow_mul-result-2
overflow_mul-result-2 c = search (items_laws, rules)

pub overflow_add-result : goal.overflow_add-result
overflow_add-result c = search (items_laws, rules)

pub returns : goal.returns
returns c = search (items_laws, rules)
