-- `lists_bytes` adds up the tables 1 and 2.
use Rattle.b3d_write_size.proofs.TotalLaws.{lists_laws}
use borrow.Author.Rules.{rules}
use Rattle.b3d_write_size.proofs.lists_bytes.Goals as goal

pub rows_bytes-texs-requires : goal.rows_bytes-texs-requires
rows_bytes-texs-requires c = search (lists_laws, rules)

pub rows_bytes-brus-requires : goal.rows_bytes-brus-requires
rows_bytes-brus-requires c = search (lists_laws, rules)

pub overflow_add-result : goal.overflow_add-result
overflow_add-result c = search (lists_laws, rules)

pub overflow_add-result-2 : goal.overflow_add-result-2
overflow_add-result-2 c = search (lists_laws, rules)

pub overflow_add-result-3 : goal.overflow_add-result-3
overflow_add-result-3 c = search (lists_laws, rules)

pub returns : goal.returns
returns c = search (lists_laws, rules)
