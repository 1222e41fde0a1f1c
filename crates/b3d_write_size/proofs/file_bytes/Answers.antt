-- `file_bytes` adds up the whole file.
use Rattle.b3d_write_size.proofs.TotalLaws.{file_laws}
use borrow.Author.Rules.{rules}
use Rattle.b3d_write_size.proofs.file_bytes.Goals as goal

pub overflow_mul-result : goal.overflow_mul-result
overflow_mul-result c = search (file_laws, rules)

pub overflow_add-result-3 : goal.overflow_add-result-3
overflow_add-result-3 c = search (file_laws, rules)

pub overflow_mul-result-2 : goal.overflow_mul-result-2
overflow_mul-result-2 c = search (file_laws, rules)

pub overflow_add-result-4 : goal.overflow_add-result-4
overflow_add-result-4 c = search (file_laws, rules)

pub overflow_mul-result-3 : goal.overflow_mul-result-3
overflow_mul-result-3 c = search (file_laws, rules)

pub overflow_add-result-5 : goal.overflow_add-result-5
overflow_add-result-5 c = search (file_laws, rules)

pub returns : goal.returns
returns c = search (file_laws, rules)
