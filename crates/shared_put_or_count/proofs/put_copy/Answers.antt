-- `put_copy` puts or counts.
use Rattle.shared_put_or_count.proofs.PutLaws.{copy_laws}
use borrow.Author.Rules.{rules}
use Rattle.shared_put_or_count.proofs.put_copy.Goals as goal

pub slice_bounds-copy_bytes-count : goal.slice_bounds-copy_bytes-count
slice_bounds-copy_bytes-count c = search (copy_laws, rules)

pub slice_bounds-copy_bytes-start : goal.slice_bounds-copy_bytes-start
slice_bounds-copy_bytes-start c = search (copy_laws, rules)

pub slice_bounds-copy_bytes-end : goal.slice_bounds-copy_bytes-end
slice_bounds-copy_bytes-end c = search (copy_laws, rules)

pub copy_bytes-requires : goal.copy_bytes-requires
copy_bytes-requires c = search (copy_laws, rules)

pub overflow_add-result : goal.overflow_add-result
overflow_add-result c = search (copy_laws, rules)

pub shape_of-out-then-wet : goal.shape_of-out-then-wet
shape_of-out-then-wet c = search (copy_laws, rules)

pub returns-then-wet : goal.returns-then-wet
returns-then-wet c = search (copy_laws, rules)

pub overflow_add-result-2 : goal.overflow_add-result-2
overflow_add-result-2 c = search (copy_laws, rules)

pub returns : goal.returns
returns c = search (copy_laws, rules)
