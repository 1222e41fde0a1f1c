-- `copy_chunk` copies the body behind its header.
use Rattle.b3d_clear_copied_chunks.proofs.ChunkLaws.{copy_laws}
use borrow.Author.Rules.{rules}
use Rattle.b3d_clear_copied_chunks.proofs.copy_chunk.Goals as goal

pub overflow_sub-count : goal.overflow_sub-count
overflow_sub-count c = search (copy_laws, rules)

pub slice_bounds-copy_bytes-count : goal.slice_bounds-copy_bytes-count
slice_bounds-copy_bytes-count c = search (copy_laws, rules)

pub slice_bounds-copy_bytes-start : goal.slice_bounds-copy_bytes-start
slice_bounds-copy_bytes-start c = search (copy_laws, rules)

pub slice_bounds-copy_bytes-end : goal.slice_bounds-copy_bytes-end
slice_bounds-copy_bytes-end c = search (copy_laws, rules)

pub copy_bytes-requires : goal.copy_bytes-requires
copy_bytes-requires c = search (copy_laws, rules)

pub letters-requires : goal.letters-requires
letters-requires c = search (copy_laws, rules)

pub put_header-requires : goal.put_header-requires
put_header-requires c = search (copy_laws, rules)

pub overflow_add-result : goal.overflow_add-result
overflow_add-result c = search (copy_laws, rules)

pub shape_of-out : goal.shape_of-out
shape_of-out c = search (copy_laws, rules)

pub returns : goal.returns
returns c = search (copy_laws, rules)
