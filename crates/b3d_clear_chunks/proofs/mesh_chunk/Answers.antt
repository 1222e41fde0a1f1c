-- `mesh_chunk` writes the body behind the header and the first word.
use Rattle.b3d_clear_copied_chunks.proofs.ChunkLaws.{open_laws}
use borrow.Author.Rules.{rules}
use Rattle.b3d_clear_chunks.proofs.mesh_chunk.Goals as goal

pub slice_bounds-copy_two-count : goal.slice_bounds-copy_two-count
slice_bounds-copy_two-count c = search (open_laws, rules)

pub slice_bounds-copy_two-start : goal.slice_bounds-copy_two-start
slice_bounds-copy_two-start c = search (open_laws, rules)

pub slice_bounds-copy_two-end : goal.slice_bounds-copy_two-end
slice_bounds-copy_two-end c = search (open_laws, rules)

pub copy_two-n-requires : goal.copy_two-n-requires
copy_two-n-requires c = search (open_laws, rules)

pub put_opening-requires : goal.put_opening-requires
put_opening-requires c = search (open_laws, rules)

pub overflow_add-result : goal.overflow_add-result
overflow_add-result c = search (open_laws, rules)

pub shape_of-out : goal.shape_of-out
shape_of-out c = search (open_laws, rules)

pub returns : goal.returns
returns c = search (open_laws, rules)
