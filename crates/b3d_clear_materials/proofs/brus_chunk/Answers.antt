-- `brus_chunk` writes the items behind the header and the slots.
use Rattle.b3d_clear_copied_chunks.proofs.ChunkLaws.{open_laws}
use borrow.Author.Rules.{rules}
use Rattle.b3d_clear_materials.proofs.brus_chunk.Goals as goal

pub slice_bounds-clear_items-count : goal.slice_bounds-clear_items-count
slice_bounds-clear_items-count c = search (open_laws, rules)

pub slice_bounds-clear_items-start : goal.slice_bounds-clear_items-start
slice_bounds-clear_items-start c = search (open_laws, rules)

pub slice_bounds-clear_items-end : goal.slice_bounds-clear_items-end
slice_bounds-clear_items-end c = search (open_laws, rules)

pub clear_items-n-requires : goal.clear_items-n-requires
clear_items-n-requires c = search (open_laws, rules)

pub put_opening-requires : goal.put_opening-requires
put_opening-requires c = search (open_laws, rules)

pub overflow_add-result : goal.overflow_add-result
overflow_add-result c = search (open_laws, rules)

pub shape_of-out : goal.shape_of-out
shape_of-out c = search (open_laws, rules)

pub returns : goal.returns
returns c = search (open_laws, rules)
