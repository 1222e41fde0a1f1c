-- `put_brus` writes rows and then the head of their chunk.
use Rattle.shared_output.proofs.PartLaws.{chunk_laws}
use borrow.Author.Rules.{rules}
use Rattle.b3d_write_materials.proofs.put_brus.Goals as goal

pub overflow_add-many : goal.overflow_add-many
overflow_add-many c = search (chunk_laws, rules)

pub slice_bounds-put_rows-count : goal.slice_bounds-put_rows-count
slice_bounds-put_rows-count c = search (chunk_laws, rules)

pub slice_bounds-put_rows-start : goal.slice_bounds-put_rows-start
slice_bounds-put_rows-start c = search (chunk_laws, rules)

pub slice_bounds-put_rows-end : goal.slice_bounds-put_rows-end
slice_bounds-put_rows-end c = search (chunk_laws, rules)

pub put_rows-n-requires : goal.put_rows-n-requires
put_rows-n-requires c = search (chunk_laws, rules)

pub put_opening-requires : goal.put_opening-requires
put_opening-requires c = search (chunk_laws, rules)

pub overflow_add-result : goal.overflow_add-result
overflow_add-result c = search (chunk_laws, rules)

pub shape_of-out : goal.shape_of-out
shape_of-out c = search (chunk_laws, rules)

pub returns : goal.returns
returns c = search (chunk_laws, rules)
