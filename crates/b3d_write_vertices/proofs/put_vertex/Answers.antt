-- `put_vertex` writes the first two runs, then the others.
use Rattle.shared_output.proofs.PartLaws.{both_laws}
use Rattle.b3d_write_row_runs.proofs.PresentWordLaws.{part_laws}
use Rattle.b3d_write_vertices.proofs.VertexLaws.{back_laws}
use borrow.Author.Rules.{rules}
use Rattle.b3d_write_vertices.proofs.put_vertex.Goals as goal

pub put_front-n-requires : goal.put_front-n-requires
put_front-n-requires c = search (both_laws, part_laws, back_laws, rules)

pub overflow_add-base : goal.overflow_add-base
overflow_add-base c = search (both_laws, part_laws, back_laws, rules)

pub overflow_add-base-2 : goal.overflow_add-base-2
overflow_add-base-2 c = search (both_laws, part_laws, back_laws, rules)

pub slice_bounds-vertex_back-count : goal.slice_bounds-vertex_back-count
slice_bounds-vertex_back-count c = search (both_laws, part_laws, back_laws, rules)

pub slice_bounds-vertex_back-start : goal.slice_bounds-vertex_back-start
slice_bounds-vertex_back-start c = search (both_laws, part_laws, back_laws, rules)

pub slice_bounds-vertex_back-end : goal.slice_bounds-vertex_back-end
slice_bounds-vertex_back-end c = search (both_laws, part_laws, back_laws, rules)

pub vertex_back-m-requires : goal.vertex_back-m-requires
vertex_back-m-requires c = search (both_laws, part_laws, back_laws, rules)

pub overflow_add-result : goal.overflow_add-result
overflow_add-result c = search (both_laws, part_laws, back_laws, rules)

pub shape_of-out : goal.shape_of-out
shape_of-out c = search (both_laws, part_laws, back_laws, rules)

pub returns : goal.returns
returns c = search (both_laws, part_laws, back_laws, rules)
