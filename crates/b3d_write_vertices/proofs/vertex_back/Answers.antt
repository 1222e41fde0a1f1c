-- `vertex_back` writes one run after the other.
use Rattle.shared_output.proofs.PartLaws.{both_laws}
use Rattle.b3d_write_row_runs.proofs.PresentWordLaws.{part_laws}
use Rattle.b3d_write_vertices.proofs.VertexLaws.{back_laws}
use borrow.Author.Rules.{rules}
use Rattle.b3d_write_vertices.proofs.vertex_back.Goals as goal

pub put_full-n-requires : goal.put_full-n-requires
put_full-n-requires c = search (both_laws, part_laws, back_laws, rules)

pub overflow_add-base : goal.overflow_add-base
overflow_add-base c = search (both_laws, part_laws, back_laws, rules)

pub slice_bounds-put_sets-count : goal.slice_bounds-put_sets-count
slice_bounds-put_sets-count c = search (both_laws, part_laws, back_laws, rules)

pub slice_bounds-put_sets-start : goal.slice_bounds-put_sets-start
slice_bounds-put_sets-start c = search (both_laws, part_laws, back_laws, rules)

pub slice_bounds-put_sets-end : goal.slice_bounds-put_sets-end
slice_bounds-put_sets-end c = search (both_laws, part_laws, back_laws, rules)

pub put_sets-m-requires : goal.put_sets-m-requires
put_sets-m-requires c = search (both_laws, part_laws, back_laws, rules)

pub overflow_add-result : goal.overflow_add-result
overflow_add-result c = search (both_laws, part_laws, back_laws, rules)

pub shape_of-out : goal.shape_of-out
shape_of-out c = search (both_laws, part_laws, back_laws, rules)

pub returns : goal.returns
returns c = search (both_laws, part_laws, back_laws, rules)
