-- `store_vertex_rows` stores the rows of a VRTS.
use borrow.Author.Rules.{rules}
use Rattle.b3d_read_item_rows.proofs.VertexRowLaws.{shape_laws}
use Rattle.b3d_read_item_rows.proofs.store_vertex_rows.Goals as goal

pub three_words-h-requires : goal.three_words-h-requires
three_words-h-requires c = search (shape_laws, rules)

pub vertex_words-width-requires : goal.vertex_words-width-requires
vertex_words-width-requires c = search (shape_laws, rules)

pub overflow_sub-count : goal.overflow_sub-count
overflow_sub-count c = search (shape_laws, rules)

pub fill_vertices-requires : goal.fill_vertices-requires
fill_vertices-requires c = record { inside = (search shape_laws, search shape_laws, search shape_laws); flags_le_highest_vertex_flags = search (shape_laws, rules) }

pub overflow_mul-result : goal.overflow_mul-result
overflow_mul-result c = search (shape_laws, rules)

pub overflow_add-result : goal.overflow_add-result
overflow_add-result c = search (shape_laws, rules)

pub returns : goal.returns
returns c = search (shape_laws, rules)
