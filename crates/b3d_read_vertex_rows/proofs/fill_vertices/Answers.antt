-- `fill_vertices` stores rows by the mask of a vertex, in runs. The loop has stored those before the one that begins at `at`.
use native.Mathlib.Omega.{arith}
use Rattle.b3d_read_vertex_rows.proofs.FillLaws.{filling_none, filling_done, filling_take, filling_room, filling_on, filling_laws}
use Rattle.b3d_read_vertex_rows.proofs.VertexLaws.{fill_words, fill_wide, fill_laws}
use borrow.Author.Rules.{rules}
use Rattle.b3d_read_vertex_rows.proofs.fill_vertices.Goals as goal

pub loop-init : goal.loop-init
loop-init c = search (filling_none, fill_laws, rules)

pub store_vertex-requires : goal.store_vertex-requires
store_vertex-requires c = (omega arith, omega arith, search rules, search rules, search (filling_take, fill_words), search (filling_room, rules))

pub overflow_add-at : goal.overflow_add-at
overflow_add-at c = search (filling_laws, rules)

pub overflow_add-o : goal.overflow_add-o
overflow_add-o c = search (filling_laws, rules)

pub loop-preserved : goal.loop-preserved
loop-preserved c = search (filling_on, fill_wide, rules)

pub returns : goal.returns
returns c = search (filling_done, fill_laws, rules)
