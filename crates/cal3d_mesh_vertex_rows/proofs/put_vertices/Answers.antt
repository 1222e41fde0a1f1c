-- `put_vertices` goes from vertex to vertex.
use borrow.Author.Rules.{rules}
use Rattle.cal3d_mesh_vertex_rows.proofs.VerticesLaws.{turns}
use Rattle.cal3d_mesh_vertex_rows.proofs.put_vertices.Goals as goal

pub loop-i-init : goal.loop-i-init
loop-i-init c = search (turns, rules)

pub overflow_add-at : goal.overflow_add-at
overflow_add-at c = search (turns, rules)

pub overflow_mul-head : goal.overflow_mul-head
overflow_mul-head c = search (turns, rules)

pub overflow_add-head : goal.overflow_add-head
overflow_add-head c = search (turns, rules)

pub number_at-stored-requires : goal.number_at-stored-requires
number_at-stored-requires c = search (turns, rules)

pub overflow_add-first : goal.overflow_add-first
overflow_add-first c = search (turns, rules)

pub overflow_mul-first : goal.overflow_mul-first
overflow_mul-first c = search (turns, rules)

pub put_vertex-requires : goal.put_vertex-requires
put_vertex-requires c = record { springs_in_bounds = (search turns, search turns, search turns, search turns); n_value = (search turns, search turns) }

pub put_rows-requires : goal.put_rows-requires
put_rows-requires c = (search turns, search turns)

pub overflow_add-head-in-loop-i : goal.overflow_add-head-in-loop-i
overflow_add-head-in-loop-i c = search (turns, rules)

pub put_rows-requires-in-loop-i : goal.put_rows-requires-in-loop-i
put_rows-requires-in-loop-i c = let inv = c.loop-i.invariant in let more = c.loop-i-test.true in let number = c.number_at-stored.ensures in let size = c.size-n.ensures in (search turns, search turns)

pub pass_vertex-m-requires : goal.pass_vertex-m-requires
pass_vertex-m-requires c = let inv = c.loop-i.invariant in let more = c.loop-i-test.true in let number = c.number_at-stored.ensures in let size = c.size-n.ensures in let small = c.requires.small in (search turns, search turns, search turns)

pub loop-i-preserved : goal.loop-i-preserved
loop-i-preserved c = let inv = c.loop-i.invariant in let more = c.loop-i-test.true in let number = c.number_at-stored.ensures in let size = c.size-n.ensures in let vertex = c.put_vertex.ensures in let maps = c.put_rows.ensures in let influences = c.put_rows-in-loop-i.ensures in let passed = c.pass_vertex-m.ensures in search turns

pub shape_of-vertices : goal.shape_of-vertices
shape_of-vertices c = search turns

pub shape_of-maps : goal.shape_of-maps
shape_of-maps c = search turns

pub shape_of-influences : goal.shape_of-influences
shape_of-influences c = search turns

pub returns : goal.returns
returns c = search turns
