-- `fill_mesh` goes from submesh to submesh. Facts that lie far back are named.
use borrow.Author.Rules.{rules}
use Rattle.shared_table_words.proofs.StoreLaws.{part-long}
use Rattle.cal3d_mesh_fill.proofs.FillLaws.{start-head, mesh-start, mesh-done, turn-head, turn-fit, turn_submesh, fits_row, fits_head, turn_vertices, turn-springs_in, turn-springs, turn-faces_in, turn-faces, turn-few, springs-before, faces-before, fits-springs, fits-faces, turn_end, turn_next}
use Rattle.cal3d_mesh_fill.proofs.fill_mesh.Goals as goal

pub number_at-requires : goal.number_at-requires
number_at-requires c = search (start-head, rules)

pub loop-i-init : goal.loop-i-init
loop-i-init c = mesh-start _ _ _ _ _ _ _ c.requires _ c.number_at.ensures _ c.size-count.ensures

pub shape_at-x-requires : goal.shape_at-x-requires
shape_at-x-requires c = let inv = c.loop-i.invariant in let more = c.loop-i-test.true in turn-head _ _ _ _ _ _ _ _ _ _ _ _ _ _ _ _ inv more

pub overflow_mul-i : goal.overflow_mul-i
overflow_mul-i c = let inv = c.loop-i.invariant in let more = c.loop-i-test.true in let small = c.requires.small in fits_row _ _ _ _ _ _ _ _ _ _ _ _ _ _ _ _ inv more small

pub put_submesh-requires : goal.put_submesh-requires
put_submesh-requires c = let inv = c.loop-i.invariant in let more = c.loop-i-test.true in let small = c.requires.small in (turn-head _ _ _ _ _ _ _ _ _ _ _ _ _ _ _ _ inv more, small, turn-fit _ _ _ _ _ _ _ _ _ _ _ _ _ _ _ _ inv more, turn_submesh _ _ _ _ _ _ _ _ _ _ _ _ _ _ _ _ inv more)

pub overflow_add-from : goal.overflow_add-from
overflow_add-from c = let inv = c.loop-i.invariant in let more = c.loop-i-test.true in let small = c.requires.small in fits_head _ _ _ _ _ _ _ _ _ _ _ _ _ _ _ _ inv more small

pub put_vertices-v-requires : goal.put_vertices-v-requires
put_vertices-v-requires c = let inv = c.loop-i.invariant in let more = c.loop-i-test.true in let small = c.requires.small in let shape = c.shape_at-x.ensures in turn_vertices _ _ _ _ _ _ _ _ _ _ _ _ _ _ _ _ inv more _ shape small

pub put_rows-requires : goal.put_rows-requires
put_rows-requires c = let inv = c.loop-i.invariant in let more = c.loop-i-test.true in let shape = c.shape_at-x.ensures in let held = c.put_vertices-v.ensures in (turn-springs_in _ _ _ _ _ _ _ _ _ _ _ _ _ _ _ _ inv more _ shape _ _ _ _ held, turn-springs _ _ _ _ _ _ _ _ _ _ _ _ _ _ _ _ inv more _ shape _ _ _ _ held)

pub overflow_mul-x : goal.overflow_mul-x
overflow_mul-x c = let inv = c.loop-i.invariant in let more = c.loop-i-test.true in let small = c.requires.small in let shape = c.shape_at-x.ensures in let held = c.put_vertices-v.ensures in fits-springs _ _ _ _ _ _ _ _ _ _ _ _ _ _ _ _ inv more _ shape _ _ _ _ held small

pub overflow_add-v : goal.overflow_add-v
overflow_add-v c = let inv = c.loop-i.invariant in let more = c.loop-i-test.true in let small = c.requires.small in let shape = c.shape_at-x.ensures in let held = c.put_vertices-v.ensures in fits-faces _ _ _ _ _ _ _ _ _ _ _ _ _ _ _ _ inv more _ shape _ _ _ _ held small

pub put_rows-requires-in-loop-i : goal.put_rows-requires-in-loop-i
put_rows-requires-in-loop-i c = let inv = c.loop-i.invariant in let more = c.loop-i-test.true in let shape = c.shape_at-x.ensures in let held = c.put_vertices-v.ensures in (turn-faces_in _ _ _ _ _ _ _ _ _ _ _ _ _ _ _ _ inv more _ shape _ _ _ _ held, turn-faces _ _ _ _ _ _ _ _ _ _ _ _ _ _ _ _ inv more _ shape _ _ _ _ held)

pub pass_submesh-m-requires : goal.pass_submesh-m-requires
pass_submesh-m-requires c = let inv = c.loop-i.invariant in let more = c.loop-i-test.true in let small = c.requires.small in let shape = c.shape_at-x.ensures in let held = c.put_vertices-v.ensures in (turn_end _ _ _ _ _ _ _ _ _ _ _ _ _ _ _ _ inv more _ shape _ _ _ _ held small, turn-few _ _ _ _ _ _ _ _ _ _ _ _ _ _ _ _ inv more _ shape _ _ _ _ held, springs-before _ _ _ _ _ _ _ _ _ _ _ _ _ _ _ _ inv more _ shape _ _ _ _ held, faces-before _ _ _ _ _ _ _ _ _ _ _ _ _ _ _ _ inv more _ shape _ _ _ _ held)

pub loop-i-preserved : goal.loop-i-preserved
loop-i-preserved c = let inv = c.loop-i.invariant in let more = c.loop-i-test.true in let shape = c.shape_at-x.ensures in let row = c.put_submesh.ensures in let held = c.put_vertices-v.ensures in let springs = c.put_rows.ensures in let faces = c.put_rows-in-loop-i.ensures in let passed = c.pass_submesh-m.ensures in turn_next _ _ _ _ _ _ _ _ _ _ _ _ _ _ _ _ inv more _ shape _ _ _ _ held _ _ _ _ row springs faces passed

pub shape_of-submeshes : goal.shape_of-submeshes
shape_of-submeshes c = part-long c.loop-i.invariant.part1

pub shape_of-vertices : goal.shape_of-vertices
shape_of-vertices c = part-long c.loop-i.invariant.part2

pub shape_of-maps : goal.shape_of-maps
shape_of-maps c = part-long c.loop-i.invariant.part3

pub shape_of-influences : goal.shape_of-influences
shape_of-influences c = part-long c.loop-i.invariant.part4

pub shape_of-springs : goal.shape_of-springs
shape_of-springs c = part-long c.loop-i.invariant.part5

pub shape_of-faces : goal.shape_of-faces
shape_of-faces c = part-long c.loop-i.invariant.part6

pub returns : goal.returns
returns c = mesh-done _ _ _ _ _ _ _ _ _ _ _ _ _ _ _ _ c.loop-i.invariant c.loop-i-test.false
