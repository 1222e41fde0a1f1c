-- `write_mesh` writes the vertices and the triangle sets, and then the head of their chunk.
use mathlib.Core.Path.{refl}
use Rattle.shared_output.proofs.PartLaws.{chunk-fits, two_room, two_inside, two_room_2, two_long, two_small, two_done}
use Rattle.b3d_write_mesh.proofs.BodyLaws.{mesh-begin, mesh-both, mesh-end}
use Rattle.b3d_write_item_lists.specs.Runs.{run_width, runs_bytes}
use borrow.Author.Rules.{rules}
use Rattle.b3d_write_mesh.proofs.write_mesh.Goals as goal

pub overflow_add-brush : goal.overflow_add-brush
unfolding run_width runs_bytes
overflow_add-brush c = search rules

pub offset_bounds-meshes-row : goal.offset_bounds-meshes-row
unfolding run_width runs_bytes
offset_bounds-meshes-row c = search rules

pub bounds-meshes-row : goal.bounds-meshes-row
unfolding run_width runs_bytes
bounds-meshes-row c = search rules

pub overflow_add-row : goal.overflow_add-row
unfolding run_width runs_bytes
overflow_add-row c = search rules

pub number-count-requires : goal.number-count-requires
unfolding run_width runs_bytes
number-count-requires c = search rules

pub overflow_add-row-2 : goal.overflow_add-row-2
unfolding run_width runs_bytes
overflow_add-row-2 c = search rules

pub number-many-requires : goal.number-many-requires
unfolding run_width runs_bytes
number-many-requires c = search rules

pub overflow_add-row-3 : goal.overflow_add-row-3
unfolding run_width runs_bytes
overflow_add-row-3 c = search rules

pub slice_bounds-write_vertices-count : goal.slice_bounds-write_vertices-count
unfolding run_width runs_bytes
slice_bounds-write_vertices-count c = search (chunk-fits, rules)

pub slice_bounds-write_vertices-start : goal.slice_bounds-write_vertices-start
unfolding run_width runs_bytes
slice_bounds-write_vertices-start c = search (chunk-fits, rules)

pub slice_bounds-write_vertices-end : goal.slice_bounds-write_vertices-end
unfolding run_width runs_bytes
slice_bounds-write_vertices-end c = search rules

pub write_vertices-n-requires : goal.write_vertices-n-requires
unfolding run_width runs_bytes
write_vertices-n-requires c = record { from_in_bounds = search rules; n_in_bounds = search rules; room = search (two_room, mesh-begin) }

pub overflow_add-n : goal.overflow_add-n
unfolding run_width runs_bytes
overflow_add-n c = search rules

pub slice_bounds-put_runs-count : goal.slice_bounds-put_runs-count
unfolding run_width runs_bytes
slice_bounds-put_runs-count c = search (two_inside, mesh-begin)

pub slice_bounds-put_runs-start : goal.slice_bounds-put_runs-start
unfolding run_width runs_bytes
slice_bounds-put_runs-start c = search (two_inside, mesh-begin)

pub slice_bounds-put_runs-end : goal.slice_bounds-put_runs-end
unfolding run_width runs_bytes
slice_bounds-put_runs-end c = search rules

pub put_runs-m-requires : goal.put_runs-m-requires
unfolding run_width runs_bytes
put_runs-m-requires c = record { count_in_bounds = search rules; count_in_bounds_2 = search (mesh-end, rules); room = two_room_2 _ _ _ _ 12 c.requires.room refl _ _ _ c.write_vertices-n.ensures _ (mesh-both _ _ _ _ _ _ _ _ _ c.number-count.ensures.0 _ c.number-many.ensures.0) }

pub overflow_add-n-2 : goal.overflow_add-n-2
unfolding run_width runs_bytes
overflow_add-n-2 c = search rules

pub put_opening-requires : goal.put_opening-requires
unfolding run_width runs_bytes
put_opening-requires c = (two_long _ _ _ _ 12 c.requires.room refl _ _ _ c.write_vertices-n.ensures _ (mesh-both _ _ _ _ _ _ _ _ _ c.number-count.ensures.0 _ c.number-many.ensures.0) _ _ c.put_runs-m.ensures, two_small _ _ _ _ 12 c.requires.room refl _ _ _ c.write_vertices-n.ensures _ (mesh-both _ _ _ _ _ _ _ _ _ c.number-count.ensures.0 _ c.number-many.ensures.0) _ _ c.put_runs-m.ensures _ refl)

pub overflow_add-result : goal.overflow_add-result
unfolding run_width runs_bytes
overflow_add-result c = search rules

pub overflow_add-result-2 : goal.overflow_add-result-2
unfolding run_width runs_bytes
overflow_add-result-2 c = search rules

pub shape_of-out : goal.shape_of-out
unfolding run_width runs_bytes
shape_of-out c = search rules

pub returns : goal.returns
unfolding run_width runs_bytes
returns c = two_done _ _ _ _ 12 c.requires.room refl _ _ _ c.write_vertices-n.ensures _ (mesh-both _ _ _ _ _ _ _ _ _ c.number-count.ensures.0 _ c.number-many.ensures.0) _ _ c.put_runs-m.ensures _ c.put_opening.ensures
