-- `write_animation` writes the key lists and then the ANIM.
use Rattle.shared_output.proofs.PartLaws.{both_laws}
use Rattle.b3d_write_animation.proofs.MoveLaws.{moves_laws}
use Rattle.b3d_write_item_lists.specs.Runs.{run_width, runs_bytes}
use borrow.Author.Rules.{rules}
use Rattle.b3d_write_animation.proofs.write_animation.Goals as goal

pub count_lists-count-requires : goal.count_lists-count-requires
unfolding run_width runs_bytes
count_lists-count-requires c = search (both_laws, moves_laws, rules)

pub put_runs-a-requires : goal.put_runs-a-requires
unfolding run_width runs_bytes
put_runs-a-requires c = search (both_laws, moves_laws, rules)

pub overflow_add-row : goal.overflow_add-row
unfolding run_width runs_bytes
overflow_add-row c = search (both_laws, moves_laws, rules)

pub slice_bounds-put_anim-count : goal.slice_bounds-put_anim-count
unfolding run_width runs_bytes
slice_bounds-put_anim-count c = search (both_laws, moves_laws, rules)

pub slice_bounds-put_anim-start : goal.slice_bounds-put_anim-start
unfolding run_width runs_bytes
slice_bounds-put_anim-start c = search (both_laws, moves_laws, rules)

pub slice_bounds-put_anim-end : goal.slice_bounds-put_anim-end
unfolding run_width runs_bytes
slice_bounds-put_anim-end c = search (both_laws, moves_laws, rules)

pub put_anim-b-requires : goal.put_anim-b-requires
unfolding run_width runs_bytes
put_anim-b-requires c = search (both_laws, moves_laws, rules)

pub overflow_add-result : goal.overflow_add-result
unfolding run_width runs_bytes
overflow_add-result c = search (both_laws, moves_laws, rules)

pub shape_of-out : goal.shape_of-out
unfolding run_width runs_bytes
shape_of-out c = search (both_laws, moves_laws, rules)

pub returns : goal.returns
unfolding run_width runs_bytes
returns c = search (both_laws, moves_laws, rules)
