-- `vrts_vertices` counts the vertices of a VRTS.
use Rattle.b3d_label.proofs.VertexLaws.{vrts_cut, vrts_flags, vrts_sets, vrts_size, vrts_all, vrts_bad}
use Rattle.b3d_label.proofs.vrts_vertices.Goals as goal

pub returns-then-end-start-lt12 : goal.returns-then-end-start-lt12
returns-then-end-start-lt12 c = search vrts_cut

pub returns-then-flags-gt-HIGHEST_VERTEX_FLAGS : goal.returns-then-flags-gt-HIGHEST_VERTEX_FLAGS
returns-then-flags-gt-HIGHEST_VERTEX_FLAGS c = search vrts_flags

pub returns-then-sets-gt-MOST_SETS : goal.returns-then-sets-gt-MOST_SETS
returns-then-sets-gt-MOST_SETS c = search vrts_sets

pub returns-then-size-gt-LARGEST_SET : goal.returns-then-size-gt-LARGEST_SET
returns-then-size-gt-LARGEST_SET c = search vrts_size

pub returns-in_default : goal.returns-in_default
returns-in_default c = search vrts_bad

pub returns : goal.returns
returns c = search vrts_all
