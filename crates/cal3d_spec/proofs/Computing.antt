-- What worked files are computed with: to unfold `computing` is to unfold every definition of the two formats.
use Rattle.wire.specs.Test.{if}
use Rattle.wire.specs.Bytes.{word, over}
use Rattle.layout.specs.Result.{check}
use Rattle.layout.specs.Parts.{words, judged, row}
use Rattle.layout.specs.Counted.{run, name_of, sized, before, times, at_end}
use Rattle.layout.specs.Rows.{name_cells, joined, each_of}
use Rattle.cal3d_spec.specs.Rules.{named_bones}
use Rattle.cal3d_spec.specs.Skeletons.{parent_of, list_of, read_bone, skeleton_from, skeleton}
use Rattle.cal3d_spec.specs.Meshes.{read_cloth, read_vertex, read_submesh, mesh_from, mesh}
use Rattle.cal3d_spec.specs.Trees.{occurs, listed, ends, stands, standing, trees}
use Rattle.cal3d_spec.specs.Tables.{skeleton_file_width, bone_rows, child_rows, skeleton_rows, mesh_file_width, submesh_rows, vertex_rows, vertices_of, mesh_rows, most_rows}
use Rattle.cal3d_spec.specs.Answers.{limited_skeleton, judge_skeleton, read_skeleton, skeleton_answer, skeleton_table, judge_mesh, read_mesh, mesh_answer, mesh_table}

unfoldable pub computing : Unit {0}
unfolding if word over check words judged row run name_of sized before times at_end name_cells joined each_of most_rows parent_of list_of read_bone skeleton_from skeleton read_cloth read_vertex read_submesh mesh_from named_bones mesh occurs listed ends stands standing trees skeleton_file_width bone_rows child_rows skeleton_rows mesh_file_width submesh_rows vertex_rows vertices_of mesh_rows limited_skeleton judge_skeleton read_skeleton skeleton_answer skeleton_table judge_mesh read_mesh mesh_answer mesh_table
computing = tt
