-- What worked files are computed with: to unfold `computing` is to unfold every definition of the format.
use Rattle.wire.specs.Test.{if}
use Rattle.wire.specs.Bytes.{word, over}
use Rattle.layout.specs.Result.{check}
use Rattle.layout.specs.Parts.{text, words, judged, row, named, items_in, items}
use Rattle.layout.specs.Chunks.{keep, split_in, split, ended}
use Rattle.layout.specs.Write.{write_chunks}
use Rattle.layout.specs.Rows.{each_of, name_cells, joined}
use Rattle.b3d_spec.specs.Tags.{tag_of}
use Rattle.b3d_spec.specs.Rules.{vertex_words, key_words}
use Rattle.b3d_spec.specs.Nesting.{next, onward, order, inside}
use Rattle.b3d_spec.specs.Parse.{read_one, read_texture, read_textures, read_brush, read_brushes, read_vertices, read_triangles, read_sets, read_mesh, read_bone, read_keys, filled, read_anim, a_mesh, a_bone, read_kind, with_keys, read_animation, read_nodes, read_below, read_node, read_root, slots_of, read_body, parse}
use Rattle.b3d_spec.specs.Encode.{write_vertices, write_triangles, write_mesh, write_keys, write_node, node_chunks, write_scene, encode}
use Rattle.b3d_spec.specs.Names.{rename, without_places, cleared}
use Rattle.b3d_spec.specs.Mask.{mask, padded, vertex_has, vertex_mask, key_has, key_mask}
use Rattle.b3d_spec.specs.Tables as tables
use Rattle.b3d_spec.specs.Tables.{width, start, meshes_of, weights_of, texture_row, brush_row, kind_cells, anim_cells, node_row, mesh_row, vertex_rows, set_rows, triangle_rows, list_rows, key_rows, mesh_rows, own_rows, with_meshes, with_node, with_forest, nodes_in, forest_rows, rows, table, node_tables, counts}
use Rattle.b3d_spec.specs.Answers.{judge, read, answer, table_after, read_answer, read_table, room_for, copy, clear, written, output_after, clear_answer, clear_output}

unfoldable pub computing : Unit {0}
unfolding if word over check text words judged row named items_in items keep split_in split ended write_chunks tag_of vertex_words key_words next onward order inside read_one read_texture read_textures read_brush read_brushes read_vertices read_triangles read_sets read_mesh read_bone read_keys filled read_anim a_mesh a_bone read_kind with_keys read_animation read_nodes read_below read_node read_root slots_of read_body parse write_vertices write_triangles write_mesh write_keys write_node node_chunks write_scene encode rename without_places cleared mask padded vertex_has vertex_mask key_has key_mask width start meshes_of weights_of name_cells texture_row brush_row kind_cells anim_cells node_row mesh_row vertex_rows set_rows triangle_rows list_rows key_rows mesh_rows own_rows with_meshes with_node with_forest nodes_in forest_rows rows joined table node_tables tables.tables counts each_of judge read answer table_after read_answer read_table room_for copy clear written output_after clear_answer clear_output
computing = tt
