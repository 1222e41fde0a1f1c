-- What worked files are computed with: to unfold `mend_computing` is to unfold every definition of mending.
use Rattle.shared_seven_bit_groups.specs.Groups.{front_in, front, groups, write_numbers}
use Rattle.b3d_spec.proofs.Computing.{computing}
use Rattle.b3d_mend_spec.specs.Edits.{was, becomes, before, after, file_length}
use Rattle.b3d_mend_spec.specs.Pieces.{piece, pieces_in, pieces, chunks_of, wrapped, woven}
use Rattle.b3d_mend_spec.specs.Mend.{mend_word, and_words, mend_words, mend_row, with_name, mend_named, all_hold, stays, mend_item, gathered, mend_items, as_read, one_brush, mend_brush, mend_brushes, mend_triangles, mend_bone, found, mend_one, mend_sets, mesh_of, mend_mesh, mend_kind, with_keys, with_anim, mend_moves, mend_nodes, data_of, mend_node, mend_root, scene_of, mend_body, mend_file}
use Rattle.b3d_mend_spec.specs.Report.{entries, entry_bytes, report_bytes, mending, mend_judged, room_for_both, mend_into}

unfoldable pub mend_computing : Unit {0}
unfolding computing was becomes before after file_length piece pieces_in pieces chunks_of wrapped woven mend_word and_words mend_words mend_row with_name mend_named all_hold stays mend_item gathered mend_items as_read one_brush mend_brush mend_brushes mend_triangles mend_bone found mend_one mend_sets mesh_of mend_mesh mend_kind with_keys with_anim mend_moves mend_nodes data_of mend_node mend_root scene_of mend_body mend_file front_in front groups write_numbers entries entry_bytes report_bytes mending mend_judged room_for_both mend_into
mend_computing = tt
