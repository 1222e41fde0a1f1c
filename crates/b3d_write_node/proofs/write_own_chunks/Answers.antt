-- `write_own_chunks` writes the name with the words, then the kind, then what moves.
use Rattle.b3d_write_node.proofs.PartLaws.{own_room, own-inside, own-kind, own-inside_2, own-moves, own-done}
use borrow.Author.Rules.{rules}
use Rattle.b3d_write_node.proofs.write_own_chunks.Goals as goal

pub put_named-a-requires : goal.put_named-a-requires
put_named-a-requires c = record { row_in_bounds = search rules; name_there = search rules; room = own_room _ _ _ _ _ _ _ _ _ _ c.requires.own_there.row _ c.requires.room }

pub slice_bounds-rest-count : goal.slice_bounds-rest-count
slice_bounds-rest-count c = own-inside _ _ _ _ _ _ _ _ _ _ c.requires.own_there.row _ c.requires.room _ _ c.put_named-a.ensures

pub slice_bounds-rest-start : goal.slice_bounds-rest-start
slice_bounds-rest-start c = own-inside _ _ _ _ _ _ _ _ _ _ c.requires.own_there.row _ c.requires.room _ _ c.put_named-a.ensures

pub write_kind-b-requires : goal.write_kind-b-requires
write_kind-b-requires c = record { node_width_in_bounds = search rules; kind_there = search rules; room = own-kind _ _ _ _ _ _ _ _ _ _ c.requires.own_there.row _ c.requires.room _ _ c.put_named-a.ensures }

pub slice_bounds-write_animation-count : goal.slice_bounds-write_animation-count
slice_bounds-write_animation-count c = own-inside_2 _ _ _ _ _ _ _ _ _ _ c.requires.own_there.row _ c.requires.room _ _ c.put_named-a.ensures _ _ c.write_kind-b.ensures

pub slice_bounds-write_animation-start : goal.slice_bounds-write_animation-start
slice_bounds-write_animation-start c = own-inside_2 _ _ _ _ _ _ _ _ _ _ c.requires.own_there.row _ c.requires.room _ _ c.put_named-a.ensures _ _ c.write_kind-b.ensures

pub write_animation-c-requires : goal.write_animation-c-requires
write_animation-c-requires c = record { node_width_in_bounds = search rules; moves_there = search rules; room = own-moves _ _ _ _ _ _ _ _ _ _ c.requires.own_there.row _ c.requires.room _ _ c.put_named-a.ensures _ _ c.write_kind-b.ensures }

pub returns : goal.returns
returns c = own-done _ _ _ _ _ _ _ _ _ _ c.requires.own_there.row _ c.requires.room _ _ c.put_named-a.ensures _ _ c.write_kind-b.ensures _ _ c.write_animation-c.ensures
