-- `write_vertices` writes three words and the vertices, and then the head of their chunk.
use mathlib.Core.Path.{refl}
use Rattle.shared_output.proofs.PartLaws.{chunk-fits, two_room, two_inside, two_room_2, two_long, two_small, two_done}
use Rattle.b3d_write_mesh.proofs.BodyLaws.{vertices-begin, vertices-both}
use borrow.Author.Rules.{rules}
use Rattle.b3d_write_mesh.proofs.write_vertices.Goals as goal

pub slice_bounds-put_words-count : goal.slice_bounds-put_words-count
slice_bounds-put_words-count c = search (chunk-fits, rules)

pub slice_bounds-put_words-start : goal.slice_bounds-put_words-start
slice_bounds-put_words-start c = search (chunk-fits, rules)

pub put_words-a-requires : goal.put_words-a-requires
put_words-a-requires c = record { count_in_bounds = search rules; room = search (two_room, vertices-begin) }

pub slice_bounds-rest-count : goal.slice_bounds-rest-count
slice_bounds-rest-count c = search (two_inside, vertices-begin)

pub slice_bounds-rest-start : goal.slice_bounds-rest-start
slice_bounds-rest-start c = search (two_inside, vertices-begin)

pub put_vertex_rows-b-requires : goal.put_vertex_rows-b-requires
put_vertex_rows-b-requires c = record { count_in_bounds = search rules; room = search (two_room_2, vertices-both) }

pub put_header-requires : goal.put_header-requires
put_header-requires c = (two_long _ _ _ _ 8 c.requires.room refl _ _ _ c.put_words-a.ensures _ (vertices-both _ _ _) _ _ c.put_vertex_rows-b.ensures, two_small _ _ _ _ 8 c.requires.room refl _ _ _ c.put_words-a.ensures _ (vertices-both _ _ _) _ _ c.put_vertex_rows-b.ensures _ refl)

pub returns : goal.returns
returns c = two_done _ _ _ _ 8 c.requires.room refl _ _ _ c.put_words-a.ensures _ (vertices-both _ _ _) _ _ c.put_vertex_rows-b.ensures _ c.put_header.ensures
