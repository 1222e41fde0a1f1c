-- `write_file` writes textures and brushes, the nodes, and then the head of the file before them.
use Rattle.b3d_write_file.proofs.FileLaws.{file-fits, file-few, file-textures, file-brushes, file-room, file-inside, file-some, file_asks, file-each}
use borrow.Author.Rules.{rules}
use Rattle.b3d_write_file.proofs.write_file.Goals as goal

pub slice_bounds-put_lists-count : goal.slice_bounds-put_lists-count
slice_bounds-put_lists-count c = search (file-fits, rules)

pub slice_bounds-put_lists-start : goal.slice_bounds-put_lists-start
slice_bounds-put_lists-start c = search (file-fits, rules)

pub put_lists-a-requires : goal.put_lists-a-requires
put_lists-a-requires c = record { slots_le_most_slots = (search file-few, search file-textures, search file-brushes); room = search file-room }

pub slice_bounds-rest-count : goal.slice_bounds-rest-count
slice_bounds-rest-count c = search file-inside

pub slice_bounds-rest-start : goal.slice_bounds-rest-start
slice_bounds-rest-start c = search file-inside

pub put_root-b-requires : goal.put_root-b-requires
put_root-b-requires c = record { tables_sized = search rules; some = search file-some }

pub put_opening-requires : goal.put_opening-requires
put_opening-requires c = file_asks _ _ _ _ _ _ _ c.requires.some _ _ c.put_lists-a.ensures _ _ c.put_root-b.ensures

pub returns : goal.returns
returns c = file-each _ _ _ _ _ _ _ c.requires.some _ _ c.put_lists-a.ensures _ _ c.put_root-b.ensures _ c.put_opening.ensures
