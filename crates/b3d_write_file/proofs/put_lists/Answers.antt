-- `put_lists` writes the textures, then the brushes.
use Rattle.shared_output.proofs.PartLaws.{both_laws}
use Rattle.b3d_write_file.proofs.FileLaws.{lists_laws}
use borrow.Author.Rules.{rules}
use Rattle.b3d_write_file.proofs.put_lists.Goals as goal

pub put_textures-a-requires : goal.put_textures-a-requires
put_textures-a-requires c = search (both_laws, lists_laws, rules)

pub slice_bounds-put_brushes-count : goal.slice_bounds-put_brushes-count
slice_bounds-put_brushes-count c = search (both_laws, lists_laws, rules)

pub slice_bounds-put_brushes-start : goal.slice_bounds-put_brushes-start
slice_bounds-put_brushes-start c = search (both_laws, lists_laws, rules)

pub put_brushes-b-requires : goal.put_brushes-b-requires
put_brushes-b-requires c = search (both_laws, lists_laws, rules)

pub returns : goal.returns
returns c = search (both_laws, lists_laws, rules)
