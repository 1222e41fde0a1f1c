-- `clear_file` writes the chunks behind the header and the version.
use Rattle.b3d_clear_file.proofs.FileLaws.{file_laws}
use borrow.Author.Rules.{rules}
use Rattle.b3d_clear_file.proofs.clear_file.Goals as goal

pub number_at-version-requires : goal.number_at-version-requires
number_at-version-requires c = search (file_laws, rules)

pub slice_bounds-clear_chunks-count : goal.slice_bounds-clear_chunks-count
slice_bounds-clear_chunks-count c = search (file_laws, rules)

pub slice_bounds-clear_chunks-start : goal.slice_bounds-clear_chunks-start
slice_bounds-clear_chunks-start c = search (file_laws, rules)

pub slice_bounds-clear_chunks-end : goal.slice_bounds-clear_chunks-end
slice_bounds-clear_chunks-end c = search (file_laws, rules)

pub clear_chunks-n-requires : goal.clear_chunks-n-requires
clear_chunks-n-requires c = search (file_laws, rules)

pub put_opening-requires : goal.put_opening-requires
put_opening-requires c = search (file_laws, rules)

pub overflow_add-result : goal.overflow_add-result
overflow_add-result c = search (file_laws, rules)

pub shape_of-out : goal.shape_of-out
shape_of-out c = search (file_laws, rules)

pub returns : goal.returns
returns c = search (file_laws, rules)
