-- `walk_file` puts or counts a mended file, or its report.
use Rattle.b3d_mend_write_file.proofs.FileLaws.{file_laws}
use borrow.Author.Rules.{rules}
use Rattle.b3d_mend_write_file.proofs.walk_file.Goals as goal

pub put_start-m-requires : goal.put_start-m-requires
put_start-m-requires c = search (file_laws, rules)

pub walk_inside-w-requires : goal.walk_inside-w-requires
walk_inside-w-requires c = search (file_laws, rules)

pub shape_of-out : goal.shape_of-out
shape_of-out c = search (file_laws, rules)

pub returns : goal.returns
returns c = search (file_laws, rules)
