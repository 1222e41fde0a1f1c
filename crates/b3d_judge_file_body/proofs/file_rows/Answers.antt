-- `file_rows` adds the rows of a file.
use Rattle.b3d_judge_file_body.proofs.ChunksLaws.{file-rows_laws}
use borrow.Author.Rules.{rules}
use Rattle.b3d_judge_file_body.proofs.file_rows.Goals as goal

pub bytes-requires : goal.bytes-requires
bytes-requires c = search (file-rows_laws, rules)

pub plus-requires : goal.plus-requires
plus-requires c = search (file-rows_laws, rules)

pub plus-requires-2 : goal.plus-requires-2
plus-requires-2 c = search (file-rows_laws, rules)

pub returns : goal.returns
returns c = search (file-rows_laws, rules)
