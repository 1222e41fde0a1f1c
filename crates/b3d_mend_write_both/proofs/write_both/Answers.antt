-- `write_both` walks twice, for the mended file and for the report.
use Rattle.b3d_mend_write_both.proofs.BothLaws.{put_laws}
use borrow.Author.Rules.{rules}
use Rattle.b3d_mend_write_both.proofs.write_both.Goals as goal

pub overflow_sub-size : goal.overflow_sub-size
overflow_sub-size c = search (put_laws, rules)

pub walk_file-requires : goal.walk_file-requires
walk_file-requires c = search (put_laws, rules)

pub overflow_sub-size-2 : goal.overflow_sub-size-2
overflow_sub-size-2 c = search (put_laws, rules)

pub walk_file-requires-2 : goal.walk_file-requires-2
walk_file-requires-2 c = search (put_laws, rules)

pub returns : goal.returns
returns c = search (put_laws, rules)
