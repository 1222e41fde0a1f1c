-- `sizes_of` walks twice, and writes nothing.
use Rattle.b3d_mend_write_both.proofs.BothLaws.{size_laws}
use borrow.Author.Rules.{rules}
use Rattle.b3d_mend_write_both.proofs.sizes_of.Goals as goal

pub walk_file-size-requires : goal.walk_file-size-requires
walk_file-size-requires c = search (size_laws, rules)

pub overflow_sub-size : goal.overflow_sub-size
overflow_sub-size c = search (size_laws, rules)

pub walk_file-report_size-requires : goal.walk_file-report_size-requires
walk_file-report_size-requires c = search (size_laws, rules)

pub returns : goal.returns
returns c = search (size_laws, rules)
