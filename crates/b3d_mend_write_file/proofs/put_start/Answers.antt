-- `put_start` puts or counts what stands before the chunks of a file.
use Rattle.b3d_mend_write_file.proofs.FileLaws.{start_laws}
use borrow.Author.Rules.{rules}
use Rattle.b3d_mend_write_file.proofs.put_start.Goals as goal

pub overflow_add-long : goal.overflow_add-long
overflow_add-long c = search (start_laws, rules)

pub overflow_cast-long : goal.overflow_cast-long
overflow_cast-long c = search (start_laws, rules)

pub overflow_sub-behind : goal.overflow_sub-behind
overflow_sub-behind c = search (start_laws, rules)

pub number_at-requires : goal.number_at-requires
number_at-requires c = search (start_laws, rules)

pub size-requires : goal.size-requires
size-requires c = search (start_laws, rules)

pub returns-then-size-behind : goal.returns-then-size-behind
returns-then-size-behind c = search (start_laws, rules)

pub put_set-requires : goal.put_set-requires
put_set-requires c = search (start_laws, rules)

pub shape_of-out-then-report : goal.shape_of-out-then-report
shape_of-out-then-report c = search (start_laws, rules)

pub returns-then-report : goal.returns-then-report
returns-then-report c = search (start_laws, rules)

pub number_at-version-requires : goal.number_at-version-requires
number_at-version-requires c = search (start_laws, rules)

pub put_three-requires : goal.put_three-requires
put_three-requires c = search (start_laws, rules)

pub shape_of-out : goal.shape_of-out
shape_of-out c = search (start_laws, rules)

pub returns : goal.returns
returns c = search (start_laws, rules)
