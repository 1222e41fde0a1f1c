-- `put_taken` puts or counts what its edit shows.
use Rattle.b3d_mend_write_edits.proofs.EditLaws.{taken_laws}
use borrow.Author.Rules.{rules}
use Rattle.b3d_mend_write_edits.proofs.put_taken.Goals as goal

pub overflow_cast-from : goal.overflow_cast-from
overflow_cast-from c = search (taken_laws, rules)

pub overflow_cast-count : goal.overflow_cast-count
overflow_cast-count c = search (taken_laws, rules)

pub put_entry-m-requires : goal.put_entry-m-requires
put_entry-m-requires c = search (taken_laws, rules)

pub put_copy-requires : goal.put_copy-requires
put_copy-requires c = search (taken_laws, rules)

pub shape_of-out-then-report : goal.shape_of-out-then-report
shape_of-out-then-report c = search (taken_laws, rules)

pub returns-then-report : goal.returns-then-report
returns-then-report c = search (taken_laws, rules)

pub returns : goal.returns
returns c = search (taken_laws, rules)
