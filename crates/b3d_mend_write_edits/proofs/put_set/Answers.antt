-- `put_set` puts or counts its parts.
use Rattle.b3d_mend_write_edits.proofs.EditLaws.{set_laws}
use borrow.Author.Rules.{rules}
use Rattle.b3d_mend_write_edits.proofs.put_set.Goals as goal

pub overflow_cast-from : goal.overflow_cast-from
overflow_cast-from c = search (set_laws, rules)

pub put_entry-m-requires : goal.put_entry-m-requires
put_entry-m-requires c = search (set_laws, rules)

pub put_pair-requires : goal.put_pair-requires
put_pair-requires c = search (set_laws, rules)

pub shape_of-out-then-report : goal.shape_of-out-then-report
shape_of-out-then-report c = search (set_laws, rules)

pub returns-then-report : goal.returns-then-report
returns-then-report c = search (set_laws, rules)

pub put_word-requires : goal.put_word-requires
put_word-requires c = search (set_laws, rules)

pub shape_of-out : goal.shape_of-out
shape_of-out c = search (set_laws, rules)

pub returns : goal.returns
returns c = search (set_laws, rules)
