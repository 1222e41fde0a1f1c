-- `put_kept` puts or counts what its edit shows.
use Rattle.b3d_mend_write_edits.proofs.EditLaws.{kept_laws}
use borrow.Author.Rules.{rules}
use Rattle.b3d_mend_write_edits.proofs.put_kept.Goals as goal

pub returns-then-report : goal.returns-then-report
returns-then-report c = search (kept_laws, rules)

pub put_copy-requires : goal.put_copy-requires
put_copy-requires c = search (kept_laws, rules)

pub shape_of-out : goal.shape_of-out
shape_of-out c = search (kept_laws, rules)

pub returns : goal.returns
returns c = search (kept_laws, rules)
