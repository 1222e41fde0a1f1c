-- `put_entry` puts or counts its numbers.
use Rattle.b3d_mend_write_edits.proofs.EditLaws.{entry_laws}
use borrow.Author.Rules.{rules}
use Rattle.b3d_mend_write_edits.proofs.put_entry.Goals as goal

pub put_two-next-requires : goal.put_two-next-requires
put_two-next-requires c = search (entry_laws, rules)

pub put_two-requires : goal.put_two-requires
put_two-requires c = search (entry_laws, rules)

pub shape_of-out : goal.shape_of-out
shape_of-out c = search (entry_laws, rules)

pub returns : goal.returns
returns c = search (entry_laws, rules)
