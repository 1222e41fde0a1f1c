-- `put_two` puts or counts its numbers.
use Rattle.b3d_mend_write_edits.proofs.EditLaws.{two_laws}
use borrow.Author.Rules.{rules}
use Rattle.b3d_mend_write_edits.proofs.put_two.Goals as goal

pub put_grouped-next-requires : goal.put_grouped-next-requires
put_grouped-next-requires c = search (two_laws, rules)

pub put_grouped-requires : goal.put_grouped-requires
put_grouped-requires c = search (two_laws, rules)

pub shape_of-out : goal.shape_of-out
shape_of-out c = search (two_laws, rules)

pub returns : goal.returns
returns c = search (two_laws, rules)
