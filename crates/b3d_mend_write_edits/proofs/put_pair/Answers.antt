-- `put_pair` puts or counts its parts.
use Rattle.b3d_mend_write_edits.proofs.EditLaws.{pair_laws}
use borrow.Author.Rules.{rules}
use Rattle.b3d_mend_write_edits.proofs.put_pair.Goals as goal

pub put_copy-next-requires : goal.put_copy-next-requires
put_copy-next-requires c = search (pair_laws, rules)

pub put_word-requires : goal.put_word-requires
put_word-requires c = search (pair_laws, rules)

pub shape_of-out : goal.shape_of-out
shape_of-out c = search (pair_laws, rules)

pub returns : goal.returns
returns c = search (pair_laws, rules)
