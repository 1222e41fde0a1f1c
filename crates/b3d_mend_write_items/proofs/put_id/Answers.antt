-- `put_id` puts or counts an id.
use Rattle.b3d_mend_write_items.proofs.ItemPutLaws.{id_laws}
use borrow.Author.Rules.{rules}
use Rattle.b3d_mend_write_items.proofs.put_id.Goals as goal

pub number_at-id-requires : goal.number_at-id-requires
number_at-id-requires c = search (id_laws, rules)

pub id_valid-requires : goal.id_valid-requires
id_valid-requires c = search (id_laws, rules)

pub put_kept-requires : goal.put_kept-requires
put_kept-requires c = search (id_laws, rules)

pub shape_of-out-then-id_valid : goal.shape_of-out-then-id_valid
shape_of-out-then-id_valid c = search (id_laws, rules)

pub returns-then-id_valid : goal.returns-then-id_valid
returns-then-id_valid c = search (id_laws, rules)

pub put_set-requires : goal.put_set-requires
put_set-requires c = search (id_laws, rules)

pub shape_of-out : goal.shape_of-out
shape_of-out c = search (id_laws, rules)

pub returns : goal.returns
returns c = search (id_laws, rules)
