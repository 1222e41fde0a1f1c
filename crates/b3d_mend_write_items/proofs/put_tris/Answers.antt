-- `put_tris` puts or counts a TRIS.
use Rattle.b3d_mend_write_items.proofs.SetPutLaws.{tris_laws, tris_inside, tris_second}
use borrow.Author.Rules.{rules}
use Rattle.b3d_mend_write_items.proofs.put_tris.Goals as goal

pub overflow_sub-end : goal.overflow_sub-end
overflow_sub-end c = search (tris_laws, rules)

pub returns-then-end-from-lt4 : goal.returns-then-end-from-lt4
returns-then-end-from-lt4 c = search (tris_laws, rules)

pub put_id-next-requires : goal.put_id-next-requires
put_id-next-requires c = search (tris_laws, rules)

pub overflow_add-items : goal.overflow_add-items
overflow_add-items c = search (tris_laws, rules)

pub put_items-requires : goal.put_items-requires
put_items-requires c = record { inside = search (tris_inside, rules); file_len_bound = search rules; room_from = search (tris_second, rules) }

pub shape_of-out : goal.shape_of-out
shape_of-out c = search (tris_laws, rules)

pub returns : goal.returns
returns c = search (tris_laws, rules)
