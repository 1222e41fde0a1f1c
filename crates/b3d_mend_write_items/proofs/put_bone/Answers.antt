-- `put_bone` puts or counts the weights of a BONE.
use Rattle.b3d_mend_write_items.proofs.SetPutLaws.{bone_laws, bone-fits}
use borrow.Author.Rules.{rules}
use Rattle.b3d_mend_write_items.proofs.put_bone.Goals as goal

pub put_items-requires : goal.put_items-requires
put_items-requires c = record { inside = search rules; file_len_bound = search rules; room_from = search (bone-fits, rules) }

pub shape_of-out : goal.shape_of-out
shape_of-out c = search (bone_laws, rules)

pub returns : goal.returns
returns c = search (bone_laws, rules)
