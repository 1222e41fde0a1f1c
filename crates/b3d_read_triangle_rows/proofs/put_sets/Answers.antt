-- `put_sets` goes from TRIS to TRIS inside a MESH. Its measure is what is left of it.
use Prim.Native.Nat.{◌-◌}
use Rattle.b3d_read_triangle_rows.proofs.SetLaws.{sets_laws}
use borrow.Author.Rules.{rules}
use Rattle.b3d_read_triangle_rows.proofs.put_sets.Goals as goal

pub first_word-head-requires : goal.first_word-head-requires
first_word-head-requires c = search (sets_laws, rules)

pub loop-b-init : goal.loop-b-init
loop-b-init c = search (sets_laws, rules)

pub seek-requires : goal.seek-requires
seek-requires c = search (sets_laws, rules)

pub shape_of-out-in_default : goal.shape_of-out-in_default
shape_of-out-in_default c = search (sets_laws, rules)

pub returns-in_default : goal.returns-in_default
returns-in_default c = search (sets_laws, rules)

pub store_group-n-requires : goal.store_group-n-requires
store_group-n-requires c = search (sets_laws, rules)

pub overflow_add-n : goal.overflow_add-n
overflow_add-n c = search (sets_laws, rules)

pub overflow_add-o : goal.overflow_add-o
overflow_add-o c = search (sets_laws, rules)

pub loop-b-smaller : goal.loop-b-smaller
loop-b-smaller c = search (sets_laws, rules)

pub loop-b-preserved : goal.loop-b-preserved
loop-b-preserved c = search (sets_laws, rules)
