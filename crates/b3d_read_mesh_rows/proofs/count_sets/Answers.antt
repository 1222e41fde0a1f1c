-- `count_sets` goes from TRIS to TRIS. Its measure is what is left.
use Prim.Native.Nat.{◌-◌}
use Rattle.b3d_read_mesh_rows.proofs.MeshLaws.{count_laws}
use borrow.Author.Rules.{rules}
use Rattle.b3d_read_mesh_rows.proofs.count_sets.Goals as goal

pub loop-next-init : goal.loop-next-init
loop-next-init c = search (count_laws, rules)

pub seek-requires : goal.seek-requires
seek-requires c = search (count_laws, rules)

pub returns-in_default : goal.returns-in_default
returns-in_default c = search (count_laws, rules)

pub overflow_add-n : goal.overflow_add-n
overflow_add-n c = search (count_laws, rules)

pub loop-next-smaller : goal.loop-next-smaller
loop-next-smaller c = search (count_laws, rules)

pub loop-next-preserved : goal.loop-next-preserved
loop-next-preserved c = search (count_laws, rules)
