-- `store_triangles` goes from TRIS to TRIS inside a MESH. Its measure is what is left of it.
use Prim.Native.Nat.{◌-◌}
use Rattle.b3d_read_triangle_rows.proofs.TriangleLaws.{triangles_laws}
use borrow.Author.Rules.{rules}
use Rattle.b3d_read_triangle_rows.proofs.store_triangles.Goals as goal

pub first_word-head-requires : goal.first_word-head-requires
first_word-head-requires c = search (triangles_laws, rules)

pub loop-b-init : goal.loop-b-init
loop-b-init c = search (triangles_laws, rules)

pub seek-requires : goal.seek-requires
seek-requires c = search (triangles_laws, rules)

pub shape_of-out-in_default : goal.shape_of-out-in_default
shape_of-out-in_default c = search (triangles_laws, rules)

pub returns-in_default : goal.returns-in_default
returns-in_default c = search (triangles_laws, rules)

pub first_word-set-requires : goal.first_word-set-requires
first_word-set-requires c = search (triangles_laws, rules)

pub store_items-o-requires : goal.store_items-o-requires
store_items-o-requires c = search (triangles_laws, rules)

pub loop-b-smaller : goal.loop-b-smaller
loop-b-smaller c = search (triangles_laws, rules)

pub loop-b-preserved : goal.loop-b-preserved
loop-b-preserved c = search (triangles_laws, rules)
