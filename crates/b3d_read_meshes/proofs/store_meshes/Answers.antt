-- `store_meshes` goes once over the flat run. Its measure is what is left of the file.
use Prim.Native.Nat.{◌-◌}
use Rattle.b3d_chunk_walk.proofs.TableLaws.{table_small}
use Rattle.b3d_read_meshes.proofs.TableLaws.{meshes, vertices, sets, triangles}
use Rattle.b3d_read_meshes.proofs.MeshLaws.{meshes_body, meshes_fit, meshes_room, meshes_laws}
use borrow.Author.Rules.{rules}
use Rattle.b3d_read_meshes.proofs.store_meshes.Goals as goal

pub returns-then-file-lt12 : goal.returns-then-file-lt12
returns-then-file-lt12 c = (search (table_small meshes, rules), search (table_small vertices, rules), search (table_small sets, rules), search (table_small triangles, rules))

pub loop-chunk-init : goal.loop-chunk-init
loop-chunk-init c = search (meshes_laws, rules)

pub flat_next-requires : goal.flat_next-requires
flat_next-requires c = search (meshes_laws, rules)

pub enum_told-1 : goal.enum_told-1
enum_told-1 c = search (meshes_laws, rules)

pub shape_of-t4-in_default : goal.shape_of-t4-in_default
shape_of-t4-in_default c = search (meshes_laws, rules)

pub shape_of-t5-in_default : goal.shape_of-t5-in_default
shape_of-t5-in_default c = search (meshes_laws, rules)

pub shape_of-t6-in_default : goal.shape_of-t6-in_default
shape_of-t6-in_default c = search (meshes_laws, rules)

pub shape_of-t7-in_default : goal.shape_of-t7-in_default
shape_of-t7-in_default c = search (meshes_laws, rules)

pub returns-in_default : goal.returns-in_default
returns-in_default c = search (meshes_laws, rules)

pub same-requires : goal.same-requires
same-requires c = search (meshes_laws, rules)

pub put_one-m-requires : goal.put_one-m-requires
put_one-m-requires c = let pre = c.requires in let inv = c.loop-chunk.invariant in record { body_at = (search meshes_body, pre.0, search meshes_fit); mesh_room = search meshes_room }

pub same-requires-else-same : goal.same-requires-else-same
same-requires-else-same c = search (meshes_laws, rules)

pub overflow_add-m : goal.overflow_add-m
overflow_add-m c = search (meshes_laws, rules)

pub loop-chunk-smaller-then-same : goal.loop-chunk-smaller-then-same
loop-chunk-smaller-then-same c = search (meshes_laws, rules)

pub loop-chunk-preserved-then-same : goal.loop-chunk-preserved-then-same
loop-chunk-preserved-then-same c = search (meshes_laws, rules)

pub loop-chunk-smaller-then-same-2 : goal.loop-chunk-smaller-then-same-2
loop-chunk-smaller-then-same-2 c = search (meshes_laws, rules)

pub loop-chunk-preserved-then-same-2 : goal.loop-chunk-preserved-then-same-2
loop-chunk-preserved-then-same-2 c = search (meshes_laws, rules)

pub loop-chunk-smaller : goal.loop-chunk-smaller
loop-chunk-smaller c = search (meshes_laws, rules)

pub loop-chunk-preserved : goal.loop-chunk-preserved
loop-chunk-preserved c = search (meshes_laws, rules)
