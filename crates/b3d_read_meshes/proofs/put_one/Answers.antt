-- `put_one` stores the rows of a MESH in each table. Facts that lie far back are named.
use Rattle.b3d_read_meshes.proofs.MeshLaws.{one_laws}
use borrow.Author.Rules.{rules}
use Rattle.b3d_read_meshes.proofs.put_one.Goals as goal

pub overflow_add-meshes : goal.overflow_add-meshes
overflow_add-meshes c = search (one_laws, rules)

pub overflow_add-to4 : goal.overflow_add-to4
overflow_add-to4 c = search (one_laws, rules)

pub current-node-requires : goal.current-node-requires
current-node-requires c = search (one_laws, rules)

pub store_mesh-more-requires : goal.store_mesh-more-requires
store_mesh-more-requires c = search (one_laws, rules)

pub overflow_add-vertices : goal.overflow_add-vertices
overflow_add-vertices c = let pre = c.requires in let body = pre.body_at.0 in let small = pre.body_at.1 in let fit = pre.body_at.2 in let room = pre.mesh_room in let node = c.current-node.ensures in let mesh = c.store_mesh-more.ensures in search (one_laws, rules)

pub overflow_add-sets : goal.overflow_add-sets
overflow_add-sets c = let pre = c.requires in let body = pre.body_at.0 in let small = pre.body_at.1 in let fit = pre.body_at.2 in let room = pre.mesh_room in let node = c.current-node.ensures in let mesh = c.store_mesh-more.ensures in search (one_laws, rules)

pub store_vertices-to5-requires : goal.store_vertices-to5-requires
store_vertices-to5-requires c = let pre = c.requires in let body = pre.body_at.0 in let small = pre.body_at.1 in let fit = pre.body_at.2 in let room = pre.mesh_room in (body, search one_laws)

pub store_triangles-to7-requires : goal.store_triangles-to7-requires
store_triangles-to7-requires c = let pre = c.requires in let body = pre.body_at.0 in let small = pre.body_at.1 in let fit = pre.body_at.2 in let room = pre.mesh_room in (body, search one_laws)

pub put_sets-after-requires : goal.put_sets-after-requires
put_sets-after-requires c = let pre = c.requires in let body = pre.body_at.0 in let small = pre.body_at.1 in let fit = pre.body_at.2 in let room = pre.mesh_room in (body, small, search one_laws, search one_laws, search one_laws, search one_laws)

pub shape_of-t4 : goal.shape_of-t4
shape_of-t4 c = search

pub shape_of-t5 : goal.shape_of-t5
shape_of-t5 c = search

pub shape_of-t6 : goal.shape_of-t6
shape_of-t6 c = search

pub shape_of-t7 : goal.shape_of-t7
shape_of-t7 c = search

pub returns : goal.returns
returns c = let pre = c.requires in let body = pre.body_at.0 in let small = pre.body_at.1 in let fit = pre.body_at.2 in let room = pre.mesh_room in let node = c.current-node.ensures in let mesh = c.store_mesh-more.ensures in let five = c.store_vertices-to5.ensures in let seven = c.store_triangles-to7.ensures in let six = c.put_sets-after.ensures in search one_laws
