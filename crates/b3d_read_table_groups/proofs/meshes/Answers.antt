-- `meshes` walks the file where there are meshes.
use Rattle.b3d_read_table_groups.proofs.EmptyTableLaws.{empty_laws}
use borrow.Author.Rules.{rules}
use Rattle.b3d_read_table_groups.proofs.meshes.Goals as goal

pub returns-then-rows-eq0 : goal.returns-then-rows-eq0
returns-then-rows-eq0 c = (search (empty_laws, rules), search (empty_laws, rules), search (empty_laws, rules), search (empty_laws, rules))

pub store_meshes-requires : goal.store_meshes-requires
store_meshes-requires c = search (empty_laws, rules)

pub shape_of-t4 : goal.shape_of-t4
shape_of-t4 c = search (empty_laws, rules)

pub shape_of-t5 : goal.shape_of-t5
shape_of-t5 c = search (empty_laws, rules)

pub shape_of-t6 : goal.shape_of-t6
shape_of-t6 c = search (empty_laws, rules)

pub shape_of-t7 : goal.shape_of-t7
shape_of-t7 c = search (empty_laws, rules)

pub returns : goal.returns
returns c = search (empty_laws, rules)
