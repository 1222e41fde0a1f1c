-- `one_table` walks the file where there are rows.
use Rattle.b3d_read_table_groups.proofs.EmptyTableLaws.{table_laws}
use borrow.Author.Rules.{rules}
use Rattle.b3d_read_table_groups.proofs.one_table.Goals as goal

pub returns-then-rows-eq0 : goal.returns-then-rows-eq0
returns-then-rows-eq0 c = search (table_laws, rules)

pub fill_textures-requires : goal.fill_textures-requires
fill_textures-requires c = search (table_laws, rules)

pub fill_brushes-requires : goal.fill_brushes-requires
fill_brushes-requires c = search (table_laws, rules)

pub store_nodes-requires : goal.store_nodes-requires
store_nodes-requires c = search (table_laws, rules)

pub shape_of-out-then-k-eq1 : goal.shape_of-out-then-k-eq1
shape_of-out-then-k-eq1 c = search (table_laws, rules)

pub returns-then-k-eq1 : goal.returns-then-k-eq1
returns-then-k-eq1 c = search (table_laws, rules)

pub shape_of-out-then-k-eq2 : goal.shape_of-out-then-k-eq2
shape_of-out-then-k-eq2 c = search (table_laws, rules)

pub returns-then-k-eq2 : goal.returns-then-k-eq2
returns-then-k-eq2 c = search (table_laws, rules)

pub shape_of-out-else-k-eq2 : goal.shape_of-out-else-k-eq2
shape_of-out-else-k-eq2 c = search (table_laws, rules)

pub returns-else-k-eq2 : goal.returns-else-k-eq2
returns-else-k-eq2 c = search (table_laws, rules)
