-- `moves` walks the file where there are weights or key lists.
use Rattle.b3d_read_table_groups.proofs.EmptyTableLaws.{empty_laws}
use borrow.Author.Rules.{rules}
use Rattle.b3d_read_table_groups.proofs.moves.Goals as goal

pub returns-then-lists-eq0 : goal.returns-then-lists-eq0
returns-then-lists-eq0 c = (search (empty_laws, rules), search (empty_laws, rules), search (empty_laws, rules))

pub store_animation-requires : goal.store_animation-requires
store_animation-requires c = search (empty_laws, rules)

pub shape_of-t8 : goal.shape_of-t8
shape_of-t8 c = search (empty_laws, rules)

pub shape_of-t9 : goal.shape_of-t9
shape_of-t9 c = search (empty_laws, rules)

pub shape_of-t10 : goal.shape_of-t10
shape_of-t10 c = search (empty_laws, rules)

pub returns : goal.returns
returns c = search (empty_laws, rules)
