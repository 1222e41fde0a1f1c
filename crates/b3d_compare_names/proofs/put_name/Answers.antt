-- `put_name` by its ways.
use borrow.Author.Rules.{rules}
use Rattle.b3d_compare_names.proofs.NameLaws.{name_laws}
use Rattle.b3d_compare_names.proofs.put_name.Goals as goal

pub enum_told-1 : goal.enum_told-1
enum_told-1 c = search (name_laws, rules)

pub overflow_cast-k : goal.overflow_cast-k
overflow_cast-k c = search (name_laws, rules)

pub put_entry-requires : goal.put_entry-requires
put_entry-requires c = search (name_laws, rules)

pub shape_of-out : goal.shape_of-out
shape_of-out c = search (name_laws, rules)

pub row_names-requires-clause-in_bounds : goal.row_names-requires-clause-in_bounds
row_names-requires-clause-in_bounds c = search (name_laws, rules)

pub row_names-requires-clause-in_bounds_2 : goal.row_names-requires-clause-in_bounds_2
row_names-requires-clause-in_bounds_2 c = search (name_laws, rules)

pub returns-in_default : goal.returns-in_default
returns-in_default c = search (name_laws, rules)

pub returns : goal.returns
returns c = search (name_laws, rules)
