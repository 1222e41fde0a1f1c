-- `find_chunks` says where the chunks inside a chunk begin.
use Rattle.b3d_mend_write_scopes.proofs.OpenLaws.{open_laws}
use Rattle.b3d_mend_write_scopes.specs.Shown.{walk_chunk, walk_leaf}
use borrow.Author.Rules.{rules}
use Rattle.b3d_mend_write_scopes.proofs.find_chunks.Goals as goal

pub returns-then-levels-eq0 : goal.returns-then-levels-eq0
returns-then-levels-eq0 c = search (open_laws, rules)

pub enum_told-1 : goal.enum_told-1
enum_told-1 c = search (open_laws, rules)

pub named_row-requires : goal.named_row-requires
named_row-requires c = search (open_laws, rules)

pub enum_told-in-MESH : goal.enum_told-in-MESH
enum_told-in-MESH c = search (open_laws, rules)

pub number-requires : goal.number-requires
number-requires c = search (open_laws, rules)

pub returns-in_default : goal.returns-in_default
unfolding walk_chunk walk_leaf
returns-in_default c = search (open_laws, rules)

pub returns-in_default-named_row : goal.returns-in_default-named_row
returns-in_default-named_row c = search (open_laws, rules)

pub returns-in_default-number : goal.returns-in_default-number
returns-in_default-number c = search (open_laws, rules)

pub returns-in-Some : goal.returns-in-Some
returns-in-Some c = search (open_laws, rules)

pub returns-in-Some-number : goal.returns-in-Some-number
returns-in-Some-number c = search (open_laws, rules)
