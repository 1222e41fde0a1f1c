-- `own_next` finds the next chunk that is no NODE.
use Rattle.b3d_read_node_cells.proofs.OwnChunkLaws.{own_laws}
use borrow.Author.Rules.{rules}
use Rattle.b3d_read_node_cells.proofs.own_next.Goals as goal

pub next_chunk-requires : goal.next_chunk-requires
next_chunk-requires c = search (own_laws, rules)

pub enum_told-1 : goal.enum_told-1
enum_told-1 c = search (own_laws, rules)

pub enum_told-in-Cut : goal.enum_told-in-Cut
enum_told-in-Cut c = search (own_laws, rules)

pub enum_known-tag : goal.enum_known-tag
enum_known-tag c = search (own_laws, rules)

pub same-requires : goal.same-requires
same-requires c = search (own_laws, rules)

pub returns-then-same : goal.returns-then-same
returns-then-same c = search (own_laws, rules)

pub returns-in-Done : goal.returns-in-Done
returns-in-Done c = search (own_laws, rules)

pub returns-in-Cut : goal.returns-in-Cut
returns-in-Cut c = search (own_laws, rules)

pub returns-else-same : goal.returns-else-same
returns-else-same c = search (own_laws, rules)
