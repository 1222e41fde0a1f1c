-- `permit_for` says what the rule permits of what was found.
use borrow.Author.Rules.{rules}
use Rattle.b3d_chunk_next_allowed.proofs.PermitLaws.{permits}
use Rattle.b3d_chunk_next_allowed.proofs.permit_for.Goals as goal

pub enum_told-1 : goal.enum_told-1
enum_told-1 c = search (permits, rules)

pub enum_told-in-Done : goal.enum_told-in-Done
enum_told-in-Done c = search (permits, rules)

pub owes-requires : goal.owes-requires
owes-requires c = search (permits, rules)

pub returns-then-owes : goal.returns-then-owes
returns-then-owes c = search (permits, rules)

pub enum_known-found : goal.enum_known-found
enum_known-found c = search (permits, rules)

pub is_permitted-requires : goal.is_permitted-requires
is_permitted-requires c = search (permits, rules)

pub returns-in-Cut : goal.returns-in-Cut
returns-in-Cut c = search (permits, rules)

pub returns-else-owes : goal.returns-else-owes
returns-else-owes c = search (permits, rules)

pub returns-in-Chunk : goal.returns-in-Chunk
returns-in-Chunk c = search (permits, rules)
