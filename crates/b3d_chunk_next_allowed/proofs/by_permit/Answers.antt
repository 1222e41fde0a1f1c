-- `by_permit` answers what the nesting rule makes of the chunks that are left.
use borrow.Author.Rules.{rules}
use Rattle.b3d_chunk_next_allowed.proofs.PermitLaws.{steps}
use Rattle.b3d_chunk_next_allowed.proofs.by_permit.Goals as goal

pub enum_known-found : goal.enum_known-found
enum_known-found c = search (steps, rules)

pub enum_told-1 : goal.enum_told-1
enum_told-1 c = search (steps, rules)

pub enum_known-found-in-Chunk-1 : goal.enum_known-found-in-Chunk-1
enum_known-found-in-Chunk-1 c = search (steps, rules)

pub enum_known-permit : goal.enum_known-permit
enum_known-permit c = search (steps, rules)

pub returns-in-Cut : goal.returns-in-Cut
returns-in-Cut c = search (steps, rules)

pub returns-in_default : goal.returns-in_default
returns-in_default c = search (steps, rules)

pub returns-in_default-permit : goal.returns-in_default-permit
returns-in_default-permit c = search (steps, rules)

pub returns-in-Some : goal.returns-in-Some
returns-in-Some c = search (steps, rules)

pub returns-in-Some-permit : goal.returns-in-Some-permit
returns-in-Some-permit c = search (steps, rules)
