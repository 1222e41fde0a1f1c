-- `flat_next` finds the next chunk of the flat run.
use borrow.Author.Rules.{rules}
use Rattle.b3d_chunk_walk.proofs.FlatLaws.{next_laws}
use Rattle.b3d_chunk_walk.proofs.flat_next.Goals as goal

pub enter-requires : goal.enter-requires
enter-requires c = search (next_laws, rules)

pub returns-in-Done : goal.returns-in-Done
returns-in-Done c = search (next_laws, rules)

pub returns-in-Cut : goal.returns-in-Cut
returns-in-Cut c = search (next_laws, rules)

pub returns-else-same : goal.returns-else-same
returns-else-same c = search (next_laws, rules)
