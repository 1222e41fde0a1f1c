-- `is_full` counts the nodes that are open.
use Rattle.b3d_rows_nodes.proofs.NextNodeLaws.{full_laws}
use borrow.Author.Rules.{rules}
use Rattle.b3d_rows_nodes.proofs.is_full.Goals as goal

pub close-d-requires : goal.close-d-requires
close-d-requires c = search (full_laws, rules)

pub returns-then-d-ge-LEVELS : goal.returns-then-d-ge-LEVELS
returns-then-d-ge-LEVELS c = search (full_laws, rules)

pub returns : goal.returns
returns c = search (full_laws, rules)
