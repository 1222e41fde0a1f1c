-- `enter` goes into a NODE.
use borrow.Author.Rules.{rules}
use Rattle.b3d_chunk_walk.proofs.FlatLaws.{node_laws}
use Rattle.b3d_chunk_walk.proofs.enter.Goals as goal

pub named_row-requires : goal.named_row-requires
named_row-requires c = search (node_laws, rules)

pub returns-in_default : goal.returns-in_default
returns-in_default c = search (node_laws, rules)

pub returns : goal.returns
returns c = search (node_laws, rules)
