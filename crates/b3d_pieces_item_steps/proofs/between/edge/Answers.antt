-- `edge` comes to the machine's state, whatever chunks stand around.
use Rattle.b3d_pieces_item_steps.proofs.EdgeLaws.{edge_laws}
use borrow.Author.Rules.{rules}
use Rattle.b3d_pieces_item_steps.proofs.between.edge.Goals as goal

pub returns-then-at-end : goal.returns-then-at-end
returns-then-at-end c = search (edge_laws, rules)

pub returns-then-required_missing : goal.returns-then-required_missing
returns-then-required_missing c = search (edge_laws, rules)

pub returns : goal.returns
returns c = search (edge_laws, rules)
