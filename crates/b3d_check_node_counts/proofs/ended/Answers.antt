-- `ended` compares the counts.
use Rattle.b3d_check_node_counts.specs.Ended.{ended}
use borrow.Author.Rules.{rules}
use Rattle.b3d_check_node_counts.proofs.ended.Goals as goal

pub returns : goal.returns
unfolding ended
returns c = search rules
