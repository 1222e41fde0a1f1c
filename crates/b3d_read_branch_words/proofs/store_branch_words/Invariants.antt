-- `store_branch_words` goes from the last row to the first: those from `node` on have their words.
use Rattle.b3d_read_branch_words.proofs.BranchLaws.{PassLeft}
use Rattle.b3d_read_branch_words.proofs.store_branch_words.Given as goal

abbrev pub invariant-loop-node : goal.invariant-loop-node
invariant-loop-node l = PassLeft l.file l.initial.out l.nodes l.out l.node
