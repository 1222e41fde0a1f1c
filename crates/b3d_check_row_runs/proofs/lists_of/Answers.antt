-- `lists_of` stops at the first row that names another node. The loop has passed those before i.
use Rattle.b3d_check_row_runs.proofs.MineLaws.{mine_laws}
use borrow.Author.Rules.{rules}
use Rattle.b3d_check_row_runs.proofs.lists_of.Goals as goal

pub loop-i-init : goal.loop-i-init
loop-i-init c = search (mine_laws, rules)

pub overflow_mul-i : goal.overflow_mul-i
overflow_mul-i c = search (mine_laws, rules)

pub cell-own-requires : goal.cell-own-requires
cell-own-requires c = search (mine_laws, rules)

pub returns-then-not-own-node : goal.returns-then-not-own-node
returns-then-not-own-node c = search (mine_laws, rules)

pub loop-i-preserved : goal.loop-i-preserved
loop-i-preserved c = search (mine_laws, rules)

pub returns : goal.returns
returns c = search (mine_laws, rules)
