-- `nodes_before` counts NODEs until one begins at the end or behind it. Its measure is what is left of the file.
use Prim.Native.Nat.{◌-◌}
use Rattle.b3d_read_node_branch.proofs.Laws.{before_laws}
use borrow.Author.Rules.{rules}
use Rattle.b3d_read_node_branch.proofs.nodes_before.Goals as goal

pub loop-chunk-init : goal.loop-chunk-init
loop-chunk-init c = search (before_laws, rules)

pub flat_next-requires : goal.flat_next-requires
flat_next-requires c = search (before_laws, rules)

pub enum_told-1 : goal.enum_told-1
enum_told-1 c = search (before_laws, rules)

pub returns-in_default : goal.returns-in_default
returns-in_default c = search (before_laws, rules)

pub same-requires : goal.same-requires
same-requires c = search (before_laws, rules)

pub overflow_add-count : goal.overflow_add-count
overflow_add-count c = search (before_laws, rules)

pub loop-chunk-smaller : goal.loop-chunk-smaller
loop-chunk-smaller c = search (before_laws, rules)

pub loop-chunk-preserved : goal.loop-chunk-preserved
loop-chunk-preserved c = search (before_laws, rules)

pub returns-then-end-chunk : goal.returns-then-end-chunk
returns-then-end-chunk c = search (before_laws, rules)

pub loop-chunk-preserved-else-end-chunk : goal.loop-chunk-preserved-else-end-chunk
loop-chunk-preserved-else-end-chunk c = search (before_laws, rules)
