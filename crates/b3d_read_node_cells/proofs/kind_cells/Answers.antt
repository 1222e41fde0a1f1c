-- `kind_cells` passes own chunks until one tells the kind. Its measure is what is left of the file.
use Prim.Native.Nat.{◌-◌}
use Rattle.b3d_read_node_cells.proofs.OwnChunkLaws.{kind_laws}
use borrow.Author.Rules.{rules}
use Rattle.b3d_read_node_cells.proofs.kind_cells.Goals as goal

pub loop-chunk-init : goal.loop-chunk-init
loop-chunk-init c = search (kind_laws, rules)

pub own_next-requires : goal.own_next-requires
own_next-requires c = search (kind_laws, rules)

pub enum_told-1 : goal.enum_told-1
enum_told-1 c = search (kind_laws, rules)

pub returns-in_default : goal.returns-in_default
returns-in_default c = search (kind_laws, rules)

pub same-requires : goal.same-requires
same-requires c = search (kind_laws, rules)

pub cell-requires : goal.cell-requires
cell-requires c = search (kind_laws, rules)

pub returns-then-same : goal.returns-then-same
returns-then-same c = search (kind_laws, rules)

pub same-requires-in-loop-chunk : goal.same-requires-in-loop-chunk
same-requires-in-loop-chunk c = search (kind_laws, rules)

pub overflow_sub-count : goal.overflow_sub-count
overflow_sub-count c = search (kind_laws, rules)

pub cell-requires-then-same-2 : goal.cell-requires-then-same-2
cell-requires-then-same-2 c = search (kind_laws, rules)

pub cell-requires-then-same-2-2 : goal.cell-requires-then-same-2-2
cell-requires-then-same-2-2 c = search (kind_laws, rules)

pub returns-then-same-2 : goal.returns-then-same-2
returns-then-same-2 c = search (kind_laws, rules)

pub loop-chunk-smaller : goal.loop-chunk-smaller
loop-chunk-smaller c = search (kind_laws, rules)

pub loop-chunk-preserved : goal.loop-chunk-preserved
loop-chunk-preserved c = search (kind_laws, rules)
