-- `copy_each` goes from chunk to chunk. Its measure is what is left.
use Prim.Native.Nat.{◌-◌}
use Rattle.b3d_clear_copied_chunks.proofs.EachChunkLaws.{each_laws}
use borrow.Author.Rules.{rules}
use Rattle.b3d_clear_copied_chunks.proofs.copy_each.Goals as goal

pub loop-body-init : goal.loop-body-init
loop-body-init c = search (each_laws, rules)

pub seek-requires : goal.seek-requires
seek-requires c = search (each_laws, rules)

pub slice_bounds-copy_chunk-count : goal.slice_bounds-copy_chunk-count
slice_bounds-copy_chunk-count c = search (each_laws, rules)

pub slice_bounds-copy_chunk-start : goal.slice_bounds-copy_chunk-start
slice_bounds-copy_chunk-start c = search (each_laws, rules)

pub slice_bounds-copy_chunk-end : goal.slice_bounds-copy_chunk-end
slice_bounds-copy_chunk-end c = search (each_laws, rules)

pub copy_chunk-m-requires : goal.copy_chunk-m-requires
copy_chunk-m-requires c = search (each_laws, rules)

pub overflow_add-n : goal.overflow_add-n
overflow_add-n c = search (each_laws, rules)

pub loop-body-smaller : goal.loop-body-smaller
loop-body-smaller c = search (each_laws, rules)

pub loop-body-preserved : goal.loop-body-preserved
loop-body-preserved c = search (each_laws, rules)

pub returns-in_default : goal.returns-in_default
returns-in_default c = search (each_laws, rules)
