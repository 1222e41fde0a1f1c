-- `clear_each` goes from chunk to chunk. Its measure is what is left.
use Prim.Native.Nat.{◌-◌}
use Rattle.b3d_clear_copied_chunks.proofs.EachChunkLaws.{each_laws}
use borrow.Author.Rules.{rules}
use Rattle.b3d_clear_chunks.proofs.clear_each.Goals as goal

pub loop-at-init : goal.loop-at-init
loop-at-init c = search (each_laws, rules)

pub seek-requires : goal.seek-requires
seek-requires c = search (each_laws, rules)

pub slice_bounds-clear_chunk-count : goal.slice_bounds-clear_chunk-count
slice_bounds-clear_chunk-count c = search (each_laws, rules)

pub slice_bounds-clear_chunk-start : goal.slice_bounds-clear_chunk-start
slice_bounds-clear_chunk-start c = search (each_laws, rules)

pub slice_bounds-clear_chunk-end : goal.slice_bounds-clear_chunk-end
slice_bounds-clear_chunk-end c = search (each_laws, rules)

pub clear_chunk-m-requires : goal.clear_chunk-m-requires
clear_chunk-m-requires c = search (each_laws, rules)

pub overflow_add-n : goal.overflow_add-n
overflow_add-n c = search (each_laws, rules)

pub loop-at-smaller : goal.loop-at-smaller
loop-at-smaller c = search (each_laws, rules)

pub loop-at-preserved : goal.loop-at-preserved
loop-at-preserved c = search (each_laws, rules)

pub returns-in_default : goal.returns-in_default
returns-in_default c = search (each_laws, rules)
