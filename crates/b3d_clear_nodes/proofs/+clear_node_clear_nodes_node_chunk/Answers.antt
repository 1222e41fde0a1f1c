-- A node, its chunk and the list of nodes below it, which call each other: the levels left fall. The loop's measure is what is left.
use Prim.Native.Nat.{◌-◌}
use Rattle.b3d_spec.specs.declared.Tag.TheVariants.{NODE}
use Rattle.b3d_spec.specs.Tags.{code}
use Rattle.b3d_clear_copied_chunks.proofs.ChunkLaws.{pair_laws, pair_sum_2, pair_sum_3, pair_asks, pair_done}
use Rattle.b3d_clear_copied_chunks.proofs.EachChunkLaws.{each_laws}
use Rattle.b3d_clear_nodes.proofs.NodeLaws.{node_laws}
use borrow.Author.Rules.{rules}
use Rattle.b3d_clear_nodes.proofs.+clear_node_clear_nodes_node_chunk.Goals as goal

-- clear_node
pub clear_node-returns-then-levels-eq0 : goal.clear_node-returns-then-levels-eq0
clear_node-returns-then-levels-eq0 t c = search (node_laws, rules)

-- clear_node
pub clear_node-named_row-requires : goal.clear_node-named_row-requires
clear_node-named_row-requires t c = search (node_laws, rules)

-- clear_node
pub clear_node-overflow_sub-levels : goal.clear_node-overflow_sub-levels
clear_node-overflow_sub-levels t c = search (node_laws, rules)

-- clear_node
pub clear_node-node_chunk-requires : goal.clear_node-node_chunk-requires
clear_node-node_chunk-requires t c = search (node_laws, rules)

-- clear_node
pub clear_node-shape_of-out : goal.clear_node-shape_of-out
clear_node-shape_of-out t c = search (node_laws, rules)

-- clear_nodes
pub clear_nodes-loop-at-init : goal.clear_nodes-loop-at-init
clear_nodes-loop-at-init t c = search (each_laws, rules)

-- clear_nodes
pub clear_nodes-seek-requires : goal.clear_nodes-seek-requires
clear_nodes-seek-requires t c = search (each_laws, rules)

-- clear_nodes
pub clear_nodes-slice_bounds-clear_node-count : goal.clear_nodes-slice_bounds-clear_node-count
clear_nodes-slice_bounds-clear_node-count t c = search (each_laws, rules)

-- clear_nodes
pub clear_nodes-slice_bounds-clear_node-start : goal.clear_nodes-slice_bounds-clear_node-start
clear_nodes-slice_bounds-clear_node-start t c = search (each_laws, rules)

-- clear_nodes
pub clear_nodes-slice_bounds-clear_node-end : goal.clear_nodes-slice_bounds-clear_node-end
clear_nodes-slice_bounds-clear_node-end t c = search (each_laws, rules)

-- clear_nodes
pub clear_nodes-clear_node-m-requires : goal.clear_nodes-clear_node-m-requires
clear_nodes-clear_node-m-requires t c = search (each_laws, rules)

-- clear_nodes
pub clear_nodes-overflow_add-n : goal.clear_nodes-overflow_add-n
clear_nodes-overflow_add-n t c = search (each_laws, rules)

-- clear_nodes
pub clear_nodes-loop-at-smaller : goal.clear_nodes-loop-at-smaller
clear_nodes-loop-at-smaller t c = search (each_laws, rules)

-- clear_nodes
pub clear_nodes-loop-at-preserved : goal.clear_nodes-loop-at-preserved
clear_nodes-loop-at-preserved t c = search (each_laws, rules)

-- node_chunk
pub node_chunk-slice_bounds-clear_own-count : goal.node_chunk-slice_bounds-clear_own-count
node_chunk-slice_bounds-clear_own-count t c = search (pair_laws, rules)

-- node_chunk
pub node_chunk-slice_bounds-clear_own-start : goal.node_chunk-slice_bounds-clear_own-start
node_chunk-slice_bounds-clear_own-start t c = search (pair_laws, rules)

-- node_chunk
pub node_chunk-slice_bounds-clear_own-end : goal.node_chunk-slice_bounds-clear_own-end
node_chunk-slice_bounds-clear_own-end t c = search (pair_laws, rules)

-- node_chunk
pub node_chunk-clear_own-n-requires : goal.node_chunk-clear_own-n-requires
node_chunk-clear_own-n-requires t c = search (pair_laws, rules)

-- node_chunk
pub node_chunk-overflow_add-behind : goal.node_chunk-overflow_add-behind
node_chunk-overflow_add-behind t c = search (pair_laws, rules)

-- node_chunk
pub node_chunk-slice_bounds-clear_nodes-count : goal.node_chunk-slice_bounds-clear_nodes-count
node_chunk-slice_bounds-clear_nodes-count t c = search (pair_laws, rules)

-- node_chunk
pub node_chunk-slice_bounds-clear_nodes-start : goal.node_chunk-slice_bounds-clear_nodes-start
node_chunk-slice_bounds-clear_nodes-start t c = search (pair_laws, rules)

-- node_chunk
pub node_chunk-slice_bounds-clear_nodes-end : goal.node_chunk-slice_bounds-clear_nodes-end
node_chunk-slice_bounds-clear_nodes-end t c = search (pair_laws, rules)

-- node_chunk
pub node_chunk-clear_nodes-m-requires : goal.node_chunk-clear_nodes-m-requires
node_chunk-clear_nodes-m-requires t c = search (pair_laws, rules)

-- node_chunk
pub node_chunk-overflow_add-n : goal.node_chunk-overflow_add-n
node_chunk-overflow_add-n t c = let second = c in
    let first = second in
    pair_sum_2 (code NODE) _ _ _ first.requires.room _ _ first.clear_own-n.ensures _ _ second.clear_nodes-m.ensures

-- node_chunk
pub node_chunk-put_header-requires : goal.node_chunk-put_header-requires
node_chunk-put_header-requires t c = let second = c in
    let first = second in
    pair_asks (code NODE) _ _ _ first.requires.room _ _ first.clear_own-n.ensures _ _ second.clear_nodes-m.ensures

-- node_chunk
pub node_chunk-overflow_add-result : goal.node_chunk-overflow_add-result
node_chunk-overflow_add-result t c = let second = c in
    let first = second in
    pair_sum_2 (code NODE) _ _ _ first.requires.room _ _ first.clear_own-n.ensures _ _ second.clear_nodes-m.ensures

-- node_chunk
pub node_chunk-overflow_add-result-2 : goal.node_chunk-overflow_add-result-2
node_chunk-overflow_add-result-2 t c = let second = c in
    let first = second in
    pair_sum_3 (code NODE) _ _ _ first.requires.room _ _ first.clear_own-n.ensures _ _ second.clear_nodes-m.ensures

-- node_chunk
pub node_chunk-shape_of-out : goal.node_chunk-shape_of-out
node_chunk-shape_of-out t c = search (pair_laws, rules)

-- node_chunk
pub node_chunk-returns : goal.node_chunk-returns
node_chunk-returns t c = let second = c in
    let first = second in
    pair_done (code NODE) _ _ _ first.requires.room _ _ first.clear_own-n.ensures _ _ second.clear_nodes-m.ensures _ c.put_header.ensures

pub clear_node-returns-in_default : goal.clear_node-returns-in_default
clear_node-returns-in_default t c = search (node_laws, rules)

pub clear_node-returns : goal.clear_node-returns
clear_node-returns t c = search (node_laws, rules)

pub clear_nodes-returns-in_default : goal.clear_nodes-returns-in_default
clear_nodes-returns-in_default t c = search (each_laws, rules)
