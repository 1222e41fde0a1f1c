-- A node and a list of nodes, which call each other: the levels left fall. The loop's measure is how many rows of nodes are left.
use Rattle.b3d_write_nodes.proofs.NodeLaws.{sum_fits, size_fits, node-fits, node-there, node-room, node-levels, node-falls, node-inside, node-below, node_asks, node_done, count_laws}
use Rattle.b3d_write_nodes.proofs.NodesLaws.{nodes_start, nodes_long, nodes_index, nodes_inside, nodes_below, at-end, at_other, at_first, at_less, at_more}
use borrow.Author.Rules.{rules}
use Rattle.b3d_write_nodes.proofs.+write_node_write_nodes.Goals as goal

pub write_node-slice_bounds-body-count : goal.write_node-slice_bounds-body-count
write_node-slice_bounds-body-count t c = let h = c.requires in search (node-fits, rules)

pub write_node-slice_bounds-body-start : goal.write_node-slice_bounds-body-start
write_node-slice_bounds-body-start t c = let h = c.requires in search (node-fits, rules)

pub write_node-slice_bounds-body-end : goal.write_node-slice_bounds-body-end
write_node-slice_bounds-body-end t c = let h = c.requires in search (node-fits, rules)

pub write_node-write_own_chunks-own-requires : goal.write_node-write_own_chunks-own-requires
write_node-write_own_chunks-own-requires t c = let h = c.requires in search (node-there, node-room, rules)

pub write_node-node_counts-m-requires : goal.write_node-node_counts-m-requires
write_node-node_counts-m-requires t c = let h = c.requires in record { below = search (count_laws, rules); meshes_in_bounds = search (count_laws, rules); below_2 = search (count_laws, rules) }

pub write_node-overflow_sub-l : goal.write_node-overflow_sub-l
write_node-overflow_sub-l t c = let h = c.requires in search (node-levels, rules)

pub write_node-overflow_add-rest : goal.write_node-overflow_add-rest
write_node-overflow_add-rest t c = let h = c.requires in search rules

pub write_node-slice_bounds-rest-count : goal.write_node-slice_bounds-rest-count
write_node-slice_bounds-rest-count t c = let h = c.requires in search (node-inside, rules)

pub write_node-slice_bounds-rest-start : goal.write_node-slice_bounds-rest-start
write_node-slice_bounds-rest-start t c = let h = c.requires in search (node-inside, rules)

pub write_node-slice_bounds-rest-end : goal.write_node-slice_bounds-rest-end
write_node-slice_bounds-rest-end t c = let h = c.requires in search (node-inside, rules)

pub write_node-write_nodes-below-requires : goal.write_node-write_nodes-below-requires
write_node-write_nodes-below-requires t c = let h = c.requires in (search (node-falls, rules), (search rules, search node-below))

pub write_node-overflow_add-long : goal.write_node-overflow_add-long
write_node-overflow_add-long t c = let h = c.requires in search (sum_fits, rules)

pub write_node-put_header-requires : goal.write_node-put_header-requires
write_node-put_header-requires t c = let h = c.requires in node_asks _ _ _ _ _ _ _ _ _ _ h.tables_sized _ _ _ h.writable_first _ _ c.write_own_chunks-own.ensures _ c.node_counts-m.ensures _ _ _ c.write_nodes-below.ensures

pub write_node-overflow_add-size : goal.write_node-overflow_add-size
write_node-overflow_add-size t c = let h = c.requires in search (size_fits, rules)

pub write_node-shape_of-out : goal.write_node-shape_of-out
write_node-shape_of-out t c = let h = c.requires in search rules

pub write_node-returns : goal.write_node-returns
write_node-returns t c = let h = c.requires in node_done _ _ _ _ _ _ _ _ _ _ h.tables_sized _ _ _ h.writable_first _ _ c.write_own_chunks-own.ensures _ c.node_counts-m.ensures _ _ _ c.write_nodes-below.ensures _ c.put_header.ensures

pub write_nodes-loop-m-init : goal.write_nodes-loop-m-init
write_nodes-loop-m-init t c = let h = c.requires in search (nodes_start, rules)

pub write_nodes-overflow_mul-m : goal.write_nodes-overflow_mul-m
write_nodes-overflow_mul-m t c = let h = c.requires in search rules

pub write_nodes-overflow_add-m : goal.write_nodes-overflow_add-m
write_nodes-overflow_add-m t c = let h = c.requires in search rules

pub write_nodes-number-requires : goal.write_nodes-number-requires
write_nodes-number-requires t c = let h = c.requires in search (nodes_index, rules)

pub write_nodes-shape_of-out-then-number-parent : goal.write_nodes-shape_of-out-then-number-parent
write_nodes-shape_of-out-then-number-parent t c = let h = c.requires in search nodes_long

pub write_nodes-returns-then-number-parent : goal.write_nodes-returns-then-number-parent
write_nodes-returns-then-number-parent t c = let h = c.requires in at_other h.tables_sized c.loop-m.invariant (search rules) c.number.ensures.0 (search rules)

pub write_nodes-slice_bounds-rest-count : goal.write_nodes-slice_bounds-rest-count
write_nodes-slice_bounds-rest-count t c = let h = c.requires in search nodes_inside

pub write_nodes-slice_bounds-rest-start : goal.write_nodes-slice_bounds-rest-start
write_nodes-slice_bounds-rest-start t c = let h = c.requires in search (nodes_inside, rules)

pub write_nodes-slice_bounds-rest-end : goal.write_nodes-slice_bounds-rest-end
write_nodes-slice_bounds-rest-end t c = let h = c.requires in search (nodes_inside, rules)

pub write_nodes-write_node-r-requires : goal.write_nodes-write_node-r-requires
write_nodes-write_node-r-requires t c = let h = c.requires in (search rules, (h.tables_sized, at_first h.tables_sized c.loop-m.invariant (search rules) c.number.ensures.0 (search rules)))

pub write_nodes-overflow_add-size : goal.write_nodes-overflow_add-size
write_nodes-overflow_add-size t c = let h = c.requires in search (sum_fits, nodes_below)

pub write_nodes-loop-m-smaller : goal.write_nodes-loop-m-smaller
write_nodes-loop-m-smaller t c = let h = c.requires in at_less h.tables_sized c.loop-m.invariant (search rules) c.number.ensures.0 (search rules) c.write_node-r.ensures

pub write_nodes-loop-m-preserved : goal.write_nodes-loop-m-preserved
write_nodes-loop-m-preserved t c = let h = c.requires in at_more h.tables_sized c.loop-m.invariant (search rules) c.number.ensures.0 (search rules) c.write_node-r.ensures

pub write_nodes-shape_of-out : goal.write_nodes-shape_of-out
write_nodes-shape_of-out t c = let h = c.requires in search nodes_long

pub write_nodes-returns : goal.write_nodes-returns
write_nodes-returns t c = let h = c.requires in at-end h.tables_sized c.loop-m.invariant (search rules)
