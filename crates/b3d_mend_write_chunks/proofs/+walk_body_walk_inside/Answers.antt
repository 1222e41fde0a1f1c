-- The body of a chunk and the chunks inside, which call each other: the levels left fall. The loop's measure is what is left.
use Prim.Native.Nat.{◌-◌}
use native.Mathlib.Omega.{arith}
use Rattle.b3d_mend_write_chunks.proofs.BodyLaws.{body-inside, flat-fits, flat-done, nothing-done, node-levels, node-order, node-room, node-first, mesh-levels, mesh-room, mesh-first, node-less, node-inside, node-second, node_done, mesh-less, mesh-inside, mesh-second, mesh-done}
use Rattle.b3d_mend_write_chunks.proofs.InsideLaws.{going_start, going_inside, going_end, cut_fits, cut_done, whole_order, whole_room, other_fits, other_next, known_small, whole_less, whole_body, known_body, known_head, known_next, walked-order}
use borrow.Author.Rules.{rules}
use Rattle.b3d_mend_write_chunks.proofs.+walk_body_walk_inside.Goals as goal

-- walk_body
pub walk_body-find_chunks-requires : goal.walk_body-find_chunks-requires
walk_body-find_chunks-requires t c = search (body-inside, rules)

-- walk_body
pub walk_body-walk_leaf-requires : goal.walk_body-walk_leaf-requires
walk_body-walk_leaf-requires t c = let found = c in
    let start = found in
    record { body = start.requires.body; room_from = flat-fits _ _ _ _ _ found.find_chunks.ensures _ start.requires.body.0 _ _ _ _ _ c.in-Flat.is start.requires.room_from }

-- walk_body
pub walk_body-overflow_sub-n : goal.walk_body-overflow_sub-n
walk_body-overflow_sub-n t c = let found = c in
    let start = found in
    node-order _ _ _ _ _ found.find_chunks.ensures _ c.in-Node.is

-- walk_body
pub walk_body-put_kept-m-requires : goal.walk_body-put_kept-m-requires
walk_body-put_kept-m-requires t c = let found = c in
    let start = found in
    let e = c.in-Node.is in
    record { count_in_bounds = node-room _ _ _ _ _ found.find_chunks.ensures _ e; room_from = node-first _ _ _ _ _ found.find_chunks.ensures _ e _ start.requires.body.0 _ _ _ _ _ start.requires.room_from }

-- walk_body
pub walk_body-overflow_sub-levels : goal.walk_body-overflow_sub-levels
walk_body-overflow_sub-levels t c = let found = c in
    let start = found in
    node-levels _ _ _ _ _ found.find_chunks.ensures _ c.in-Node.is

-- walk_body
pub walk_body-walk_inside-w-requires : goal.walk_body-walk_inside-w-requires
walk_body-walk_inside-w-requires t c = let found = c in
    let start = found in
    let e = c.in-Node.is in
    let second = node-second _ _ _ _ _ found.find_chunks.ensures _ e _ start.requires.body.0 _ _ _ _ _ start.requires.room_from _ _ c.put_kept-m.ensures _ c.node_scope-k.ensures in
    (node-less _ _ _ _ _ found.find_chunks.ensures _ e _ c.decreases, ((node-inside _ _ _ _ _ found.find_chunks.ensures _ e, start.requires.body.0.small, start.requires.body.1), second))

-- walk_body
pub walk_body-put_id-m-requires : goal.walk_body-put_id-m-requires
walk_body-put_id-m-requires t c = let found = c in
    let start = found in
    let e = c.in-Mesh.is in
    record { from_in_bounds = (mesh-room _ _ _ _ _ found.find_chunks.ensures _ e, omega (arith, start.requires.body.0.small), start.requires.body.1); room_from = mesh-first _ _ _ _ _ found.find_chunks.ensures _ e _ start.requires.body.0 _ _ _ _ _ start.requires.room_from }

-- walk_body
pub walk_body-overflow_sub-levels-in-Mesh : goal.walk_body-overflow_sub-levels-in-Mesh
walk_body-overflow_sub-levels-in-Mesh t c = let found = c in
    let start = found in
    mesh-levels _ _ _ _ _ found.find_chunks.ensures _ c.in-Mesh.is

-- walk_body
pub walk_body-walk_inside-requires : goal.walk_body-walk_inside-requires
walk_body-walk_inside-requires t c = let found = c in
    let start = found in
    let e = c.in-Mesh.is in
    let second = mesh-second _ _ _ _ _ found.find_chunks.ensures _ e _ start.requires.body.0 _ _ _ _ _ start.requires.room_from _ _ c.put_id-m.ensures _ c.mesh_scope-k.ensures in
    (mesh-less _ _ _ _ _ found.find_chunks.ensures _ e _ c.decreases, ((mesh-inside _ _ _ _ _ found.find_chunks.ensures _ e, start.requires.body.0.small, start.requires.body.1), second))

-- walk_body
pub walk_body-shape_of-out-in-Flat : goal.walk_body-shape_of-out-in-Flat
walk_body-shape_of-out-in-Flat t c = search

-- walk_body
pub walk_body-returns-in-Flat : goal.walk_body-returns-in-Flat
walk_body-returns-in-Flat t c = let found = c in
    let start = found in
    flat-done _ _ _ _ _ found.find_chunks.ensures _ start.requires.body.0 _ _ _ _ _ c.in-Flat.is _ _ c.walk_leaf.ensures

-- walk_body
pub walk_body-returns-in-Nothing : goal.walk_body-returns-in-Nothing
walk_body-returns-in-Nothing t c = let found = c in
    let start = found in
    nothing-done _ _ _ _ _ found.find_chunks.ensures _ start.requires.body.0 _ _ _ _ _ c.in-Nothing.is

-- walk_body
pub walk_body-returns-in-Node : goal.walk_body-returns-in-Node
walk_body-returns-in-Node t c = let inside = c in
    let front = inside in
    let scope = front in
    let found = scope in
    let start = found in
    node_done _ _ _ _ _ found.find_chunks.ensures _ found.in-Node.is _ start.requires.body.0 _ _ _ _ _ start.requires.room_from _ _ front.put_kept-m.ensures _ scope.node_scope-k.ensures _ _ (inside.walk_inside-w.ensures)

-- walk_body
pub walk_body-returns-in-Mesh : goal.walk_body-returns-in-Mesh
walk_body-returns-in-Mesh t c = let inside = c in
    let front = inside in
    let scope = front in
    let found = scope in
    let start = found in
    mesh-done _ _ _ _ _ found.find_chunks.ensures _ found.in-Mesh.is _ start.requires.body.0 _ _ _ _ _ start.requires.room_from _ _ front.put_id-m.ensures _ scope.mesh_scope-k.ensures _ _ (inside.walk_inside.ensures)

-- walk_inside
pub walk_inside-loop-out-init : goal.walk_inside-loop-out-init
walk_inside-loop-out-init t c = search (going_start, rules)

-- walk_inside
pub walk_inside-header-requires : goal.walk_inside-header-requires
walk_inside-header-requires t c = search (going_inside, rules)

-- walk_inside
pub walk_inside-returns-in-End : goal.walk_inside-returns-in-End
walk_inside-returns-in-End t c = search (going_end, rules)

-- walk_inside
pub walk_inside-put_rest-n-requires : goal.walk_inside-put_rest-n-requires
walk_inside-put_rest-n-requires t c = search (cut_fits, rules)

-- walk_inside
pub walk_inside-returns-in-Cut : goal.walk_inside-returns-in-Cut
walk_inside-returns-in-Cut t c = search (cut_done, rules)

-- walk_inside
pub walk_inside-overflow_sub-n : goal.walk_inside-overflow_sub-n
walk_inside-overflow_sub-n t c = search (whole_order, rules)

-- walk_inside
pub walk_inside-put_kept-at-requires : goal.walk_inside-put_kept-at-requires
walk_inside-put_kept-at-requires t c = search (whole_room, other_fits, rules)

-- walk_inside
pub walk_inside-loop-out-smaller-in-None : goal.walk_inside-loop-out-smaller-in-None
walk_inside-loop-out-smaller-in-None t c = search (whole_less, rules)

-- walk_inside
pub walk_inside-loop-out-preserved-in-None : goal.walk_inside-loop-out-preserved-in-None
walk_inside-loop-out-preserved-in-None t c = search (other_next, rules)

-- walk_inside
pub walk_inside-walk_body-w-requires : goal.walk_inside-walk_body-w-requires
walk_inside-walk_body-w-requires t c = let body = known_body _ _ _ _ _ _ _ _ _ _ _ _ c.loop-out.invariant _ c.header.ensures _ _ _ c.in-Whole.is _ c.tag_of.ensures _ c.in-Some.is _ c.body_at-m.ensures in
    (omega (arith, c.decreases), ((whole_body _ _ _ _ _ _ _ _ _ _ _ _ c.loop-out.invariant _ c.header.ensures _ _ _ c.in-Whole.is c.requires.inside.1, c.requires.inside.2), body))

-- walk_inside
pub walk_inside-overflow_sub-size : goal.walk_inside-overflow_sub-size
walk_inside-overflow_sub-size t c = search (walked-order, rules)

-- walk_inside
pub walk_inside-put_head-requires : goal.walk_inside-put_head-requires
walk_inside-put_head-requires t c = known_head _ _ _ _ _ _ _ _ _ _ _ _ c.loop-out.invariant _ c.header.ensures _ _ _ c.in-Whole.is _ c.tag_of.ensures _ c.in-Some.is _ c.body_at-m.ensures _ _ c.walk_body-w.ensures

-- walk_inside
pub walk_inside-loop-out-smaller : goal.walk_inside-loop-out-smaller
walk_inside-loop-out-smaller t c = whole_less _ _ _ _ _ _ _ _ _ _ _ _ c.loop-out.invariant _ c.header.ensures _ _ _ c.in-Whole.is

-- walk_inside
pub walk_inside-loop-out-preserved : goal.walk_inside-loop-out-preserved
walk_inside-loop-out-preserved t c = known_next _ _ _ _ _ _ _ _ _ _ _ _ c.loop-out.invariant _ c.header.ensures _ _ _ c.in-Whole.is _ c.tag_of.ensures _ c.in-Some.is _ c.body_at-m.ensures _ _ c.walk_body-w.ensures _ c.put_head.ensures _ c.next_scope-k.ensures
