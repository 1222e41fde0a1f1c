-- The records are weighed one after the other; then what can be is taken at once, and the rest in rounds.
use native.Mathlib.Omega.{arith}
use Rattle.b3d_pieces_records_loop.proofs.WeighRoundLaws.{weigh-first, weigh-next, weigh_less}
use Rattle.b3d_pieces_records_loop.proofs.PieceRoundLaws.{once-done, inv_first, inv_get, inv-room, inv_ready, inv_put, inv_less, inv_next, inv_last}
use Rattle.kelompuris_c_pieces.proofs.kelompuris_b3d_pieces_piece.Goals as goal

pub loop-w-init : goal.loop-w-init
loop-w-init c = weigh-first c.args.state c.args.row.now c.weigh_first-w.result c.weigh_first-w.ensures

pub loop-w-smaller : goal.loop-w-smaller
loop-w-smaller c = weigh_less c.args.state c.args.row.now c.loop-w.w c.loop-w.invariant c.loop-w-test.true c.weigh_next-w.result c.weigh_next-w.ensures

pub loop-w-preserved : goal.loop-w-preserved
loop-w-preserved c = weigh-next c.args.state c.args.row.now c.loop-w.w c.loop-w.invariant c.loop-w-test.true c.weigh_next-w.result c.weigh_next-w.ensures

pub returns-then-x : goal.returns-then-x
returns-then-x c = once-done c.args.state c.args.row.now c.args.bytes.now c.loop-w.w c.loop-w.invariant c.loop-w-test.false c.at_once-x.result c.at_once-x.ensures c.if-x.true

pub loop-t-init : goal.loop-t-init
loop-t-init c = inv_first c.args.state c.args.row.now c.args.bytes.now c.loop-w.w c.loop-w.invariant c.loop-w-test.false c.at_once-x.result c.at_once-x.ensures c.if-x.false c.first-t.result c.first-t.ensures

pub offset_bounds-row-t : goal.offset_bounds-row-t
offset_bounds-row-t c = let get = inv_get c.args.state c.args.row.now c.args.bytes.now c.loop-t.t c.loop-t.row c.loop-t.invariant c.loop-t-test.true in omega arith

pub slice_copy_out-next : goal.slice_copy_out-next
slice_copy_out-next c =
    let get = inv_get c.args.state c.args.row.now c.args.bytes.now c.loop-t.t c.loop-t.row c.loop-t.invariant c.loop-t-test.true in
    let room = inv-room c.args.state c.args.row.now c.args.bytes.now c.loop-t.t c.loop-t.row c.loop-t.invariant c.loop-t-test.true in
    omega arith

pub next-t-requires : goal.next-t-requires
next-t-requires c = inv_ready c.args.state c.args.row.now c.args.bytes.now c.loop-t.t c.loop-t.row c.loop-t.invariant c.loop-t-test.true

pub offset_bounds-row-t-in-loop-t : goal.offset_bounds-row-t-in-loop-t
offset_bounds-row-t-in-loop-t c =
    let put = inv_put c.args.state c.args.row.now c.args.bytes.now c.loop-t.t c.loop-t.row c.loop-t.invariant c.loop-t-test.true c.next-t.result c.next-t.ensures in
    omega arith

pub bounds-row-t : goal.bounds-row-t
bounds-row-t c =
    let put = inv_put c.args.state c.args.row.now c.args.bytes.now c.loop-t.t c.loop-t.row c.loop-t.invariant c.loop-t-test.true c.next-t.result c.next-t.ensures in
    let room = inv-room c.args.state c.args.row.now c.args.bytes.now c.loop-t.t c.loop-t.row c.loop-t.invariant c.loop-t-test.true in
    omega arith

pub loop-t-smaller : goal.loop-t-smaller
loop-t-smaller c = inv_less c.args.state c.args.row.now c.args.bytes.now c.loop-t.t c.loop-t.row c.loop-t.invariant c.loop-t-test.true c.next-t.result c.next-t.ensures

pub loop-t-preserved : goal.loop-t-preserved
loop-t-preserved c = inv_next c.args.state c.args.row.now c.args.bytes.now c.loop-t.t c.loop-t.row c.loop-t.invariant c.loop-t-test.true c.next-t.result c.next-t.ensures

pub returns : goal.returns
returns c = inv_last c.args.state c.args.row.now c.args.bytes.now c.loop-t.t c.loop-t.row c.loop-t.invariant c.loop-t-test.false c.last.result c.last.ensures
