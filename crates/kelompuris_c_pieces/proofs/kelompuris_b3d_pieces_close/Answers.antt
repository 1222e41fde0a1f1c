-- The records are weighed one after the other; what is answered follows from their weight.
use Rattle.b3d_pieces_records_loop.proofs.WeighRoundLaws.{weigh-first, weigh-next, weigh_less}
use Rattle.b3d_pieces_records_loop.proofs.CloseRoundLaws.{close-last}
use Rattle.kelompuris_c_pieces.proofs.kelompuris_b3d_pieces_close.Goals as goal

pub loop-w-init : goal.loop-w-init
loop-w-init c = weigh-first c.args.state c.args.row.now c.weigh_first-w.result c.weigh_first-w.ensures

pub loop-w-smaller : goal.loop-w-smaller
loop-w-smaller c = weigh_less c.args.state c.args.row.now c.loop-w.w c.loop-w.invariant c.loop-w-test.true c.weigh_next-w.result c.weigh_next-w.ensures

pub loop-w-preserved : goal.loop-w-preserved
loop-w-preserved c = weigh-next c.args.state c.args.row.now c.loop-w.w c.loop-w.invariant c.loop-w-test.true c.weigh_next-w.result c.weigh_next-w.ensures

pub returns : goal.returns
returns c = close-last c.args.state c.args.row.now c.loop-w.w c.loop-w.invariant c.loop-w-test.false c.closed.result c.closed.ensures
