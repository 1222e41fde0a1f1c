-- `next` does what its promise says.
use mathlib.Core.Path.{refl}
use Rattle.b3d_pieces_records_loop.proofs.RoundLaws.{turn-pass, turn-ended, turn_byte, turn-take, turn-stepped}
use Rattle.b3d_pieces_records_loop.proofs.rounds.next.Goals as goal

pub pass-y-requires : goal.pass-y-requires
pass-y-requires c = turn-pass _ _ _ c.requires

pub bounds-bytes-at : goal.bounds-bytes-at
bounds-bytes-at c = turn_byte _ _ _ c.requires _ c.pass-y.ensures c.if-at-y.true

pub step-x-requires : goal.step-x-requires
step-x-requires c = (turn-take _ _ _ c.requires _ c.pass-y.ensures c.if-at-y.true _ c.open_of-f.ensures, c.if-at-y.true)

pub returns-then-at-y : goal.returns-then-at-y
returns-then-at-y c = turn-stepped _ _ _ c.requires _ c.pass-y.ensures c.if-at-y.true _ c.open_of-f.ensures _ c.step-x.ensures _ c.record_of-back.ensures _ refl

pub returns : goal.returns
returns c = turn-ended _ _ _ c.requires _ c.pass-y.ensures c.if-at-y.false _ refl
