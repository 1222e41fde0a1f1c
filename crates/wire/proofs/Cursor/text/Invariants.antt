-- `text` answers what `text_at` finds. The loop has passed bytes that are not zero.
use Rattle.wire.proofs.ReadLaws.{Passed}
use Rattle.wire.proofs.Cursor.text.Given as goal

abbrev pub invariant-loop-at : goal.invariant-loop-at
invariant-loop-at l = Passed l.s (record { at = l.start; end = l.end }) l.at
