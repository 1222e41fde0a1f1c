-- `id_rows` answers where the rows end. The loop has passed whole rows with good ids.
use Rattle.wire.proofs.LeftLaws.{span}
use Rattle.shared_counted_lists.proofs.RowLaws.{Passing}
use Rattle.shared_counted_lists.proofs.id_rows.Given as goal

abbrev pub invariant-loop : goal.invariant-loop
invariant-loop l = Passing l.s l.words l.ids l.limit (span l.initial.at l.end) l.count l.at l.counter
