-- `id_rows` answers where the rows end. The loop has passed whole rows with good ids.
use borrow.Author.Rules.{rules}
use Rattle.shared_counted_lists.proofs.RowLaws.{rows}
use Rattle.shared_counted_lists.proofs.id_rows.Goals as goal

pub loop-init : goal.loop-init
loop-init c = search (rows, rules)

pub returns-then-end-at : goal.returns-then-end-at
returns-then-end-at c = search (rows, rules)

pub returns-then-good-ids : goal.returns-then-good-ids
returns-then-good-ids c = search (rows, rules)

pub loop-preserved : goal.loop-preserved
loop-preserved c = search (rows, rules)

pub returns : goal.returns
returns c = search (rows, rules)
