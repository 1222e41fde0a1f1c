-- `number` answers what `number_at` finds.
use borrow.Author.Rules.{rules}
use Rattle.wire.proofs.ReadLaws.{reading}
use Rattle.wire.proofs.Cursor.number.Goals as goal

pub returns-then-end-at-lt4 : goal.returns-then-end-at-lt4
returns-then-end-at-lt4 c = search (reading, rules)

pub returns : goal.returns
returns c = search (reading, rules)
