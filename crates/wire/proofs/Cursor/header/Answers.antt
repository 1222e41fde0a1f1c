-- `header` answers what `header_at` finds.
use borrow.Author.Rules.{rules}
use Rattle.wire.proofs.ReadLaws.{reading}
use Rattle.wire.proofs.Cursor.header.Goals as goal

pub returns-then-end-at : goal.returns-then-end-at
returns-then-end-at c = search (reading, rules)

pub returns-then-end-at-lt8 : goal.returns-then-end-at-lt8
returns-then-end-at-lt8 c = search (reading, rules)

pub returns-then-end-body : goal.returns-then-end-body
returns-then-end-body c = search (reading, rules)

pub returns : goal.returns
returns c = search (reading, rules)
