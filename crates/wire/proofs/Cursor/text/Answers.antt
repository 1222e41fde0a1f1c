-- `text` answers what `text_at` finds. The loop has passed bytes that are not zero.
use borrow.Author.Rules.{rules}
use Rattle.wire.proofs.ReadLaws.{reading}
use Rattle.wire.proofs.Cursor.text.Goals as goal

pub loop-at-init : goal.loop-at-init
loop-at-init c = search (reading, rules)

pub returns-then-s-at-eq0 : goal.returns-then-s-at-eq0
returns-then-s-at-eq0 c = search (reading, rules)

pub loop-at-preserved : goal.loop-at-preserved
loop-at-preserved c = search (reading, rules)

pub returns : goal.returns
returns c = search (reading, rules)
