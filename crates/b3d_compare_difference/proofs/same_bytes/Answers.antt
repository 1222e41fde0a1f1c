-- `same_bytes` compares one byte a turn: those from i on are left.
use borrow.Author.Rules.{rules}
use Rattle.b3d_compare_difference.proofs.ValueLaws.{bytes_laws}
use Rattle.b3d_compare_difference.proofs.same_bytes.Goals as goal

pub loop-i-init : goal.loop-i-init
loop-i-init c = search (bytes_laws, rules)

pub returns-then-a-p : goal.returns-then-a-p
returns-then-a-p c = search (bytes_laws, rules)

pub loop-i-preserved : goal.loop-i-preserved
loop-i-preserved c = search (bytes_laws, rules)

pub returns : goal.returns
returns c = search (bytes_laws, rules)
