-- `put_same` stores one value again and again. The loop has stored those before i.
use Rattle.shared_table_words.proofs.CopyLaws.{repeating}
use borrow.Author.Rules.{rules}
use Rattle.shared_table_words.proofs.put_same.Goals as goal

pub loop-i-init : goal.loop-i-init
loop-i-init c = search (repeating, rules)

pub loop-i-preserved : goal.loop-i-preserved
loop-i-preserved c = search (repeating, rules)

pub shape_of-out : goal.shape_of-out
shape_of-out c = search (repeating, rules)

pub returns : goal.returns
returns c = search (repeating, rules)
