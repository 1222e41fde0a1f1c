-- `put_cells` stores the cells. The loop has stored those before i.
use borrow.Author.Rules.{rules}
use Rattle.shared_table_words.proofs.StoreLaws.{storing}
use Rattle.shared_table_words.proofs.put_cells.Goals as goal

pub loop-i-init : goal.loop-i-init
loop-i-init c = search (storing, rules)

pub loop-i-preserved : goal.loop-i-preserved
loop-i-preserved c = search (storing, rules)

pub returns : goal.returns
returns c = search (storing, rules)
