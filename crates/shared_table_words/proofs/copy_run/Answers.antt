-- `copy_run` stores words of the file. The loop has stored those before i.
use borrow.Author.Rules.{rules}
use Rattle.shared_table_words.proofs.CopyLaws.{copying}
use Rattle.shared_table_words.proofs.copy_run.Goals as goal

pub loop-i-init : goal.loop-i-init
loop-i-init c = search (copying, rules)

pub loop-i-preserved : goal.loop-i-preserved
loop-i-preserved c = search (copying, rules)

pub returns : goal.returns
returns c = search (copying, rules)
