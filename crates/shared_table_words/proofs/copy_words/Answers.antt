-- `copy_words` stores the words that the cursor has left.
use borrow.Author.Rules.{rules}
use Rattle.shared_table_words.proofs.CopyLaws.{words_left}
use Rattle.shared_table_words.proofs.copy_words.Goals as goal

pub copy_run-requires : goal.copy_run-requires
copy_run-requires c = search (words_left, rules)

pub returns : goal.returns
returns c = search (words_left, rules)
