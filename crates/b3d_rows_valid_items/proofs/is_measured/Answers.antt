-- `is_measured` goes by the table.
use Rattle.b3d_rows_valid_items.proofs.ItemTestLaws.{words_laws}
use borrow.Author.Rules.{rules}
use Rattle.b3d_rows_valid_items.proofs.is_measured.Goals as goal

pub returns-then-k-eq5 : goal.returns-then-k-eq5
returns-then-k-eq5 c = search (words_laws, rules)

pub returns-then-i-key_words : goal.returns-then-i-key_words
returns-then-i-key_words c = search (words_laws, rules)

pub returns-then-i-ne3 : goal.returns-then-i-ne3
returns-then-i-ne3 c = search (words_laws, rules)

pub returns-then-i-ne2 : goal.returns-then-i-ne2
returns-then-i-ne2 c = search (words_laws, rules)
