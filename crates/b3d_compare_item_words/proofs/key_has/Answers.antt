-- `key_has` by its ways.
use Rattle.b3d_compare_item_words.proofs.ColumnLaws.{key_laws}
use borrow.Author.Rules.{rules}
use Rattle.b3d_compare_item_words.proofs.key_has.Goals as goal

pub returns-then-w-lt1 : goal.returns-then-w-lt1
returns-then-w-lt1 c = search (key_laws, rules)

pub returns-then-w-lt4 : goal.returns-then-w-lt4
returns-then-w-lt4 c = search (key_laws, rules)

pub returns-then-w-lt7 : goal.returns-then-w-lt7
returns-then-w-lt7 c = search (key_laws, rules)

pub returns : goal.returns
returns c = search (key_laws, rules)
