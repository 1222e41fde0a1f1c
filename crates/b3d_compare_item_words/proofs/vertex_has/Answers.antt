-- `vertex_has` by its ways.
use Rattle.b3d_compare_item_words.proofs.ColumnLaws.{vertex_laws}
use borrow.Author.Rules.{rules}
use Rattle.b3d_compare_item_words.proofs.vertex_has.Goals as goal

pub returns-then-w-lt3 : goal.returns-then-w-lt3
returns-then-w-lt3 c = search (vertex_laws, rules)

pub returns-then-w-lt6 : goal.returns-then-w-lt6
returns-then-w-lt6 c = search (vertex_laws, rules)

pub returns-then-w-lt10 : goal.returns-then-w-lt10
returns-then-w-lt10 c = search (vertex_laws, rules)

pub returns-then-sets-c : goal.returns-then-sets-c
returns-then-sets-c c = search (vertex_laws, rules)

pub returns : goal.returns
returns c = search (vertex_laws, rules)
