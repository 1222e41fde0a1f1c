-- `columns` stores the words that are there: those from w on are left.
use Rattle.b3d_compare_item_words.proofs.ColumnLaws.{columns_laws}
use borrow.Author.Rules.{rules}
use Rattle.b3d_compare_item_words.proofs.columns.Goals as goal

pub loop-w-init : goal.loop-w-init
loop-w-init c = search (columns_laws, rules)

pub item_has-requires : goal.item_has-requires
item_has-requires c = search (columns_laws, rules)

pub loop-w-smaller-then-not-item_has : goal.loop-w-smaller-then-not-item_has
loop-w-smaller-then-not-item_has c = search (columns_laws, rules)

pub loop-w-preserved-then-not-item_has : goal.loop-w-preserved-then-not-item_has
loop-w-preserved-then-not-item_has c = search (columns_laws, rules)

pub offset_bounds-out-n : goal.offset_bounds-out-n
offset_bounds-out-n c = search (columns_laws, rules)

pub bounds-out-n : goal.bounds-out-n
bounds-out-n c = search (columns_laws, rules)

pub overflow_add-n : goal.overflow_add-n
overflow_add-n c = search (columns_laws, rules)

pub loop-w-preserved : goal.loop-w-preserved
loop-w-preserved c = search (columns_laws, rules)

pub returns : goal.returns
returns c = search (columns_laws, rules)
