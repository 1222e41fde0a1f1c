-- `columns` stores the words that are there: those from w on are left.
use Rattle.b3d_compare_item_words.proofs.ColumnLaws.{ColumnsLeft}
use Rattle.b3d_compare_item_words.specs.ItemWords.{item_has}
use Rattle.b3d_compare_item_words.proofs.columns.Given as goal

abbrev pub invariant-loop-w : goal.invariant-loop-w
invariant-loop-w l = ColumnsLeft (item_has l.k l.flags l.sets l.size) l.initial.out l.out l.n l.w
