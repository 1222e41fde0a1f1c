-- `words_of` reads the length from a constant.
use borrow.Author.Rules.{rules}
use Rattle.b3d_compare_rows.proofs.RowLaws.{words_laws}
use Rattle.b3d_compare_rows.proofs.words_of.Goals as goal

pub offset_bounds-k : goal.offset_bounds-k
offset_bounds-k c = search (words_laws, rules)

pub bounds-k : goal.bounds-k
bounds-k c = search (words_laws, rules)

pub returns : goal.returns
returns c = search (words_laws, rules)
