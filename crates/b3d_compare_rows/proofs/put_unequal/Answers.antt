-- `put_unequal` by its ways.
use borrow.Author.Rules.{rules}
use Rattle.b3d_compare_rows.proofs.PutLaws.{word_laws}
use Rattle.b3d_compare_rows.proofs.put_unequal.Goals as goal

pub numbers-d-requires : goal.numbers-d-requires
numbers-d-requires c = search (word_laws, rules)

pub put_entry-requires : goal.put_entry-requires
put_entry-requires c = search (word_laws, rules)

pub shape_of-out : goal.shape_of-out
shape_of-out c = search (word_laws, rules)

pub returns : goal.returns
returns c = search (word_laws, rules)
