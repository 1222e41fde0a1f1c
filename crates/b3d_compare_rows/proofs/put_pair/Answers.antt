-- `put_pair` by its ways.
use borrow.Author.Rules.{rules}
use Rattle.b3d_compare_rows.proofs.PutLaws.{word_laws}
use Rattle.b3d_compare_rows.proofs.put_pair.Goals as goal

pub returns-then-p-q : goal.returns-then-p-q
returns-then-p-q c = search (word_laws, rules)

pub put_unequal-requires : goal.put_unequal-requires
put_unequal-requires c = search (word_laws, rules)

pub shape_of-out : goal.shape_of-out
shape_of-out c = search (word_laws, rules)

pub returns : goal.returns
returns c = search (word_laws, rules)
