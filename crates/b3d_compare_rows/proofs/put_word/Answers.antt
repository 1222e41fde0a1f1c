-- `put_word` by its ways.
use borrow.Author.Rules.{rules}
use Rattle.b3d_compare_rows.proofs.PutLaws.{word_laws}
use Rattle.b3d_compare_rows.proofs.put_word.Goals as goal

pub overflow_cast-k : goal.overflow_cast-k
overflow_cast-k c = search (word_laws, rules)

pub overflow_cast-w : goal.overflow_cast-w
overflow_cast-w c = search (word_laws, rules)

pub put_pair-requires : goal.put_pair-requires
put_pair-requires c = search (word_laws, rules)

pub returns : goal.returns
returns c = search (word_laws, rules)
