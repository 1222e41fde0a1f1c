-- `put_full` writes so many words, by their number.
use Rattle.shared_output.proofs.PartLaws.{same_laws}
use Rattle.b3d_write_row_runs.proofs.PresentWordLaws.{few_laws}
use borrow.Author.Rules.{rules}
use Rattle.b3d_write_row_runs.proofs.put_full.Goals as goal

pub put_words-requires : goal.put_words-requires
put_words-requires c = search (same_laws, few_laws, rules)

pub shape_of-out-then-n-eq0 : goal.shape_of-out-then-n-eq0
shape_of-out-then-n-eq0 c = search (same_laws, few_laws, rules)

pub returns-then-n-eq0 : goal.returns-then-n-eq0
returns-then-n-eq0 c = search (same_laws, few_laws, rules)

pub put_words-requires-then-n-all : goal.put_words-requires-then-n-all
put_words-requires-then-n-all c = search (same_laws, few_laws, rules)

pub shape_of-out-then-n-all : goal.shape_of-out-then-n-all
shape_of-out-then-n-all c = search (same_laws, few_laws, rules)

pub returns-then-n-all : goal.returns-then-n-all
returns-then-n-all c = search (same_laws, few_laws, rules)

pub put_words-requires-2 : goal.put_words-requires-2
put_words-requires-2 c = search (same_laws, few_laws, rules)

pub shape_of-out : goal.shape_of-out
shape_of-out c = search (same_laws, few_laws, rules)

pub returns : goal.returns
returns c = search (same_laws, few_laws, rules)
