-- `put_word` puts or counts.
use Rattle.shared_put_or_count.proofs.PutLaws.{word_laws}
use borrow.Author.Rules.{rules}
use Rattle.shared_put_or_count.proofs.put_word.Goals as goal

pub slice_bounds-put_number-count : goal.slice_bounds-put_number-count
slice_bounds-put_number-count c = search (word_laws, rules)

pub slice_bounds-put_number-start : goal.slice_bounds-put_number-start
slice_bounds-put_number-start c = search (word_laws, rules)

pub slice_bounds-put_number-end : goal.slice_bounds-put_number-end
slice_bounds-put_number-end c = search (word_laws, rules)

pub put_number-requires : goal.put_number-requires
put_number-requires c = search (word_laws, rules)

pub overflow_add-result : goal.overflow_add-result
overflow_add-result c = search (word_laws, rules)

pub shape_of-out-then-wet : goal.shape_of-out-then-wet
shape_of-out-then-wet c = search (word_laws, rules)

pub returns-then-wet : goal.returns-then-wet
returns-then-wet c = search (word_laws, rules)

pub overflow_add-result-2 : goal.overflow_add-result-2
overflow_add-result-2 c = search (word_laws, rules)

pub returns : goal.returns
returns c = search (word_laws, rules)
