-- `put_words` writes word by word. The loop has written i of them.
use Rattle.shared_output.proofs.OutputLaws.{words_laws}
use borrow.Author.Rules.{rules}
use Rattle.shared_output.proofs.put_words.Goals as goal

pub loop-i-init : goal.loop-i-init
loop-i-init c = search (words_laws, rules)

pub slice_bounds-put_number-count : goal.slice_bounds-put_number-count
slice_bounds-put_number-count c = search (words_laws, rules)

pub slice_bounds-put_number-start : goal.slice_bounds-put_number-start
slice_bounds-put_number-start c = search (words_laws, rules)

pub slice_bounds-put_number-end : goal.slice_bounds-put_number-end
slice_bounds-put_number-end c = search (words_laws, rules)

pub overflow_add-first : goal.overflow_add-first
overflow_add-first c = search (words_laws, rules)

pub offset_bounds-words-first : goal.offset_bounds-words-first
offset_bounds-words-first c = search (words_laws, rules)

pub bounds-words-first : goal.bounds-words-first
bounds-words-first c = search (words_laws, rules)

pub put_number-requires : goal.put_number-requires
put_number-requires c = search (words_laws, rules)

pub overflow_add-at : goal.overflow_add-at
overflow_add-at c = search (words_laws, rules)

pub loop-i-preserved : goal.loop-i-preserved
loop-i-preserved c = search (words_laws, rules)

pub shape_of-out : goal.shape_of-out
shape_of-out c = search (words_laws, rules)

pub returns : goal.returns
returns c = search (words_laws, rules)
