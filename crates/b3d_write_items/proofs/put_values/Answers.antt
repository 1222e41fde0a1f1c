-- `put_values` writes three words and then the head of their chunk.
use Rattle.shared_output.proofs.PartLaws.{chunk_laws}
use borrow.Author.Rules.{rules}
use Rattle.b3d_write_items.proofs.put_values.Goals as goal

pub slice_bounds-put_words-count : goal.slice_bounds-put_words-count
slice_bounds-put_words-count c = search (chunk_laws, rules)

pub slice_bounds-put_words-start : goal.slice_bounds-put_words-start
slice_bounds-put_words-start c = search (chunk_laws, rules)

pub slice_bounds-put_words-end : goal.slice_bounds-put_words-end
slice_bounds-put_words-end c = search (chunk_laws, rules)

pub put_words-n-requires : goal.put_words-n-requires
put_words-n-requires c = search (chunk_laws, rules)

pub put_header-requires : goal.put_header-requires
put_header-requires c = search (chunk_laws, rules)

pub overflow_add-result : goal.overflow_add-result
overflow_add-result c = search (chunk_laws, rules)

pub shape_of-out : goal.shape_of-out
shape_of-out c = search (chunk_laws, rules)

pub returns : goal.returns
returns c = search (chunk_laws, rules)
