-- `put_opening` writes a header and a number.
use Rattle.shared_output.proofs.OutputLaws.{header_laws}
use borrow.Author.Rules.{rules}
use Rattle.shared_output.proofs.put_opening.Goals as goal

pub overflow_add-size : goal.overflow_add-size
overflow_add-size c = search (header_laws, rules)

pub put_header-requires : goal.put_header-requires
put_header-requires c = search (header_laws, rules)

pub slice_bounds-put_number-count : goal.slice_bounds-put_number-count
slice_bounds-put_number-count c = search (header_laws, rules)

pub slice_bounds-put_number-start : goal.slice_bounds-put_number-start
slice_bounds-put_number-start c = search (header_laws, rules)

pub slice_bounds-put_number-end : goal.slice_bounds-put_number-end
slice_bounds-put_number-end c = search (header_laws, rules)

pub put_number-requires : goal.put_number-requires
put_number-requires c = search (header_laws, rules)

pub shape_of-out : goal.shape_of-out
shape_of-out c = search (header_laws, rules)

pub returns : goal.returns
returns c = search (header_laws, rules)
