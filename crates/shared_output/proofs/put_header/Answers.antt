-- `put_header` writes two numbers.
use Rattle.shared_output.proofs.OutputLaws.{header_laws}
use borrow.Author.Rules.{rules}
use Rattle.shared_output.proofs.put_header.Goals as goal

pub put_number-requires : goal.put_number-requires
put_number-requires c = search (header_laws, rules)

pub slice_bounds-put_number-count : goal.slice_bounds-put_number-count
slice_bounds-put_number-count c = search (header_laws, rules)

pub slice_bounds-put_number-start : goal.slice_bounds-put_number-start
slice_bounds-put_number-start c = search (header_laws, rules)

pub slice_bounds-put_number-end : goal.slice_bounds-put_number-end
slice_bounds-put_number-end c = search (header_laws, rules)

pub overflow_cast-size : goal.overflow_cast-size
overflow_cast-size c = search (header_laws, rules)

pub put_number-requires-2 : goal.put_number-requires-2
put_number-requires-2 c = search (header_laws, rules)

pub shape_of-out : goal.shape_of-out
shape_of-out c = search (header_laws, rules)

pub returns : goal.returns
returns c = search (header_laws, rules)
