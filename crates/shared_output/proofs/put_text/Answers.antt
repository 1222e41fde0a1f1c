-- `put_text` copies a text and ends it with a zero.
use Rattle.shared_output.proofs.OutputLaws.{text_laws}
use borrow.Author.Rules.{rules}
use Rattle.shared_output.proofs.put_text.Goals as goal

pub copy_bytes-requires : goal.copy_bytes-requires
copy_bytes-requires c = search (text_laws, rules)

pub bounds-out-size : goal.bounds-out-size
bounds-out-size c = search (text_laws, rules)

pub overflow_add-result : goal.overflow_add-result
overflow_add-result c = search (text_laws, rules)

pub shape_of-out : goal.shape_of-out
shape_of-out c = search (text_laws, rules)

pub returns : goal.returns
returns c = search (text_laws, rules)
