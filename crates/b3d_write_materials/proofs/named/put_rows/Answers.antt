-- `put_rows` writes row by row. The loop has written the first i.
use Rattle.b3d_write_materials.proofs.NamedRowLaws.{named_laws}
use borrow.Author.Rules.{rules}
use Rattle.b3d_write_materials.proofs.named.put_rows.Goals as goal

pub loop-i-init : goal.loop-i-init
loop-i-init c = search (named_laws, rules)

pub overflow_mul-row : goal.overflow_mul-row
overflow_mul-row c = search (named_laws, rules)

pub overflow_add-row : goal.overflow_add-row
overflow_add-row c = search (named_laws, rules)

pub slice_bounds-put_named-count : goal.slice_bounds-put_named-count
slice_bounds-put_named-count c = search (named_laws, rules)

pub slice_bounds-put_named-start : goal.slice_bounds-put_named-start
slice_bounds-put_named-start c = search (named_laws, rules)

pub slice_bounds-put_named-end : goal.slice_bounds-put_named-end
slice_bounds-put_named-end c = search (named_laws, rules)

pub put_named-size-requires : goal.put_named-size-requires
put_named-size-requires c = search (named_laws, rules)

pub overflow_add-at : goal.overflow_add-at
overflow_add-at c = search (named_laws, rules)

pub loop-i-preserved : goal.loop-i-preserved
loop-i-preserved c = search (named_laws, rules)

pub shape_of-out : goal.shape_of-out
shape_of-out c = search (named_laws, rules)

pub returns : goal.returns
returns c = search (named_laws, rules)
