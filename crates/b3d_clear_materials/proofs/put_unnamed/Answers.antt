-- `put_unnamed` writes a zero and copies the words.
use Rattle.b3d_clear_materials.proofs.ItemLaws.{unnamed_laws}
use borrow.Author.Rules.{rules}
use Rattle.b3d_clear_materials.proofs.put_unnamed.Goals as goal

pub bounds-out-0 : goal.bounds-out-0
bounds-out-0 c = search (unnamed_laws, rules)

pub overflow_mul-words : goal.overflow_mul-words
overflow_mul-words c = search (unnamed_laws, rules)

pub slice_bounds-copy_bytes-count : goal.slice_bounds-copy_bytes-count
slice_bounds-copy_bytes-count c = search (unnamed_laws, rules)

pub slice_bounds-copy_bytes-start : goal.slice_bounds-copy_bytes-start
slice_bounds-copy_bytes-start c = search (unnamed_laws, rules)

pub slice_bounds-copy_bytes-end : goal.slice_bounds-copy_bytes-end
slice_bounds-copy_bytes-end c = search (unnamed_laws, rules)

pub copy_bytes-requires : goal.copy_bytes-requires
copy_bytes-requires c = search (unnamed_laws, rules)

pub overflow_mul-result : goal.overflow_mul-result
overflow_mul-result c = search (unnamed_laws, rules)

pub overflow_add-result : goal.overflow_add-result
overflow_add-result c = search (unnamed_laws, rules)

pub shape_of-out : goal.shape_of-out
shape_of-out c = search (unnamed_laws, rules)

pub returns : goal.returns
returns c = search (unnamed_laws, rules)
