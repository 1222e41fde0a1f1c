-- `put_named` writes a name and words.
use Rattle.shared_output.proofs.PartLaws.{both_laws}
use Rattle.b3d_write_materials.proofs.NamedRowLaws.{named-parts}
use borrow.Author.Rules.{rules}
use Rattle.b3d_write_materials.proofs.named.put_named.Goals as goal

pub number-place-requires : goal.number-place-requires
number-place-requires c = search (both_laws, named-parts, rules)

pub overflow_add-row : goal.overflow_add-row
overflow_add-row c = search (both_laws, named-parts, rules)

pub number-size-requires : goal.number-size-requires
number-size-requires c = search (both_laws, named-parts, rules)

pub put_text-a-requires : goal.put_text-a-requires
put_text-a-requires c = search (both_laws, named-parts, rules)

pub slice_bounds-put_words-count : goal.slice_bounds-put_words-count
slice_bounds-put_words-count c = search (both_laws, named-parts, rules)

pub slice_bounds-put_words-start : goal.slice_bounds-put_words-start
slice_bounds-put_words-start c = search (both_laws, named-parts, rules)

pub slice_bounds-put_words-end : goal.slice_bounds-put_words-end
slice_bounds-put_words-end c = search (both_laws, named-parts, rules)

pub put_words-b-requires : goal.put_words-b-requires
put_words-b-requires c = search (both_laws, named-parts, rules)

pub overflow_add-result : goal.overflow_add-result
overflow_add-result c = search (both_laws, named-parts, rules)

pub shape_of-out : goal.shape_of-out
shape_of-out c = search (both_laws, named-parts, rules)

pub returns : goal.returns
returns c = search (both_laws, named-parts, rules)
