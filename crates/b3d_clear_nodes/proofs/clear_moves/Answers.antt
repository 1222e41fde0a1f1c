-- `clear_moves` writes two parts, one after the other. Facts that lie far back are named.
use Rattle.b3d_clear_copied_chunks.proofs.ChunkLaws.{join_laws}
use borrow.Author.Rules.{rules}
use Rattle.b3d_clear_nodes.proofs.clear_moves.Goals as goal

pub copy_each-n-requires : goal.copy_each-n-requires
copy_each-n-requires c = search (join_laws, rules)

pub slice_bounds-copy_two-count : goal.slice_bounds-copy_two-count
slice_bounds-copy_two-count c = search (join_laws, rules)

pub slice_bounds-copy_two-start : goal.slice_bounds-copy_two-start
slice_bounds-copy_two-start c = search (join_laws, rules)

pub slice_bounds-copy_two-end : goal.slice_bounds-copy_two-end
slice_bounds-copy_two-end c = search (join_laws, rules)

pub copy_two-m-requires : goal.copy_two-m-requires
copy_two-m-requires c = search (join_laws, rules)

pub overflow_add-result : goal.overflow_add-result
overflow_add-result c = let first = c in let r = first.requires.room in let w = first.copy_each-n.ensures in search (join_laws, rules)

pub shape_of-out : goal.shape_of-out
shape_of-out c = let first = c in let r = first.requires.room in let w = first.copy_each-n.ensures in search (join_laws, rules)

pub returns : goal.returns
returns c = let first = c in let r = first.requires.room in let w = first.copy_each-n.ensures in search (join_laws, rules)
