-- `clear_inside` writes two parts, one after the other. Facts that lie far back are named.
use Rattle.b3d_clear_copied_chunks.proofs.ChunkLaws.{join_laws}
use borrow.Author.Rules.{rules}
use Rattle.b3d_clear_nodes.proofs.clear_inside.Goals as goal

pub clear_each-n-requires : goal.clear_each-n-requires
clear_each-n-requires c = search (join_laws, rules)

pub slice_bounds-clear_moves-count : goal.slice_bounds-clear_moves-count
slice_bounds-clear_moves-count c = search (join_laws, rules)

pub slice_bounds-clear_moves-start : goal.slice_bounds-clear_moves-start
slice_bounds-clear_moves-start c = search (join_laws, rules)

pub slice_bounds-clear_moves-end : goal.slice_bounds-clear_moves-end
slice_bounds-clear_moves-end c = search (join_laws, rules)

pub clear_moves-m-requires : goal.clear_moves-m-requires
clear_moves-m-requires c = search (join_laws, rules)

pub overflow_add-result : goal.overflow_add-result
overflow_add-result c = let first = c in let r = first.requires.room in let w = first.clear_each-n.ensures in search (join_laws, rules)

pub shape_of-out : goal.shape_of-out
shape_of-out c = let first = c in let r = first.requires.room in let w = first.clear_each-n.ensures in search (join_laws, rules)

pub returns : goal.returns
returns c = let first = c in let r = first.requires.room in let w = first.clear_each-n.ensures in search (join_laws, rules)
