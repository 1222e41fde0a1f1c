-- `clear_own` writes two parts, one after the other. Facts that lie far back are named.
use Rattle.b3d_clear_copied_chunks.proofs.ChunkLaws.{join_laws}
use borrow.Author.Rules.{rules}
use Rattle.b3d_clear_nodes.proofs.clear_own.Goals as goal

pub put_unnamed-n-requires : goal.put_unnamed-n-requires
put_unnamed-n-requires c = search (join_laws, rules)

pub slice_bounds-clear_inside-count : goal.slice_bounds-clear_inside-count
slice_bounds-clear_inside-count c = search (join_laws, rules)

pub slice_bounds-clear_inside-start : goal.slice_bounds-clear_inside-start
slice_bounds-clear_inside-start c = search (join_laws, rules)

pub slice_bounds-clear_inside-end : goal.slice_bounds-clear_inside-end
slice_bounds-clear_inside-end c = search (join_laws, rules)

pub clear_inside-m-requires : goal.clear_inside-m-requires
clear_inside-m-requires c = search (join_laws, rules)

pub overflow_add-result : goal.overflow_add-result
overflow_add-result c = let first = c in let r = first.requires.room in let w = first.put_unnamed-n.ensures in search (join_laws, rules)

pub shape_of-out : goal.shape_of-out
shape_of-out c = let first = c in let r = first.requires.room in let w = first.put_unnamed-n.ensures in search (join_laws, rules)

pub returns : goal.returns
returns c = let first = c in let r = first.requires.room in let w = first.put_unnamed-n.ensures in search (join_laws, rules)
