-- `walk_leaf` puts or counts a chunk that holds no chunks, and says what it counts.
use Rattle.b3d_mend_write_leaves.proofs.LeafLaws.{leaf_walked}
use borrow.Author.Rules.{rules}
use Rattle.b3d_mend_write_leaves.proofs.walk_leaf.Goals as goal

pub count_leaf-count-requires : goal.count_leaf-count-requires
count_leaf-count-requires c = search (leaf_walked, rules)

pub put_leaf-next-requires : goal.put_leaf-next-requires
put_leaf-next-requires c = search (leaf_walked, rules)

pub shape_of-out : goal.shape_of-out
shape_of-out c = search (leaf_walked, rules)

pub returns : goal.returns
returns c = search (leaf_walked, rules)
