-- `put_leaf` puts or counts the body of a chunk that holds no chunks.
use Rattle.b3d_mend_write_leaves.proofs.LeafLaws.{leaf_laws}
use borrow.Author.Rules.{rules}
use Rattle.b3d_mend_write_leaves.proofs.put_leaf.Goals as goal

pub enum_told-1 : goal.enum_told-1
enum_told-1 c = search (leaf_laws, rules)

pub put_brus-requires : goal.put_brus-requires
put_brus-requires c = search (leaf_laws, rules)

pub enum_told-in-TRIS : goal.enum_told-in-TRIS
enum_told-in-TRIS c = search (leaf_laws, rules)

pub put_tris-requires : goal.put_tris-requires
put_tris-requires c = search (leaf_laws, rules)

pub enum_told-in-BONE : goal.enum_told-in-BONE
enum_told-in-BONE c = search (leaf_laws, rules)

pub put_bone-requires : goal.put_bone-requires
put_bone-requires c = search (leaf_laws, rules)

pub put_whole-requires : goal.put_whole-requires
put_whole-requires c = search (leaf_laws, c.in_default.not-BRUS, c.in_default.not-TRIS, c.in_default.not-BONE, rules)

pub shape_of-out-in-BRUS : goal.shape_of-out-in-BRUS
shape_of-out-in-BRUS c = search (leaf_laws, rules)

pub returns-in-BRUS : goal.returns-in-BRUS
returns-in-BRUS c = search (leaf_laws, rules)

pub shape_of-out-in-TRIS : goal.shape_of-out-in-TRIS
shape_of-out-in-TRIS c = search (leaf_laws, rules)

pub returns-in-TRIS : goal.returns-in-TRIS
returns-in-TRIS c = search (leaf_laws, rules)

pub shape_of-out-in-BONE : goal.shape_of-out-in-BONE
shape_of-out-in-BONE c = search (leaf_laws, rules)

pub returns-in-BONE : goal.returns-in-BONE
returns-in-BONE c = search (leaf_laws, rules)

pub shape_of-out-in_default : goal.shape_of-out-in_default
shape_of-out-in_default c = search (leaf_laws, rules)

pub returns-in_default : goal.returns-in_default
returns-in_default c = search (leaf_laws, c.in_default.not-BRUS, c.in_default.not-TRIS, c.in_default.not-BONE, rules)
