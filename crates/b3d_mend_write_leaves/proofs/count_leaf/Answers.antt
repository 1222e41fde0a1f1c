-- `count_leaf` counts what the definition counts.
use Rattle.b3d_mend_write_leaves.proofs.LeafLaws.{count_laws}
use Rattle.b3d_mend_write_scopes.specs.Shown.{walk_leaf}
use Rattle.b3d_mend_write_leaves.specs.Answers.{leaf_count}
use borrow.Author.Rules.{rules}
use Rattle.b3d_mend_write_leaves.proofs.count_leaf.Goals as goal

pub enum_told-1 : goal.enum_told-1
enum_told-1 c = search (count_laws, rules)

pub textures_in-requires : goal.textures_in-requires
textures_in-requires c = search (count_laws, rules)

pub enum_told-in-BRUS : goal.enum_told-in-BRUS
enum_told-in-BRUS c = search (count_laws, rules)

pub brushes_in-requires : goal.brushes_in-requires
brushes_in-requires c = search (count_laws, rules)

pub enum_told-in-VRTS : goal.enum_told-in-VRTS
enum_told-in-VRTS c = search (count_laws, rules)

pub vertices_in-requires : goal.vertices_in-requires
vertices_in-requires c = search (count_laws, rules)

pub returns-in-TEXS : goal.returns-in-TEXS
returns-in-TEXS c = search (count_laws, rules)

pub returns-in-BRUS : goal.returns-in-BRUS
returns-in-BRUS c = search (count_laws, rules)

pub returns-in-VRTS : goal.returns-in-VRTS
returns-in-VRTS c = search (count_laws, rules)

pub returns-in_default : goal.returns-in_default
unfolding leaf_count walk_leaf
returns-in_default c = search (count_laws, rules)
