-- `fill_textures` stores the textures of the first TEXS.
use Rattle.b3d_read_materials.proofs.MaterialLaws.{textures_laws}
use borrow.Author.Rules.{rules}
use Rattle.b3d_read_materials.proofs.fill_textures.Goals as goal

pub first_chunk-requires : goal.first_chunk-requires
first_chunk-requires c = search (textures_laws, rules)

pub returns-in_default : goal.returns-in_default
returns-in_default c = search (textures_laws, rules)

pub fill_named-requires : goal.fill_named-requires
fill_named-requires c = search (textures_laws, rules)

pub shape_of-out : goal.shape_of-out
shape_of-out c = search (textures_laws, rules)

pub returns : goal.returns
returns c = search (textures_laws, rules)
