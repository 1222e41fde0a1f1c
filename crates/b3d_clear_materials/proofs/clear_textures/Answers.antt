-- `clear_textures` writes a chunk where there are items.
use Rattle.b3d_clear_materials.proofs.ListLaws.{texs_laws}
use borrow.Author.Rules.{rules}
use Rattle.b3d_clear_materials.proofs.clear_textures.Goals as goal

pub returns-then-body : goal.returns-then-body
returns-then-body c = search (texs_laws, rules)

pub texs_chunk-requires : goal.texs_chunk-requires
texs_chunk-requires c = search (texs_laws, rules)

pub shape_of-out : goal.shape_of-out
shape_of-out c = search (texs_laws, rules)

pub returns : goal.returns
returns c = search (texs_laws, rules)
