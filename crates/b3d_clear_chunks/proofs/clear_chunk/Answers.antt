-- `clear_chunk` goes by the tag.
use Rattle.b3d_clear_chunks.proofs.PartLaws.{part_laws}
use borrow.Author.Rules.{rules}
use Rattle.b3d_clear_chunks.proofs.clear_chunk.Goals as goal

pub enum_told-1 : goal.enum_told-1
enum_told-1 c = search (part_laws, rules)

pub clear_textures-requires : goal.clear_textures-requires
clear_textures-requires c = search (part_laws, rules)

pub enum_told-in-BRUS : goal.enum_told-in-BRUS
enum_told-in-BRUS c = search (part_laws, rules)

pub clear_brushes-requires : goal.clear_brushes-requires
clear_brushes-requires c = search (part_laws, rules)

pub enum_told-in-MESH : goal.enum_told-in-MESH
enum_told-in-MESH c = search (part_laws, rules)

pub clear_mesh-requires : goal.clear_mesh-requires
clear_mesh-requires c = search (part_laws, rules)

pub copy_chunk-requires : goal.copy_chunk-requires
copy_chunk-requires c = search (part_laws, rules)

pub shape_of-out-in-TEXS : goal.shape_of-out-in-TEXS
shape_of-out-in-TEXS c = search (part_laws, rules)

pub returns-in-TEXS : goal.returns-in-TEXS
returns-in-TEXS c = search (part_laws, rules)

pub shape_of-out-in-BRUS : goal.shape_of-out-in-BRUS
shape_of-out-in-BRUS c = search (part_laws, rules)

pub returns-in-BRUS : goal.returns-in-BRUS
returns-in-BRUS c = search (part_laws, rules)

pub shape_of-out-in-MESH : goal.shape_of-out-in-MESH
shape_of-out-in-MESH c = search (part_laws, rules)

pub returns-in-MESH : goal.returns-in-MESH
returns-in-MESH c = search (part_laws, rules)

pub shape_of-out-in_default : goal.shape_of-out-in_default
shape_of-out-in_default c = search (part_laws, rules)

pub returns-in_default : goal.returns-in_default
returns-in_default c = search (part_laws, rules)
