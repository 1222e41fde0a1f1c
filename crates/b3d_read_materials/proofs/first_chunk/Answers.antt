-- `first_chunk` seeks where there is a head.
use Rattle.b3d_read_materials.proofs.MaterialLaws.{chunk_laws}
use borrow.Author.Rules.{rules}
use Rattle.b3d_read_materials.proofs.first_chunk.Goals as goal

pub returns-then-end-lt12 : goal.returns-then-end-lt12
returns-then-end-lt12 c = search (chunk_laws, rules)

pub seek-requires : goal.seek-requires
seek-requires c = search (chunk_laws, rules)

pub returns : goal.returns
returns c = search (chunk_laws, rules)
