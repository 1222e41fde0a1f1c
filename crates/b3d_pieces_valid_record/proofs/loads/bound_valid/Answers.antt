-- `bound_valid` holds just where the statement does.
use Rattle.b3d_pieces_valid_record.proofs.OpenChunkTestLaws.{bound_laws}
use borrow.Author.Rules.{rules}
use Rattle.b3d_pieces_valid_record.proofs.loads.bound_valid.Goals as goal

pub returns-in-BB3D : goal.returns-in-BB3D
returns-in-BB3D c = search (bound_laws, rules)

pub returns-in-TEXS : goal.returns-in-TEXS
returns-in-TEXS c = search (bound_laws, rules)

pub returns-in-BRUS : goal.returns-in-BRUS
returns-in-BRUS c = search (bound_laws, rules)

pub returns-in-NODE : goal.returns-in-NODE
returns-in-NODE c = search (bound_laws, rules)

pub returns-in-MESH : goal.returns-in-MESH
returns-in-MESH c = search (bound_laws, rules)

pub returns-in-VRTS : goal.returns-in-VRTS
returns-in-VRTS c = search (bound_laws, rules)

pub returns-in-TRIS : goal.returns-in-TRIS
returns-in-TRIS c = search (bound_laws, rules)

pub returns-in-BONE : goal.returns-in-BONE
returns-in-BONE c = search (bound_laws, rules)

pub returns-in-KEYS : goal.returns-in-KEYS
returns-in-KEYS c = search (bound_laws, rules)

pub returns-in-ANIM : goal.returns-in-ANIM
returns-in-ANIM c = search (bound_laws, rules)
