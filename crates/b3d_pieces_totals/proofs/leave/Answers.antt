-- `leave` changes the totals as the definition does.
use Rattle.b3d_pieces_totals.proofs.TotalLaws.{leave_laws}
use borrow.Author.Rules.{rules}
use Rattle.b3d_pieces_totals.proofs.leave.Goals as goal

pub returns-in-BB3D : goal.returns-in-BB3D
returns-in-BB3D c = search (leave_laws, rules)

pub returns-in-TEXS : goal.returns-in-TEXS
returns-in-TEXS c = search (leave_laws, rules)

pub returns-in-BRUS : goal.returns-in-BRUS
returns-in-BRUS c = search (leave_laws, rules)

pub returns-in-NODE : goal.returns-in-NODE
returns-in-NODE c = search (leave_laws, rules)

pub returns-in-MESH : goal.returns-in-MESH
returns-in-MESH c = search (leave_laws, rules)

pub returns-in-VRTS : goal.returns-in-VRTS
returns-in-VRTS c = search (leave_laws, rules)

pub returns-in-TRIS : goal.returns-in-TRIS
returns-in-TRIS c = search (leave_laws, rules)

pub returns-in-BONE : goal.returns-in-BONE
returns-in-BONE c = search (leave_laws, rules)

pub returns-in-KEYS : goal.returns-in-KEYS
returns-in-KEYS c = search (leave_laws, rules)

pub returns-in-ANIM : goal.returns-in-ANIM
returns-in-ANIM c = search (leave_laws, rules)
