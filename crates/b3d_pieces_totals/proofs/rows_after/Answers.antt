-- `rows_after` changes the totals as the definition does.
use Rattle.b3d_pieces_totals.proofs.TotalLaws.{rows_as}
use borrow.Author.Rules.{rules}
use Rattle.b3d_pieces_totals.proofs.rows_after.Goals as goal

pub returns-in-MESH : goal.returns-in-MESH
returns-in-MESH c = search (rows_as, rules)

pub returns-in-VRTS : goal.returns-in-VRTS
returns-in-VRTS c = search (rows_as, rules)

pub returns-in-TRIS : goal.returns-in-TRIS
returns-in-TRIS c = search (rows_as, rules)

pub returns-in-BONE : goal.returns-in-BONE
returns-in-BONE c = search (rows_as, rules)

pub returns-in-KEYS : goal.returns-in-KEYS
returns-in-KEYS c = search (rows_as, rules)

pub returns-in-BB3D : goal.returns-in-BB3D
returns-in-BB3D c = search (rows_as, rules)

pub returns-in-TEXS : goal.returns-in-TEXS
returns-in-TEXS c = search (rows_as, rules)

pub returns-in-BRUS : goal.returns-in-BRUS
returns-in-BRUS c = search (rows_as, rules)

pub returns-in-NODE : goal.returns-in-NODE
returns-in-NODE c = search (rows_as, rules)

pub returns-in-ANIM : goal.returns-in-ANIM
returns-in-ANIM c = search (rows_as, rules)
