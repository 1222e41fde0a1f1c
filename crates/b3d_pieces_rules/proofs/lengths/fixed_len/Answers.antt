-- `fixed_len` is how many numbers the row has.
use Rattle.b3d_pieces_rules.proofs.RowLengthLaws.{fixed_len_laws}
use borrow.Author.Rules.{rules}
use Rattle.b3d_pieces_rules.proofs.lengths.fixed_len.Goals as goal

pub returns-in-BB3D : goal.returns-in-BB3D
returns-in-BB3D c = search (fixed_len_laws, rules)

pub returns-in-TEXS : goal.returns-in-TEXS
returns-in-TEXS c = search (fixed_len_laws, rules)

pub returns-in-BRUS : goal.returns-in-BRUS
returns-in-BRUS c = search (fixed_len_laws, rules)

pub returns-in-NODE : goal.returns-in-NODE
returns-in-NODE c = search (fixed_len_laws, rules)

pub returns-in-MESH : goal.returns-in-MESH
returns-in-MESH c = search (fixed_len_laws, rules)

pub returns-in-VRTS : goal.returns-in-VRTS
returns-in-VRTS c = search (fixed_len_laws, rules)

pub returns-in-TRIS : goal.returns-in-TRIS
returns-in-TRIS c = search (fixed_len_laws, rules)

pub returns-in-BONE : goal.returns-in-BONE
returns-in-BONE c = search (fixed_len_laws, rules)

pub returns-in-KEYS : goal.returns-in-KEYS
returns-in-KEYS c = search (fixed_len_laws, rules)

pub returns-in-ANIM : goal.returns-in-ANIM
returns-in-ANIM c = search (fixed_len_laws, rules)
