-- `find_shape` reads the first VRTS.
use Rattle.b3d_read_mesh_rows.proofs.MeshLaws.{shape_laws}
use borrow.Author.Rules.{rules}
use Rattle.b3d_read_mesh_rows.proofs.find_shape.Goals as goal

pub seek-requires : goal.seek-requires
seek-requires c = search (shape_laws, rules)

pub three_words-h-requires : goal.three_words-h-requires
three_words-h-requires c = search (shape_laws, rules)

pub shape_count-count-requires : goal.shape_count-count-requires
shape_count-count-requires c = search (shape_laws, rules)

pub returns-in_default : goal.returns-in_default
returns-in_default c = search (shape_laws, rules)

pub returns : goal.returns
returns c = search (shape_laws, rules)
