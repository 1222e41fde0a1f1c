-- `open_vertices` finds the first VRTS of a MESH.
use Rattle.b3d_rows_open_items.proofs.OpeningLaws.{vertices_laws}
use borrow.Author.Rules.{rules}
use Rattle.b3d_rows_open_items.proofs.open_vertices.Goals as goal

pub first_word-head-requires : goal.first_word-head-requires
first_word-head-requires c = search (vertices_laws, rules)

pub seek-requires : goal.seek-requires
seek-requires c = search (vertices_laws, rules)

pub three_words-h-requires : goal.three_words-h-requires
three_words-h-requires c = search (vertices_laws, rules)

pub at_most-sets-requires : goal.at_most-sets-requires
at_most-sets-requires c = search (vertices_laws, rules)

pub at_most-size-requires : goal.at_most-size-requires
at_most-size-requires c = search (vertices_laws, rules)

pub vertex_words-words-requires : goal.vertex_words-words-requires
vertex_words-words-requires c = search (vertices_laws, rules)

pub returns-in_default : goal.returns-in_default
returns-in_default c = search (vertices_laws, rules)

pub returns : goal.returns
returns c = search (vertices_laws, rules)
