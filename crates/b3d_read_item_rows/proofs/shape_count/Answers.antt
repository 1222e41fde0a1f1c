-- `shape_count` divides.
use borrow.Author.Rules.{rules}
use Rattle.b3d_read_item_rows.proofs.VertexRowLaws.{count_laws}
use Rattle.b3d_read_item_rows.proofs.shape_count.Goals as goal

pub vertex_words-width-requires : goal.vertex_words-width-requires
vertex_words-width-requires c = search (count_laws, rules)

pub returns : goal.returns
returns c = search (count_laws, rules)
