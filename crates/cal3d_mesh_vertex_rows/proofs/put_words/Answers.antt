-- `put_words` copies words that stand one after the other.
use borrow.Author.Rules.{rules}
use Rattle.cal3d_mesh_vertex_rows.proofs.VertexLaws.{words-put}
use Rattle.cal3d_mesh_vertex_rows.proofs.put_words.Goals as goal

pub returns : goal.returns
returns c = search (words-put, rules)
