-- `vertex_len` is how many numbers the row has.
use Rattle.b3d_spec.specs.Rules.{vertex_words}
use Rattle.b3d_pieces_rules.proofs.RowLengthLaws.{vertex-fits}
use borrow.Author.Rules.{rules}
use Rattle.b3d_pieces_rules.proofs.lengths.vertex_len.Goals as goal

pub overflow_mul-result-3 : goal.overflow_mul-result-3
overflow_mul-result-3 c = let m = vertex-fits _ c.requires in search rules

pub overflow_add-result-3 : goal.overflow_add-result-3
overflow_add-result-3 c = let m = vertex-fits _ c.requires in search rules

pub returns : goal.returns
unfolding vertex_words
returns c = search rules
