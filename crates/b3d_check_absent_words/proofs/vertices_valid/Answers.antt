-- `vertices_valid` looks at rows by the runs of a vertex.
use Rattle.b3d_rule_row_masks.proofs.MaskLaws.{known_runs}
use Rattle.b3d_check_absent_words.proofs.CleanRowLaws.{clean-known}
use borrow.Author.Rules.{rules}
use Rattle.b3d_check_absent_words.proofs.vertices_valid.Goals as goal

pub vertex_runs-g-requires : goal.vertex_runs-g-requires
vertex_runs-g-requires c = search (known_runs, clean-known, rules)

pub vertices_clean-requires : goal.vertices_clean-requires
vertices_clean-requires c = search (known_runs, clean-known, rules)

pub returns : goal.returns
returns c = search (known_runs, clean-known, rules)
