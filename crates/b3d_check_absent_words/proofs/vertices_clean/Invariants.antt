-- `vertices_clean` looks at each row. The loop has passed those before i.
use Rattle.b3d_check_spec.specs.Check.{clean}
use Rattle.b3d_rule_row_masks.specs.Runs.{run_mask}
use Rattle.b3d_check_rows.proofs.LoopLaws.{AllFrom}
use Rattle.b3d_check_absent_words.proofs.vertices_clean.Given as goal

abbrev pub invariant-loop-i : goal.invariant-loop-i
invariant-loop-i l = AllFrom (clean (run_mask l.g)) 42 l.first l.count l.t l.i-end l.i
