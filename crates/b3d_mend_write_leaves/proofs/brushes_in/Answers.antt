-- `brushes_in` counts what the definition counts.
use Rattle.b3d_mend_write_leaves.proofs.CountLaws.{count_laws}
use borrow.Author.Rules.{rules}
use Rattle.b3d_mend_write_leaves.proofs.brushes_in.Goals as goal

pub judge_brushes-requires : goal.judge_brushes-requires
judge_brushes-requires c = search (count_laws, rules)

pub returns-in-Err : goal.returns-in-Err
returns-in-Err c = search (count_laws, rules)

pub returns-in-Ok : goal.returns-in-Ok
returns-in-Ok c = search (count_laws, rules)
