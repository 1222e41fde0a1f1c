-- `vertices_in` counts what the definition counts.
use Rattle.b3d_mend_write_leaves.proofs.CountLaws.{count_laws}
use borrow.Author.Rules.{rules}
use Rattle.b3d_mend_write_leaves.proofs.vertices_in.Goals as goal

pub judge_vertices-requires : goal.judge_vertices-requires
judge_vertices-requires c = search (count_laws, rules)

pub returns-in-Err : goal.returns-in-Err
returns-in-Err c = search (count_laws, rules)

pub returns-in-Ok : goal.returns-in-Ok
returns-in-Ok c = search (count_laws, rules)
