-- `judge` answers a mesh file without any table.
use native.Mathlib.Omega.{arith}
use borrow.Author.Rules.{rules}
use Rattle.cal3d_mesh_judge.proofs.JudgeLaws.{judges, judge-end}
use Rattle.cal3d_mesh_judge.proofs.judge.Goals as goal

pub judge_submeshes-requires : goal.judge_submeshes-requires
judge_submeshes-requires c = search (judges, rules)

pub returns-then-n-c : goal.returns-then-n-c
returns-then-n-c c = search (judges, rules)

-- the end of the submeshes is in the file
pub overflow_cast-c : goal.overflow_cast-c
overflow_cast-c c = let room = judge-end _ _ _ c.entry_count.ensures.value _ c.in-Ok.is _ c.size.ensures _ c.named_bones.ensures _ c.judge_submeshes.ensures _ _ c.in-Ok-judge_submeshes.is in
    omega arith

pub returns-else-n-c : goal.returns-else-n-c
returns-else-n-c c = search (judges, rules)

pub overflow_cast-e-in-Err-judge_submeshes : goal.overflow_cast-e-in-Err-judge_submeshes
overflow_cast-e-in-Err-judge_submeshes c = search (judges, rules)

pub returns-in-Err : goal.returns-in-Err
returns-in-Err c = search (judges, rules)

pub returns-in-Err-judge_submeshes : goal.returns-in-Err-judge_submeshes
returns-in-Err-judge_submeshes c = search (judges, rules)
