-- `judge_bones` answers so many times `read_bone`. The loop has passed whole bones.
use Rattle.shared_counted_lists.proofs.SumLaws.{Summing}
use Rattle.cal3d_spec.specs.Skeletons.{read_bone}
use Rattle.cal3d_skeleton_bones.specs.Bones.{children_in}
use Rattle.cal3d_skeleton_bones.proofs.judge_bones.Given as goal

abbrev pub invariant-loop : goal.invariant-loop
invariant-loop l = Summing (read_bone l.bones) children_in 84 l.s l.bones l.initial.c l.c l.counter l.children
