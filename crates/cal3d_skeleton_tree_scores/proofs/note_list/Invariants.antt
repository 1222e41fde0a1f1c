-- `note_list` notes each entry of a bone's list. The loop has noted those before i.
use Rattle.cal3d_skeleton_tree_scores.proofs.NoteLaws.{Noting}
use Rattle.cal3d_skeleton_tree_scores.proofs.note_list.Given as goal

abbrev pub invariant-loop-i : goal.invariant-loop-i
invariant-loop-i l = Noting l.s l.at l.count l.q l.parents l.entries l.initial.scores l.i l.scores
