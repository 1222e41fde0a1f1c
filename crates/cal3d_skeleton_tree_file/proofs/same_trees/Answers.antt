-- `same_trees` has rows of its own, all zeros.
use mathlib.Core.Path.{sym}
use lib.Seq.{length-take-le}
use borrow.Author.Rules.{rules}
use Rattle.cal3d_skeleton_tree_file.proofs.AnswerLaws.{zeros_front}
use Rattle.cal3d_skeleton_tree_file.proofs.same_trees.Goals as goal

pub slice_bounds-same_trees_by-end : goal.slice_bounds-same_trees_by-end
slice_bounds-same_trees_by-end c = sym (length-take-le _ _ (search rules))

pub slice_bounds-same_trees_by-end-2 : goal.slice_bounds-same_trees_by-end-2
slice_bounds-same_trees_by-end-2 c = sym (length-take-le _ _ (search rules))

pub same_trees_by-requires : goal.same_trees_by-requires
same_trees_by-requires c = (search rules, length-take-le _ _ (search rules), length-take-le _ _ (search rules), zeros_front c.args.bones c.zeros-scores.result c.zeros-scores.ensures.1 (search rules))
