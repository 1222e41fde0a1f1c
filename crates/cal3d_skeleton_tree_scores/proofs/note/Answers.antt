-- `note` adds to a bone's score.
use borrow.Author.Rules.{rules}
use Rattle.cal3d_skeleton_tree_check.proofs.StrayLaws.{notes}
use Rattle.cal3d_skeleton_tree_scores.proofs.note.Goals as goal

pub returns-then-parents-c : goal.returns-then-parents-c
returns-then-parents-c c = search (notes, rules)

pub returns : goal.returns
returns c = search (notes, rules)
