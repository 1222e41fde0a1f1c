-- `same_trees_by` answers `trees`, by the scores.
use borrow.Author.Rules.{rules}
use Rattle.cal3d_skeleton_tree_file.proofs.AnswerLaws.{answers}
use Rattle.cal3d_skeleton_tree_file.proofs.same_trees_by.Goals as goal

pub stray-lowest-requires : goal.stray-lowest-requires
stray-lowest-requires c = (search rules, search (answers, rules), search (answers, rules))

pub returns-then-lowest-bones : goal.returns-then-lowest-bones
returns-then-lowest-bones c = search (answers, rules)

pub returns : goal.returns
returns c = search (answers, rules)
