-- `compare` judges both files and lists what differs.
use Rattle.b3d_compare.proofs.CompareLaws.{judged, compare_laws}
use borrow.Author.Rules.{rules}
use Rattle.b3d_compare.proofs.compare.Goals as goal

pub returns-then-x-ne0 : goal.returns-then-x-ne0
returns-then-x-ne0 c = search (compare_laws, rules)

pub returns-then-y-ne0 : goal.returns-then-y-ne0
returns-then-y-ne0 c = search (compare_laws, rules)

pub list_into-requires : goal.list_into-requires
list_into-requires c = (judged _ _ c.judge_answer-x.ensures c.if-x-ne0.false _ c.numbers_of.ensures, judged _ _ c.judge_answer-y.ensures c.if-y-ne0.false _ c.numbers_of-2.ensures)

pub returns : goal.returns
returns c = search (compare_laws, rules)
