-- `long_table_or` compares with the row limit.
use Rattle.b3d_judge_limits.proofs.LimitLaws.{over_yes, over_no}
use borrow.Author.Rules.{rules}
use Rattle.b3d_judge_limits.proofs.long_table_or.Goals as goal

pub returns-then-rows-gt-ROW_LIMIT : goal.returns-then-rows-gt-ROW_LIMIT
returns-then-rows-gt-ROW_LIMIT c = search (over_yes, over_no, rules)

pub returns : goal.returns
returns c = search (over_yes, over_no, rules)
