-- `required_between` looks through a row of the table.
use borrow.Author.Rules.{rules}
use Rattle.b3d_rule_nesting_order.proofs.RowLaws.{looking}
use Rattle.b3d_rule_nesting_order.proofs.required_between.Goals as goal

pub loop-column-init : goal.loop-column-init
loop-column-init c = search (looking, rules)

pub returns-then-is_between : goal.returns-then-is_between
returns-then-is_between c = search (looking, rules)

pub loop-column-preserved : goal.loop-column-preserved
loop-column-preserved c = search (looking, rules)

pub returns : goal.returns
returns c = search (looking, rules)
