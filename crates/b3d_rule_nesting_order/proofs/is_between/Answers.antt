-- `is_between` tests an entry.
use borrow.Author.Rules.{rules}
use Rattle.b3d_rule_nesting_order.proofs.PermitLaws.{between_laws}
use Rattle.b3d_rule_nesting_order.proofs.is_between.Goals as goal

pub returns-then-lo-e : goal.returns-then-lo-e
returns-then-lo-e c = search (between_laws, rules)

pub returns-then-e : goal.returns-then-e
returns-then-e c = search (between_laws, rules)

pub returns : goal.returns
returns c = search (between_laws, rules)
