-- `is_permitted` answers what the rule says of the tag: by its entry in the table.
use borrow.Author.Rules.{rules}
use Rattle.b3d_rule_nesting_order.proofs.PermitLaws.{may-stand_laws}
use Rattle.b3d_rule_nesting_order.proofs.is_permitted.Goals as goal

pub returns-then-required_between : goal.returns-then-required_between
returns-then-required_between c = search (may-stand_laws, rules)

pub returns-then-reached-turn : goal.returns-then-reached-turn
returns-then-reached-turn c = search (may-stand_laws, rules)

pub returns-then-turn-reached : goal.returns-then-turn-reached
returns-then-turn-reached c = search (may-stand_laws, rules)

pub returns-then-e-2 : goal.returns-then-e-2
returns-then-e-2 c = search (may-stand_laws, rules)

pub returns-then-reached : goal.returns-then-reached
returns-then-reached c = search (may-stand_laws, rules)

pub returns-then-e : goal.returns-then-e
returns-then-e c = search (may-stand_laws, rules)

pub returns : goal.returns
returns c = search (may-stand_laws, rules)
