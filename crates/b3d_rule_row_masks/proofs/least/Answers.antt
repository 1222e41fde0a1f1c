-- `least` is the smaller of two numbers.
use Rattle.b3d_rule_row_masks.proofs.MaskLaws.{made_laws}
use borrow.Author.Rules.{rules}
use Rattle.b3d_rule_row_masks.proofs.least.Goals as goal

pub size-requires : goal.size-requires
size-requires c = search (made_laws, rules)

pub returns-then-n-m : goal.returns-then-n-m
returns-then-n-m c = search (made_laws, rules)

pub size-requires-2 : goal.size-requires-2
size-requires-2 c = search (made_laws, rules)

pub returns : goal.returns
returns c = search (made_laws, rules)
