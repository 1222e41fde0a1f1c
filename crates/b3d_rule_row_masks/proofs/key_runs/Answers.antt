-- `key_runs` is made field by field.
use Rattle.b3d_rule_row_masks.proofs.MaskLaws.{made_laws}
use borrow.Author.Rules.{rules}
use Rattle.b3d_rule_row_masks.proofs.key_runs.Goals as goal

pub overflow_mul-flags : goal.overflow_mul-flags
overflow_mul-flags c = search (made_laws, rules)

pub size-requires : goal.size-requires
size-requires c = search (made_laws, rules)

pub overflow_mul-flags-2 : goal.overflow_mul-flags-2
overflow_mul-flags-2 c = search (made_laws, rules)

pub size-requires-2 : goal.size-requires-2
size-requires-2 c = search (made_laws, rules)

pub overflow_mul-flags-3 : goal.overflow_mul-flags-3
overflow_mul-flags-3 c = search (made_laws, rules)

pub size-requires-3 : goal.size-requires-3
size-requires-3 c = search (made_laws, rules)

pub returns : goal.returns
returns c = search (made_laws, rules)
