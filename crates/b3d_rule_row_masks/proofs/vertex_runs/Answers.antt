-- `vertex_runs` is made field by field.
use Rattle.b3d_rule_row_masks.proofs.MaskLaws.{made_laws}
use borrow.Author.Rules.{rules}
use Rattle.b3d_rule_row_masks.proofs.vertex_runs.Goals as goal

pub least-n-requires : goal.least-n-requires
least-n-requires c = search (made_laws, rules)

pub overflow_mul-flags : goal.overflow_mul-flags
overflow_mul-flags c = search (made_laws, rules)

pub size-requires : goal.size-requires
size-requires c = search (made_laws, rules)

pub overflow_mul-flags-2 : goal.overflow_mul-flags-2
overflow_mul-flags-2 c = search (made_laws, rules)

pub size-requires-2 : goal.size-requires-2
size-requires-2 c = search (made_laws, rules)

pub least-requires : goal.least-requires
least-requires c = search (made_laws, rules)

pub overflow_sub-result : goal.overflow_sub-result
overflow_sub-result c = search (made_laws, rules)

pub overflow_mul-result : goal.overflow_mul-result
overflow_mul-result c = search (made_laws, rules)

pub returns : goal.returns
returns c = search (made_laws, rules)
