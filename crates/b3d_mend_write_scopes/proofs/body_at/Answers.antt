-- `body_at` gives what the definition says.
use Rattle.b3d_mend_write_scopes.proofs.ScopeLaws.{scope_laws}
use borrow.Author.Rules.{rules}
use Rattle.b3d_mend_write_scopes.proofs.body_at.Goals as goal

pub returns-then-report : goal.returns-then-report
returns-then-report c = search (scope_laws, rules)

pub overflow_add-result : goal.overflow_add-result
overflow_add-result c = search (scope_laws, rules)

pub returns : goal.returns
returns c = search (scope_laws, rules)
