-- `node_scope` gives what the definition says.
use Rattle.b3d_mend_write_scopes.proofs.ScopeLaws.{scope_laws}
use borrow.Author.Rules.{rules}
use Rattle.b3d_mend_write_scopes.proofs.node_scope.Goals as goal

pub returns : goal.returns
returns c = search (scope_laws, rules)
