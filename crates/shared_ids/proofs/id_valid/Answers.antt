-- `id_valid` answers whether an id keeps its rule.
use borrow.Author.Rules.{rules}
use Rattle.shared_ids.proofs.IdLaws.{id_laws}
use Rattle.shared_ids.proofs.id_valid.Goals as goal

pub returns-then-size-limit : goal.returns-then-size-limit
returns-then-size-limit c = search (id_laws, rules)

pub returns-then-absent : goal.returns-then-absent
returns-then-absent c = search (id_laws, rules)

pub returns : goal.returns
returns c = search (id_laws, rules)
