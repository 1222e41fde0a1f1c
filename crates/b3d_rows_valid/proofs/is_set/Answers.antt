-- `is_set` tests number by number.
use Rattle.b3d_rows_valid.proofs.TestLaws.{set_laws}
use borrow.Author.Rules.{rules}
use Rattle.b3d_rows_valid.proofs.is_set.Goals as goal

pub returns-then-not-is_mesh : goal.returns-then-not-is_mesh
returns-then-not-is_mesh c = search (set_laws, rules)

pub returns : goal.returns
returns c = search (set_laws, rules)
