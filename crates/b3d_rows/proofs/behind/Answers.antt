-- `behind` goes by the case.
use Rattle.b3d_rows.proofs.NextRowLaws.{behind_laws}
use borrow.Author.Rules.{rules}
use Rattle.b3d_rows.proofs.behind.Goals as goal

pub enum_known-n : goal.enum_known-n
enum_known-n c = search (behind_laws, rules)

pub enum_told-1 : goal.enum_told-1
enum_told-1 c = search (behind_laws, rules)

pub returns-in_default : goal.returns-in_default
returns-in_default c = search (behind_laws, rules)

pub returns : goal.returns
returns c = search (behind_laws, rules)
