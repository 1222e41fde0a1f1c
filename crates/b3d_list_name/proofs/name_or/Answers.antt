-- `name_or` gives what `name_or` names.
use borrow.Author.Rules.{rules}
use Rattle.b3d_list_name.proofs.NameLaws.{naming}
use Rattle.b3d_list_name.proofs.name_or.Goals as goal

pub returns-then-size-file : goal.returns-then-size-file
returns-then-size-file c = search (naming, rules)

pub returns-else-size-file : goal.returns-else-size-file
returns-else-size-file c = search (naming, rules)

pub returns-else-place-file : goal.returns-else-place-file
returns-else-place-file c = search (naming, rules)

pub returns-else-size-gt0 : goal.returns-else-size-gt0
returns-else-size-gt0 c = search (naming, rules)
