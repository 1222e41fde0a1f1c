-- `put_name` puts the name that the row of a node names.
use borrow.Author.Rules.{rules}
use Rattle.b3d_list_lines.proofs.LineLaws.{name_done}
use Rattle.b3d_list_lines.proofs.put_name.Goals as goal

pub returns : goal.returns
returns c = search (name_done, rules)
