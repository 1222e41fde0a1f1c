-- `put_names` puts one line a turn: those of the rows from i on are left.
use borrow.Author.Rules.{rules}
use Rattle.b3d_list_lines.proofs.LineLaws.{names_laws}
use Rattle.b3d_list_lines.proofs.put_names.Goals as goal

pub loop-i-init : goal.loop-i-init
loop-i-init c = search (names_laws, rules)

pub put_name-next-requires : goal.put_name-next-requires
put_name-next-requires c = search (names_laws, rules)

pub loop-i-preserved : goal.loop-i-preserved
loop-i-preserved c = search (names_laws, rules)

pub returns : goal.returns
returns c = search (names_laws, rules)
