-- `put_list` puts or counts the entries of the twelve numbers, and where there are none those of the tables.
use Rattle.b3d_compare_files.proofs.FileLaws.{list_laws}
use borrow.Author.Rules.{rules}
use Rattle.b3d_compare_files.proofs.put_list.Goals as goal

pub put_twelve-n-requires : goal.put_twelve-n-requires
put_twelve-n-requires c = search (list_laws, rules)

pub returns-then-n-ne0 : goal.returns-then-n-ne0
returns-then-n-ne0 c = search (list_laws, rules)

pub put_cells-requires : goal.put_cells-requires
put_cells-requires c = (search rules, search (list_laws, rules), search (list_laws, rules))

pub returns : goal.returns
returns c = search (list_laws, rules)
