-- `group_valid` answers the test of the row by what the row is.
use Rattle.b3d_check_row_runs.proofs.ItemLaws.{run_laws}
use borrow.Author.Rules.{rules}
use Rattle.b3d_check_row_runs.proofs.group_valid.Goals as goal

pub key_list_valid-requires : goal.key_list_valid-requires
key_list_valid-requires c = search (run_laws, rules)

pub set_valid-requires : goal.set_valid-requires
set_valid-requires c = search (run_laws, rules)

pub returns-in-Keys : goal.returns-in-Keys
returns-in-Keys c = search (run_laws, rules)

pub returns-in-Triangles : goal.returns-in-Triangles
returns-in-Triangles c = search (run_laws, rules)
