-- `put_run` writes a run of its kind.
use Rattle.shared_output.proofs.PartLaws.{same_laws}
use Rattle.b3d_write_item_lists.proofs.RunLaws.{run_laws}
use borrow.Author.Rules.{rules}
use Rattle.b3d_write_item_lists.proofs.put_run.Goals as goal

pub put_list-requires : goal.put_list-requires
put_list-requires c = search (same_laws, run_laws, rules)

pub shape_of-out-then-keys : goal.shape_of-out-then-keys
shape_of-out-then-keys c = search (same_laws, run_laws, rules)

pub returns-then-keys : goal.returns-then-keys
returns-then-keys c = search (same_laws, run_laws, rules)

pub put_set-requires : goal.put_set-requires
put_set-requires c = search (same_laws, run_laws, rules)

pub shape_of-out : goal.shape_of-out
shape_of-out c = search (same_laws, run_laws, rules)

pub returns : goal.returns
returns c = search (same_laws, run_laws, rules)
