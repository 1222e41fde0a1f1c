-- `fill_keys` stores rows by the mask of a key, in runs. The loop has stored the first i.
use native.Mathlib.Omega.{arith}
use Rattle.b3d_read_row_runs.proofs.RunLaws.{rows_none, rows_done, rows_take, rows_room, rows_on, rows_laws}
use Rattle.b3d_read_key_rows.proofs.KeyLaws.{keys-words, keys-wide, keys_laws}
use borrow.Author.Rules.{rules}
use Rattle.b3d_read_key_rows.proofs.fill_keys.Goals as goal

pub loop-i-init : goal.loop-i-init
loop-i-init c = search (rows_none, keys_laws, rules)

pub store_key-requires : goal.store_key-requires
store_key-requires c = (omega arith, omega arith, omega arith, search (rows_take, keys-words), search (rows_room, rules))

pub loop-i-preserved : goal.loop-i-preserved
loop-i-preserved c = search (rows_on, keys-wide, rules)

pub returns : goal.returns
returns c = search (rows_done, keys_laws, rules)
