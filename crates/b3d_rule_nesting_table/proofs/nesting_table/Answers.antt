-- The constant is the definition's table: one test, computed over the hundred entries.
use mathlib.Core.Path.{refl}
use Rattle.wire.specs.Test.{if}
use Rattle.b3d_rule_nesting_table.specs.Table.{entry_in, nesting_table}
use Rattle.b3d_rule_nesting_table.proofs.nesting_table.Goals as goal

pub returns : goal.returns
unfolding nesting_table entry_in if
returns c = refl
