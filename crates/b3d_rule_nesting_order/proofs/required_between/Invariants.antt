-- `required_between` looks through a row of the table.
use Rattle.b3d_rule_nesting_order.proofs.RowLaws.{Looking}
use Rattle.b3d_rule_nesting_order.proofs.required_between.Given as goal

abbrev pub invariant-loop-column : goal.invariant-loop-column
invariant-loop-column l = Looking l.row l.lo l.hi l.column
