-- `branch_end` adds what the row says to the node's own row.
use Prim.Native.Nat.{◌+◌, ◌*◌}
use Rattle.b3d_spec.specs.Tables.{node_width}
use borrow.Author.Rules.{rules}
use Rattle.b3d_check_parents.proofs.branch_end.Goals as goal

pub overflow_add-result-2 : goal.overflow_add-result-2
overflow_add-result-2 c = let h = c.type_inv.t3 (node_width * c.args.i + 20) in search rules
