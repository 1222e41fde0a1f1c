-- `stack_rows_to_add` holds just where the statement does.
use Rattle.b3d_pieces_spec.specs.Row.{open_at}
use Rattle.b3d_pieces_valid_state.proofs.RowTestLaws.{Loaded}
use Rattle.b3d_pieces_valid_state.proofs.loads.stack_rows_to_add.Given as goal

abbrev pub invariant-loop-i : goal.invariant-loop-i
invariant-loop-i l = Loaded (open_at l.row) l.n l.total l.i
