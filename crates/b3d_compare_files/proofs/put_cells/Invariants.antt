-- `put_cells` puts or counts the entries of one table a turn: those from k on are left.
use Rattle.b3d_compare_files.proofs.FileLaws.{TablesLeft}
use Rattle.b3d_compare_files.proofs.put_cells.Given as goal

abbrev pub invariant-loop-k : goal.invariant-loop-k
invariant-loop-k l = TablesLeft l.a l.b l.x l.wet l.initial.out l.at l.out l.next l.k
