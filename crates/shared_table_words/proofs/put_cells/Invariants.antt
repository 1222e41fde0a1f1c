-- `put_cells` stores the cells. The loop has stored those before i.
use Prim.Native.Nat.{◌+◌}
use lib.ListN.{drop}
use Rattle.shared_table_words.proofs.StoreLaws.{Storing}
use Rattle.shared_table_words.proofs.put_cells.Given as goal

abbrev pub invariant-loop-i : goal.invariant-loop-i
invariant-loop-i l = Storing l.initial.out l.base l.cells l.out (l.base + l.i) (drop l.i l.cells)
