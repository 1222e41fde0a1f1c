-- `put_sets` writes set by set. The loop has written the first i.
use mathlib.Core.List.{[]}
use lib.ListN.{take}
use Rattle.layout.specs.Write.{write_words}
use Rattle.b3d_write_row_runs.specs.RowBytes.{sets_bytes}
use Rattle.b3d_write_row_runs.proofs.RowByRowLaws.{RowsFrom}
use Rattle.b3d_write_vertices.proofs.put_sets.Given as goal

abbrev pub invariant-loop-i : goal.invariant-loop-i
invariant-loop-i l = RowsFrom (λ x. write_words (take l.size x) []) 4 l.words l.first l.sets (sets_bytes l.sets l.size l.words l.first) l.initial.out l.out l.at l.i
