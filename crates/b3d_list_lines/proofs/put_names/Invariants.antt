-- `put_names` puts one line a turn: those of the rows from i on are left.
use Rattle.b3d_list_lines.proofs.LineLaws.{Naming}
use Rattle.b3d_list_lines.proofs.put_names.Given as goal

abbrev pub invariant-loop-i : goal.invariant-loop-i
invariant-loop-i l = Naming l.file l.rows l.nodes l.initial.out l.at l.out l.next l.i
