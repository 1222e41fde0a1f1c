-- `copy_bytes` writes byte by byte. The loop has written i of them.
use Rattle.shared_output.proofs.OutputLaws.{Copied}
use Rattle.shared_output.proofs.copy_bytes.Given as goal

abbrev pub invariant-loop-i : goal.invariant-loop-i
invariant-loop-i l = Copied l.src l.from l.count l.initial.out l.out l.i
