-- `same_bytes` compares one byte a turn: those from i on are left.
use Rattle.b3d_compare_difference.proofs.ValueLaws.{BytesLeft}
use Rattle.b3d_compare_difference.proofs.same_bytes.Given as goal

abbrev pub invariant-loop-i : goal.invariant-loop-i
invariant-loop-i l = BytesLeft l.a l.b l.p l.q l.n l.i
