-- `put_same` stores one value again and again. The loop has stored those before i.
use Rattle.shared_table_words.proofs.CopyLaws.{Repeating}
use Rattle.shared_table_words.proofs.put_same.Given as goal

abbrev pub invariant-loop-i : goal.invariant-loop-i
invariant-loop-i l = Repeating l.v l.n l.base l.initial.out l.out l.i
