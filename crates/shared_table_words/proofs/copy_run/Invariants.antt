-- `copy_run` stores words of the file. The loop has stored those before i.
use Rattle.shared_table_words.proofs.CopyLaws.{Copying}
use Rattle.shared_table_words.proofs.copy_run.Given as goal

abbrev pub invariant-loop-i : goal.invariant-loop-i
invariant-loop-i l = Copying l.file l.at l.n l.base l.initial.out l.out l.i
