-- `put_words` writes word by word. The loop has written i of them.
use Rattle.shared_output.proofs.OutputLaws.{WordsLeft}
use Rattle.shared_output.proofs.put_words.Given as goal

abbrev pub invariant-loop-i : goal.invariant-loop-i
invariant-loop-i l = WordsLeft l.words l.first l.count l.initial.out l.out l.at l.i
