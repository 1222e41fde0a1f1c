-- `put_item_words` puts one word a turn: those from i on are left.
use Rattle.b3d_compare_item_words.proofs.WordEntryLaws.{WordsLeft}
use Rattle.b3d_compare_item_words.proofs.put_item_words.Given as goal

abbrev pub invariant-loop-i : goal.invariant-loop-i
invariant-loop-i l = WordsLeft l.a l.b l.p l.q l.n l.cols l.k l.r l.wet l.initial.out l.at l.out l.next l.i
