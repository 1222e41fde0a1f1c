-- `mode_of` answers the mode that a number names.
use borrow.Author.Rules.{rules}
use Rattle.kelompuris_c_mode.proofs.Laws.{mode_laws}
use Rattle.kelompuris_c_mode.proofs.mode_of.Goals as goal

pub returns-then-n-eq1 : goal.returns-then-n-eq1
returns-then-n-eq1 c = search (mode_laws, rules)

pub returns : goal.returns
returns c = search (mode_laws, rules)
