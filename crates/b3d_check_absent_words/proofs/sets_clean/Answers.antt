-- `sets_clean` looks at every set. The loop has looked at the first i.
use Rattle.b3d_check_absent_words.proofs.CleanRowLaws.{every_laws}
use borrow.Author.Rules.{rules}
use Rattle.b3d_check_absent_words.proofs.sets_clean.Goals as goal

pub loop-i-init : goal.loop-i-init
loop-i-init c = search (every_laws, rules)

pub few_zeros-ok-requires : goal.few_zeros-ok-requires
few_zeros-ok-requires c = search (every_laws, rules)

pub loop-i-preserved : goal.loop-i-preserved
loop-i-preserved c = search (every_laws, rules)

pub returns : goal.returns
returns c = search (every_laws, rules)
