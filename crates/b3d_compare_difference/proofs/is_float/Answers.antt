-- `is_float` answers table by table.
use borrow.Author.Rules.{rules}
use Rattle.b3d_compare_difference.proofs.FloatWordLaws.{float_laws}
use Rattle.b3d_compare_difference.proofs.is_float.Goals as goal

pub returns-then-k-eq1 : goal.returns-then-k-eq1
returns-then-k-eq1 c = search (float_laws, rules)

pub returns-then-w-lt2 : goal.returns-then-w-lt2
returns-then-w-lt2 c = search (float_laws, rules)

pub returns-then-k-eq2 : goal.returns-then-k-eq2
returns-then-k-eq2 c = search (float_laws, rules)

pub returns-then-w-lt3 : goal.returns-then-w-lt3
returns-then-w-lt3 c = search (float_laws, rules)

pub returns-then-w-lt13 : goal.returns-then-w-lt13
returns-then-w-lt13 c = search (float_laws, rules)

pub returns-then-k-eq3 : goal.returns-then-k-eq3
returns-then-k-eq3 c = search (float_laws, rules)

pub returns-then-k-eq5 : goal.returns-then-k-eq5
returns-then-k-eq5 c = search (float_laws, rules)

pub returns-then-k-eq8 : goal.returns-then-k-eq8
returns-then-k-eq8 c = search (float_laws, rules)

pub returns-then-k-eq10 : goal.returns-then-k-eq10
returns-then-k-eq10 c = search (float_laws, rules)

pub returns : goal.returns
returns c = search (float_laws, rules)
