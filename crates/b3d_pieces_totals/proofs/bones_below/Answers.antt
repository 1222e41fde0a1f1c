-- `bones_below` changes the totals as the definition does.
use borrow.Author.Rules.{rules}
use Rattle.b3d_pieces_totals.proofs.TotalLaws.{below_laws}
use Rattle.b3d_pieces_totals.proofs.bones_below.Goals as goal

pub returns-then-anim : goal.returns-then-anim
returns-then-anim c = search (below_laws, rules)

pub returns-then-rows-eq1 : goal.returns-then-rows-eq1
returns-then-rows-eq1 c = search (below_laws, rules)

pub returns : goal.returns
returns c = search (below_laws, rules)
