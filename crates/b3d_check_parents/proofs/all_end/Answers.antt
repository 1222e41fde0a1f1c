-- `all_end` looks at each level of the path: what `all` answers is `all_end` of the levels whose ends it goes over.
use mathlib.Core.Path.{◌∙◌}
use borrow.Author.Rules.{rules}
use borrow.Author.Tests.{tests}
use lib.ListN.{take}
use lib.Dec.{eqb}
use Rattle.std.proofs.lemmas.Iterator.{YieldsList-from_slice}
use Rattle.std.proofs.lemmas.Iterator.Search.{all_from_yields_List}
use Rattle.b3d_check_parents.proofs.PathLaws.{ends_are}
use Rattle.b3d_check_parents.proofs.all_end.Goals as goal

pub returns : goal.returns
returns c =
    let levels = take c.args.depth c.args.ends.now in
    let over = YieldsList-from_slice levels c.iter.ensures.rest in
    let answer = all_from_yields_List (λ x. eqb x c.args.i) _ _ c.all.result c.all.ensures.ran over (λ x b q k. search (rules, tests)) in
    record { is = λ a v. answer ∙ ends_are c.args.ends.now c.args.i c.args.depth c.requires a v }
