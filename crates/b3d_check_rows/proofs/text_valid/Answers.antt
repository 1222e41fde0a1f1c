-- `text_valid` looks at each byte: what `all` answers is `all` of the bytes that it goes over.
use mathlib.Core.Path.{◌≡◌, ◌∙◌}
use Prim.Native.Nat.{◌+◌, ◌-◌}
use native.Mathlib.Omega.{arith}
use borrow.Author.Rules.{rules}
use borrow.Author.Tests.{tests}
use lib.Dec.{ltb}
use lib.ListN.{take, drop}
use Rattle.std.proofs.lemmas.Iterator.{YieldsList-from_slice}
use Rattle.std.proofs.lemmas.Iterator.Search.{all_from_yields_List}
use Rattle.b3d_check_rows.proofs.AndLaws.{all_is_list_all}
use Rattle.b3d_check_rows.proofs.text_valid.Goals as goal

pub returns : goal.returns
returns c =
    let n : c.args.place + c.args.count - c.args.place ≡ c.args.count = omega arith in
    let bytes = take c.args.count (drop c.args.place c.args.names.now) in
    let over = YieldsList-from_slice bytes (rw n at c.iter.ensures.rest) in
    all_from_yields_List (λ b. ltb 0 b) _ _ c.all.result c.all.ensures.ran over (λ x b q k. search (rules, tests))
    ∙ all_is_list_all (λ b. ltb 0 b) bytes
