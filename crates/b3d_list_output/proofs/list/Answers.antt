-- `list` has room for every listing.
use Rattle.b3d_list_spec.proofs.LengthLaws.{list-whole}
use borrow.Author.Rules.{rules}
use Rattle.b3d_list_output.proofs.list.Goals as goal

pub returns : goal.returns
returns c = search (list-whole, rules)
