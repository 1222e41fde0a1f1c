-- `kept_one` says whether an item stays.
use Rattle.b3d_mend_judge_items.proofs.KeepLaws.{one_laws}
use borrow.Author.Rules.{rules}
use Rattle.b3d_mend_judge_items.proofs.kept_one.Goals as goal

pub first_invalid-good-requires : goal.first_invalid-good-requires
first_invalid-good-requires c = search (one_laws, rules)

pub returns-then-good-ids : goal.returns-then-good-ids
returns-then-good-ids c = search (one_laws, rules)

pub returns : goal.returns
returns c = search (one_laws, rules)
