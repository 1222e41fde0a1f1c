-- `same_text` by its ways.
use borrow.Author.Rules.{rules}
use Rattle.b3d_compare_difference.proofs.ValueLaws.{text_laws}
use Rattle.b3d_compare_difference.proofs.same_text.Goals as goal

pub returns-then-x-y : goal.returns-then-x-y
returns-then-x-y c = search (text_laws, rules)

pub same_bytes-requires : goal.same_bytes-requires
same_bytes-requires c = search (text_laws, rules)

pub returns : goal.returns
returns c = search (text_laws, rules)
