-- `after` tells whether more numbers follow.
use Rattle.b3d_list_text.proofs.TextLaws.{after_laws}
use borrow.Author.Rules.{rules}
use Rattle.b3d_list_text.proofs.after.Goals as goal

pub returns-then-i-numbers : goal.returns-then-i-numbers
returns-then-i-numbers c = search (after_laws, rules)

pub returns : goal.returns
returns c = search (after_laws, rules)
