-- `shown` gives the byte that is printed.
use Rattle.b3d_list_text.proofs.TextLaws.{shown_laws}
use borrow.Author.Rules.{rules}
use Rattle.b3d_list_text.proofs.shown.Goals as goal

pub returns-then-b-lt32 : goal.returns-then-b-lt32
returns-then-b-lt32 c = search (shown_laws, rules)

pub returns-then-b-gt126 : goal.returns-then-b-gt126
returns-then-b-gt126 c = search (shown_laws, rules)

pub returns : goal.returns
returns c = search (shown_laws, rules)
