-- `put_number` puts the number, then what follows it.
use Rattle.b3d_list_text.proofs.TextLaws.{number_laws}
use borrow.Author.Rules.{rules}
use Rattle.b3d_list_text.proofs.put_number.Goals as goal

pub put-requires : goal.put-requires
put-requires c = search (number_laws, rules)

pub returns : goal.returns
returns c = search (number_laws, rules)
