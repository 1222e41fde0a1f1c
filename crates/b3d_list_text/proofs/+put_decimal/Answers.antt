-- `put_decimal` puts the digits of a tenth of the number first: the number is the measure.
use borrow.Author.Rules.{rules}
use Rattle.b3d_list_text.proofs.TextLaws.{decimal_laws}
use Rattle.b3d_list_text.proofs.+put_decimal.Goals as goal

pub returns-then-n-lt10 : goal.returns-then-n-lt10
returns-then-n-lt10 t c = search (decimal_laws, rules)

pub put-requires-2 : goal.put-requires-2
put-requires-2 t c = search (decimal_laws, rules)

pub returns : goal.returns
returns t c = search (decimal_laws, rules)
