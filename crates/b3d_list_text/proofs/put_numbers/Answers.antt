-- `put_numbers` puts a number and what follows it a turn: those from i on are left.
use Rattle.b3d_list_text.proofs.TextLaws.{numbers_laws}
use borrow.Author.Rules.{rules}
use Rattle.b3d_list_text.proofs.put_numbers.Goals as goal

pub loop-i-init : goal.loop-i-init
loop-i-init c = search (numbers_laws, rules)

pub put_number-next-requires : goal.put_number-next-requires
put_number-next-requires c = search (numbers_laws, rules)

pub loop-i-preserved : goal.loop-i-preserved
loop-i-preserved c = search (numbers_laws, rules)

pub returns : goal.returns
returns c = search (numbers_laws, rules)
