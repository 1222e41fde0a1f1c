-- `put_numbers` puts one number a turn: those from i on are left.
use borrow.Author.Rules.{rules}
use Rattle.b3d_compare_entries.proofs.EntryLaws.{numbers_laws}
use Rattle.b3d_compare_entries.proofs.put_numbers.Goals as goal

pub loop-i-init : goal.loop-i-init
loop-i-init c = search (numbers_laws, rules)

pub put_grouped-next-requires : goal.put_grouped-next-requires
put_grouped-next-requires c = search (numbers_laws, rules)

pub loop-i-preserved : goal.loop-i-preserved
loop-i-preserved c = search (numbers_laws, rules)

pub shape_of-out : goal.shape_of-out
shape_of-out c = search (numbers_laws, rules)

pub returns : goal.returns
returns c = search (numbers_laws, rules)
