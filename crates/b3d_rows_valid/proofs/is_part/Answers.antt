-- `is_part` goes by the table.
use Rattle.b3d_rows_valid.proofs.TestLaws.{part_laws}
use borrow.Author.Rules.{rules}
use Rattle.b3d_rows_valid.proofs.is_part.Goals as goal

pub returns-then-k-eq4 : goal.returns-then-k-eq4
returns-then-k-eq4 c = search (part_laws, rules)

pub returns-then-k-eq6 : goal.returns-then-k-eq6
returns-then-k-eq6 c = search (part_laws, rules)

pub returns-then-k-eq9 : goal.returns-then-k-eq9
returns-then-k-eq9 c = search (part_laws, rules)

pub is_item-requires : goal.is_item-requires
is_item-requires c = search (part_laws, rules)

pub returns : goal.returns
returns c = search (part_laws, rules)
