-- `next_part` goes by the table.
use Rattle.b3d_rows.proofs.NextRowLaws.{part_laws}
use borrow.Author.Rules.{rules}
use Rattle.b3d_rows.proofs.next_part.Goals as goal

pub next_mesh-requires : goal.next_mesh-requires
next_mesh-requires c = search (part_laws, rules)

pub shape_of-row-then-k-eq4 : goal.shape_of-row-then-k-eq4
shape_of-row-then-k-eq4 c = search (part_laws, rules)

pub returns-then-k-eq4 : goal.returns-then-k-eq4
returns-then-k-eq4 c = search (part_laws, rules)

pub next_set-requires : goal.next_set-requires
next_set-requires c = search (part_laws, rules)

pub shape_of-row-then-k-eq6 : goal.shape_of-row-then-k-eq6
shape_of-row-then-k-eq6 c = search (part_laws, rules)

pub returns-then-k-eq6 : goal.returns-then-k-eq6
returns-then-k-eq6 c = search (part_laws, rules)

pub next_list-requires : goal.next_list-requires
next_list-requires c = search (part_laws, rules)

pub shape_of-row-then-k-eq9 : goal.shape_of-row-then-k-eq9
shape_of-row-then-k-eq9 c = search (part_laws, rules)

pub returns-then-k-eq9 : goal.returns-then-k-eq9
returns-then-k-eq9 c = search (part_laws, rules)

pub next_item-requires : goal.next_item-requires
next_item-requires c = search (part_laws, rules)

pub shape_of-row : goal.shape_of-row
shape_of-row c = search (part_laws, rules)

pub returns : goal.returns
returns c = search (part_laws, rules)
