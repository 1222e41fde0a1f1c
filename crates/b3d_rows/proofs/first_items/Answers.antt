-- `first_items` goes by the table.
use Rattle.b3d_rows.proofs.StartLaws.{first_laws}
use borrow.Author.Rules.{rules}
use Rattle.b3d_rows.proofs.first_items.Goals as goal

pub open_textures-requires : goal.open_textures-requires
open_textures-requires c = search (first_laws, rules)

pub returns-then-k-eq1 : goal.returns-then-k-eq1
returns-then-k-eq1 c = search (first_laws, rules)

pub open_brushes-requires : goal.open_brushes-requires
open_brushes-requires c = search (first_laws, rules)

pub returns-then-k-eq2 : goal.returns-then-k-eq2
returns-then-k-eq2 c = search (first_laws, rules)

pub no_items-requires : goal.no_items-requires
no_items-requires c = search (first_laws, rules)

pub returns-then-k-eq8 : goal.returns-then-k-eq8
returns-then-k-eq8 c = search (first_laws, rules)

pub no_items-requires-then-k-eq10 : goal.no_items-requires-then-k-eq10
no_items-requires-then-k-eq10 c = search (first_laws, rules)

pub returns-then-k-eq10 : goal.returns-then-k-eq10
returns-then-k-eq10 c = search (first_laws, rules)

pub no_items-requires-2 : goal.no_items-requires-2
no_items-requires-2 c = search (first_laws, rules)

pub returns : goal.returns
returns c = search (first_laws, rules)
