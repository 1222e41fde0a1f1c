-- `row_on` takes bytes of rows.
use mathlib.Core.Path.{refl}
use borrow.Author.Rules.{rules}
use Rattle.b3d_pieces_at_once.proofs.OnceLaws.{row_moved, near_moved, row_laws}
use Rattle.b3d_pieces_at_once.proofs.row_on.Goals as goal

pub overflow_add-n : goal.overflow_add-n
overflow_add-n c = search (row_laws, rules)

pub gather-z-requires : goal.gather-z-requires
gather-z-requires c = search (row_laws, rules)

pub rows_on-requires : goal.rows_on-requires
rows_on-requires c = search (row_laws, rules)

pub returns-then-n-s-lt4 : goal.returns-then-n-s-lt4
returns-then-n-s-lt4 c = near_moved _ _ _ _ c.open_of-f.ensures c.requires.0 _ refl _ c.gather-z.ensures c.requires.1 _ c.rows_on.ensures

pub row_rules-q-requires : goal.row_rules-q-requires
row_rules-q-requires c = search (row_laws, rules)

pub rows-y-requires : goal.rows-y-requires
rows-y-requires c = search (row_laws, rules)

pub rows_on-requires-2 : goal.rows_on-requires-2
rows_on-requires-2 c = search (row_laws, rules)

pub returns : goal.returns
returns c = row_moved _ _ _ _ c.open_of-f.ensures c.requires.0 _ refl _ c.row_rules-q.ensures _ c.rows-y.ensures c.requires.1 _ c.rows_on-2.ensures
