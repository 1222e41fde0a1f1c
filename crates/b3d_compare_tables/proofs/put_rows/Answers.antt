-- `put_rows` puts the entries of the items of two open chunks, or those of a row of each file.
use Rattle.std.proofs.Common.{ap, not}
use Rattle.b3d_compare_tables.proofs.PlaceLaws.{pairs_are, pairs_fit}
use Rattle.b3d_compare_tables.proofs.RowStepLaws.{run-turn}
use borrow.Author.Rules.{rules}
use Rattle.b3d_compare_tables.proofs.put_rows.Goals as goal

pub put_items-run-requires : goal.put_items-run-requires
put_items-run-requires c = (search (pairs_are, rules), search (pairs_fit, rules))

pub returns : goal.returns
returns c = let v = c.requires.le_k in run-turn _ _ _ _ _ _ _ c.same_shape.ensures (ap not c.if-not-same_shape.false) _ _ _ _ _ c.put_items-run.ensures v.2 v.5 _ _ _ _ c.past-first.ensures c.past-second.ensures
