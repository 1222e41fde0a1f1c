-- `begin` stands before the first row.
use Rattle.b3d_rows.proofs.StartLaws.{begin-is}
use mathlib.Core.Path.{refl}
use lib.ListN.{replicate}
use Rattle.b3d_rows.proofs.begin.Goals as goal

pub returns : goal.returns
returns c = let p = c.requires in begin-is _ _ p.0 p.1 p.2 p.3 _ c.first_items-items.ensures (replicate 16 0) (replicate 16 0) _ refl refl refl
