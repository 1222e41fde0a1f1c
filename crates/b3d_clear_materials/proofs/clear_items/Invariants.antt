-- `clear_items` goes from item to item. Its measure is what is left.
use Prim.Native.Nat.{◌-◌}
use Rattle.b3d_clear_materials.proofs.ItemLaws.{ItemsLeft}
use Rattle.b3d_clear_materials.proofs.clear_items.Given as goal

abbrev pub invariant-loop-row : goal.invariant-loop-row
invariant-loop-row l = ItemsLeft l.file l.words l.initial.c l.initial.out l.out l.c l.n

abbrev pub decreases-loop-row : goal.decreases-loop-row
decreases-loop-row l = l.c.end - l.c.at
