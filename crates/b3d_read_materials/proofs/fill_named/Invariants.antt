-- `fill_named` stores a row for each text with its words. The loop has stored those before c; its measure is what is left.
use Prim.Native.Nat.{◌-◌}
use Rattle.b3d_read_materials.proofs.NamedRowLaws.{TextsLeft}
use Rattle.b3d_read_materials.proofs.fill_named.Given as goal

abbrev pub invariant-loop-length : goal.invariant-loop-length
invariant-loop-length l = TextsLeft l.file l.n l.rest l.initial.out l.initial.c l.out l.c l.base

abbrev pub decreases-loop-length : goal.decreases-loop-length
decreases-loop-length l = l.c.end - l.c.at
