-- `judge_textures` answers `read_textures`. The loop has passed whole textures; its measure is what is left.
use Prim.Native.Nat.{◌-◌}
use Rattle.b3d_judge_materials.proofs.TextureLaws.{Textures}
use Rattle.b3d_judge_materials.proofs.judge_textures.Given as goal

abbrev pub invariant-loop-c : goal.invariant-loop-c
invariant-loop-c l = Textures l.s l.initial.c l.c l.count

abbrev pub decreases-loop-c : goal.decreases-loop-c
decreases-loop-c l = l.c.end - l.c.at
