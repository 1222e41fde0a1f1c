-- `fill` stores the rows of each bone.
use mathlib.Core.Path.{◌≡◌}
use lib.ListN.{length}
use Rattle.cal3d_skeleton_tree_file.specs.Links.{bones_at}
use Rattle.cal3d_skeleton_rows.proofs.FillLaws.{Filling}
use Rattle.cal3d_skeleton_rows.proofs.fill.Given as goal

abbrev pub invariant-loop-i : goal.invariant-loop-i
invariant-loop-i l = Filling l.s l.count (bones_at l.s l.initial.c l.count) l.initial.bones l.initial.children l.c l.i l.before l.bones l.children × (length l.bones ≡ length l.initial.bones) × (length l.children ≡ length l.initial.children)
