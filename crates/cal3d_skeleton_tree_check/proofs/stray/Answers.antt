-- `stray` has marks of its own, none of them set.
use native.Mathlib.Omega.{arith}
use mathlib.Core.Path.{sym}
use lib.Seq.{length-take-le}
use borrow.Author.Rules.{rules}
use Rattle.cal3d_skeleton_tree_check.proofs.ClimbLaws.{fresh}
use Rattle.cal3d_skeleton_tree_check.proofs.stray.Goals as goal

pub slice_bounds-first_stray-end : goal.slice_bounds-first_stray-end
slice_bounds-first_stray-end c = sym (length-take-le _ _ (search rules))

pub first_stray-requires : goal.first_stray-requires
first_stray-requires c = let p = c.requires in
    let m = c.zeros-marks.ensures in
    (p.0, p.1, fresh c.args.parents.now c.zeros-marks.result m.1 (omega arith))
