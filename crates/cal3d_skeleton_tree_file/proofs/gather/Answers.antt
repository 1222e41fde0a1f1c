-- `gather` stores the parents.
use mathlib.Core.Path.{refl}
use borrow.Author.Rules.{rules}
use Rattle.cal3d_skeleton_tree_file.proofs.GatherLaws.{gathers, gather_room}
use Rattle.cal3d_skeleton_tree_file.proofs.gather.Goals as goal

pub loop-i-init : goal.loop-i-init
loop-i-init c = (search (gathers, rules), refl)

pub lay_bone-requires : goal.lay_bone-requires
lay_bone-requires c = search (gathers, rules)

pub returns-in_default : goal.returns-in_default
returns-in_default c = search (gathers, rules)

pub overflow_add-bone : goal.overflow_add-bone
overflow_add-bone c = let k = gather_room _ _ _ _ _ _ _ c.loop-i.invariant.0 c.loop-i-test.true _ c.lay_bone.ensures _ c.in-Some.is in
    search rules

pub number_at-requires : goal.number_at-requires
number_at-requires c = search (gathers, rules)

pub loop-i-preserved : goal.loop-i-preserved
loop-i-preserved c = search (gathers, rules)

pub returns : goal.returns
returns c = search (gathers, rules)
