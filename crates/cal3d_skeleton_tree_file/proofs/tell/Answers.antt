-- `tell` notes each bone's list.
use mathlib.Core.Path.{refl, sym, ◌∙◌}
use native.Mathlib.Omega.{arith}
use borrow.Author.Rules.{rules}
use Rattle.cal3d_skeleton_tree_file.proofs.TellLaws.{tells, tell_room, tell_entries, tell_listed, tell_next}
use Rattle.cal3d_skeleton_tree_file.proofs.tell.Goals as goal

pub loop-i-init : goal.loop-i-init
loop-i-init c = (search (tells, rules), refl)

pub lay_bone-requires : goal.lay_bone-requires
lay_bone-requires c = search (tells, rules)

pub returns-in_default : goal.returns-in_default
returns-in_default c = search (tells, rules)

pub overflow_add-bone : goal.overflow_add-bone
overflow_add-bone c = let room = tell_room _ _ _ _ _ _ _ _ c.loop-i.invariant.0 c.loop-i-test.true _ c.lay_bone.ensures _ c.in-Some.is in
    let small = c.requires.0.small in
    omega arith

pub overflow_cast-i : goal.overflow_cast-i
overflow_cast-i c = let less = c.loop-i-test.true in
    let few = c.requires.0.few in
    omega arith

pub note_list-requires : goal.note_list-requires
note_list-requires c = let room = tell_room _ _ _ _ _ _ _ _ c.loop-i.invariant.0 c.loop-i-test.true _ c.lay_bone.ensures _ c.in-Some.is in
    let few = tell_entries _ _ _ _ _ _ _ _ c.loop-i.invariant.0 c.loop-i-test.true _ c.lay_bone.ensures _ c.in-Some.is c.requires.0.small in
    let t = c.loop-i.invariant.0 in
    record { count_in_bounds = (room, few); scores_len = (t.same ∙ sym t.long, t.low, tell_listed _ _ _ _ _ _ _ _ c.loop-i.invariant.0 c.loop-i-test.true _ c.lay_bone.ensures _ c.in-Some.is) }

pub overflow_add-entries : goal.overflow_add-entries
overflow_add-entries c = let few = tell_entries _ _ _ _ _ _ _ _ c.loop-i.invariant.0 c.loop-i-test.true _ c.lay_bone.ensures _ c.in-Some.is c.requires.0.small in
    omega arith

pub loop-i-preserved : goal.loop-i-preserved
loop-i-preserved c = let e = c.note_list.ensures in
    (tell_next _ _ _ _ _ _ _ _ c.loop-i.invariant.0 c.loop-i-test.true _ c.lay_bone.ensures _ c.in-Some.is _ refl _ e.0 e.1, search rules)

pub returns : goal.returns
returns c = search (tells, rules)
