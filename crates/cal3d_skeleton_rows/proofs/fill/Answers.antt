-- `fill` stores the rows of each bone.
use native.Mathlib.Omega.{arith}
use mathlib.Core.Path.{refl}
use borrow.Author.Rules.{rules}
use Rattle.cal3d_skeleton_rows.proofs.FillLaws.{fills, fill_numbers, fill_kids, fill_places, fill_before, fill_next}
use Rattle.cal3d_skeleton_rows.proofs.fill.Goals as goal

pub loop-i-init : goal.loop-i-init
loop-i-init c = (search (fills, rules), refl, refl)

pub lay_bone-requires : goal.lay_bone-requires
lay_bone-requires c = search (fills, rules)

pub returns-in_default : goal.returns-in_default
returns-in_default c = record { bones_after = search (fills, rules); children_after = search (fills, rules) }

pub overflow_add-name : goal.overflow_add-name
overflow_add-name c = let inside = c.loop-i.invariant.0.walked.inside in
    let small = c.requires.good_bones.0.small in
    omega arith

pub overflow_mul-i : goal.overflow_mul-i
overflow_mul-i c = let less = c.loop-i-test.true in
    let few = c.requires.good_bones.0.few in
    omega arith

pub put_bone-requires : goal.put_bone-requires
put_bone-requires c = let places = fill_places _ _ _ _ _ _ _ _ _ _ c.loop-i.invariant.0 c.loop-i-test.true _ c.lay_bone.ensures _ c.in-Some.is in
    let before = fill_before _ _ _ _ _ _ _ _ _ _ c.loop-i.invariant.0 c.loop-i-test.true _ c.lay_bone.ensures _ c.in-Some.is in
    let less = c.loop-i-test.true in
    let same = c.loop-i.invariant.1 in
    let p = c.requires in
    let limit = p.count_in_bounds.1 in
    let room = p.good_bones.1 in
    record { inside = (fill_numbers _ _ _ _ _ _ _ _ _ _ c.loop-i.invariant.0 c.loop-i-test.true _ c.lay_bone.ensures _ c.in-Some.is, omega arith, places.0, p.good_bones.0.small); before_bound = (omega arith, omega arith) }

pub overflow_add-at : goal.overflow_add-at
overflow_add-at c = let places = fill_places _ _ _ _ _ _ _ _ _ _ c.loop-i.invariant.0 c.loop-i-test.true _ c.lay_bone.ensures _ c.in-Some.is in
    let inside = c.loop-i.invariant.0.walked.inside in
    let small = c.requires.good_bones.0.small in
    omega arith

pub copy_words-requires : goal.copy_words-requires
copy_words-requires c = let places = fill_places _ _ _ _ _ _ _ _ _ _ c.loop-i.invariant.0 c.loop-i-test.true _ c.lay_bone.ensures _ c.in-Some.is in
    let before = fill_before _ _ _ _ _ _ _ _ _ _ c.loop-i.invariant.0 c.loop-i-test.true _ c.lay_bone.ensures _ c.in-Some.is in
    let same = c.loop-i.invariant.2 in
    let room = c.requires.count_in_bounds.0 in
    (fill_kids _ _ _ _ _ _ _ _ _ _ c.loop-i.invariant.0 c.loop-i-test.true _ c.lay_bone.ensures _ c.in-Some.is, places.1, omega arith)

pub overflow_add-before : goal.overflow_add-before
overflow_add-before c = let before = fill_before _ _ _ _ _ _ _ _ _ _ c.loop-i.invariant.0 c.loop-i-test.true _ c.lay_bone.ensures _ c.in-Some.is in
    let limit = c.requires.count_in_bounds.1 in
    omega arith

pub loop-i-preserved : goal.loop-i-preserved
loop-i-preserved c = (fill_next _ _ _ _ _ _ _ _ _ _ c.loop-i.invariant.0 c.loop-i-test.true _ c.lay_bone.ensures _ c.in-Some.is _ _ c.put_bone.ensures c.copy_words.ensures, search rules, search rules)

pub returns : goal.returns
returns c = record { bones_after = search (fills, rules); children_after = search (fills, rules) }
