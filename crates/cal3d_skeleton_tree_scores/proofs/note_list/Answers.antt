-- `note_list` notes each entry of a bone's list. The loop has noted those before i.
use native.Mathlib.Omega.{arith}
use borrow.Author.Rules.{rules}
use Rattle.cal3d_skeleton_tree_scores.proofs.NoteLaws.{noting, noting_low, noting_bone}
use Rattle.cal3d_skeleton_tree_scores.proofs.note_list.Goals as goal

pub loop-i-init : goal.loop-i-init
loop-i-init c = search (noting, rules)

pub note-requires : goal.note-requires
note-requires c = let n = c.loop-i.invariant in
    let h = c.loop-i-test.true in
    let p = c.requires in
    let b = noting_bone _ _ _ _ _ _ _ _ _ n h p.count_in_bounds.0 _ _ c.size.ensures c.number_at.ensures p.scores_len.2 in
    let l = noting_low _ _ _ _ _ _ _ _ _ n h p.count_in_bounds.0 _ _ c.size.ensures c.number_at.ensures p.count_in_bounds.1 in
    let long = n.long in
    let same = p.scores_len.0 in
    (b, omega arith, l)

pub loop-i-preserved : goal.loop-i-preserved
loop-i-preserved c = search (noting, rules)

pub returns : goal.returns
returns c = search (noting, rules)
