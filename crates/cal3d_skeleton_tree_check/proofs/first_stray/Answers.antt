-- `first_stray` answers the lowest bone that does not stand right. The loop has passed bones that do.
use mathlib.Core.Path.{ap}
use mathlib.Core.Bool.{not}
use borrow.Author.Rules.{rules}
use Rattle.cal3d_skeleton_tree_check.proofs.StrayLaws.{straying, stray_score, stray_ends, stray_kept, stray_next}
use Rattle.cal3d_skeleton_tree_check.proofs.first_stray.Goals as goal

pub loop-b-init : goal.loop-b-init
loop-b-init c = search (straying, rules)

pub returns-then-scores-b : goal.returns-then-scores-b
returns-then-scores-b c = stray_score _ _ _ _ c.loop-b.invariant.0 c.loop-b-test.true _ c.wanted.ensures c.if-scores-b.true

pub returns-then-not-climbs : goal.returns-then-not-climbs
returns-then-not-climbs c = stray_ends _ _ _ _ c.loop-b.invariant.0 c.loop-b-test.true _ c.wanted.ensures c.if-scores-b.false _ c.climbs.ensures (ap not c.if-not-climbs.true)

pub mark-requires : goal.mark-requires
mark-requires c = let k = stray_kept _ _ _ _ c.loop-b.invariant.0 c.loop-b-test.true _ c.wanted.ensures c.if-scores-b.false _ c.climbs.ensures (ap not c.if-not-climbs.false) in
    search rules

pub loop-b-preserved : goal.loop-b-preserved
loop-b-preserved c = let n = stray_next _ _ _ _ c.loop-b.invariant.0 c.loop-b-test.true _ c.wanted.ensures c.if-scores-b.false _ c.climbs.ensures (ap not c.if-not-climbs.false) _ c.mark.ensures in
    search rules

pub returns : goal.returns
returns c = search (straying, rules)
