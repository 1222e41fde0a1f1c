-- `judge_animation` judges KEYS and ANIM. The loop is at a cursor, with how far the chunks have come and the tally of the keys before; its measure is what is left.
use Prim.Native.Nat.{◌-◌}
use Rattle.b3d_judge_animation.proofs.AnimationLaws.{Moving}
use Rattle.b3d_judge_animation.proofs.judge_animation.Given as goal

abbrev pub invariant-loop-tag : goal.invariant-loop-tag
invariant-loop-tag l = Moving l.s l.at l.initial.c l.c l.q l.m

abbrev pub decreases-loop-tag : goal.decreases-loop-tag
decreases-loop-tag l = l.c.end - l.c.at
