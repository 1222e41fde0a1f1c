-- The body of a chunk and the chunks inside, which call each other: the levels left fall. The loop's measure is what is left.
use Prim.Native.Nat.{◌*◌, ◌+◌, ◌-◌}
use Rattle.b3d_mend_write_chunks.proofs.InsideLaws.{Going}
use Rattle.b3d_mend_write_chunks.proofs.+walk_body_walk_inside.Given as goal

-- walk_inside
abbrev pub invariant-walk_inside-loop-out : goal.invariant-walk_inside-loop-out
invariant-walk_inside-loop-out l = Going l.file l.levels l.initial.c l.initial.k l.report l.wet l.initial.out l.start l.out l.c l.k l.at

-- walk_inside
abbrev pub decreases-walk_inside-loop-out : goal.decreases-walk_inside-loop-out
decreases-walk_inside-loop-out l = l.c.end - l.c.at

abbrev pub decreases-walk_body : goal.decreases-walk_body
decreases-walk_body l = 2 * l.levels

abbrev pub decreases-walk_inside : goal.decreases-walk_inside
decreases-walk_inside l = 2 * l.levels + 1
