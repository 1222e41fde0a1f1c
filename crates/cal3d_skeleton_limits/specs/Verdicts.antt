-- What a skeleton file comes to, as code holds it.
use Rattle.layout.specs.Refused.{refusal_at}
use Rattle.std.specs.Prelude as std
use Rattle.cal3d_skeleton_limits.specs.declared.SkeletonSummary.{SkeletonSummary}
use Rattle.layout.specs.declared.Refusal.{Refusal}
use Rattle.std.specs.Prelude.{get_or, Ok, Err}
use Rattle.layout.specs.Result.{Result, accept, reject}
use Rattle.cal3d_spec.specs.Skeletons.{Skeleton}
use Rattle.cal3d_skeleton_bones.specs.Bones.{children_in}

-- the summary of the skeleton t, or the refusal
unfoldable pub verdict_of : Result Skeleton → std.Result SkeletonSummary Refusal
verdict_of (accept t) =
    Ok (record {
      bones = get_or t.head 1 0;
      red = get_or t.head 2 0;
      green = get_or t.head 3 0;
      blue = get_or t.head 4 0;
      children = children_in t.bones;
    })
verdict_of (reject n p) = Err (refusal_at n p)
