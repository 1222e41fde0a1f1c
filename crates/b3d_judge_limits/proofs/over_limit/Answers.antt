-- `over_limit` finds the first table over the limit.
use Rattle.b3d_judge_limits.proofs.LimitLaws.{over-ten}
use Rattle.b3d_judge_limits.proofs.over_limit.Goals as goal

pub returns : goal.returns
returns c = search over-ten
