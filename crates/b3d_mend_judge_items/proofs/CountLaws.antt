-- What is counted of a scene are the rows of its tables, whatever its ids are.
use mathlib.Core.Path.{◌≡◌}
use lib.ListN.{length}
use Rattle.b3d_spec.specs.Scene.{Scene}
use Rattle.b3d_spec.specs.Tables.{rows}
use Rattle.b3d_judge_tally.specs.Tally.{scene_tally}
use Rattle.b3d_judge_tally.proofs.TotalLaws.{total_rows}
use Rattle.b3d_judge_limits.specs.Limits.{tallied}

pub counts_are : (t : Scene) → scene_tally t ≡ tallied (λ k. length (rows k t)) (scene_tally t).copy
counts_are t = total_rows t
