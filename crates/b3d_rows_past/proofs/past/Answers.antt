-- `past` moves the cursor of the items on.
use Rattle.b3d_rows_past.proofs.PastLaws.{past_is}
use Rattle.b3d_rows_past.proofs.past.Goals as goal

pub returns : goal.returns
returns c = past_is _ _
