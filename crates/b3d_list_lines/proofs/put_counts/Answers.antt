-- `put_counts` puts the ten counts of the tally.
use Rattle.b3d_judge_limits.specs.Rooms.{counts_in}
use borrow.Author.Rules.{rules}
use Rattle.b3d_list_lines.proofs.put_counts.Goals as goal

pub returns : goal.returns
unfolding counts_in
returns c = search rules
