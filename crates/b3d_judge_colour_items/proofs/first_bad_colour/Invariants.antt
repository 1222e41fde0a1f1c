-- `first_bad_colour` answers `first_bad` of the words. The loop has passed words that keep the rule.
use Rattle.layout.specs.Rules.{unit}
use Rattle.shared_ids.proofs.IdLaws.{Before}
use Rattle.b3d_judge_colour_items.proofs.first_bad_colour.Given as goal

abbrev pub invariant-loop-i : goal.invariant-loop-i
invariant-loop-i l = Before l.s l.start unit l.i
