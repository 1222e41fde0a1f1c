-- `first_invalid` answers `first_bad` of the words. The loop has passed words that keep the rule.
use Rattle.shared_ids.specs.Ids.{id_rule}
use Rattle.shared_ids.proofs.IdLaws.{Before}
use Rattle.shared_ids.proofs.first_invalid.Given as goal

abbrev pub invariant-loop-i : goal.invariant-loop-i
invariant-loop-i l = Before l.s l.start (id_rule l.absent l.limit) l.i
