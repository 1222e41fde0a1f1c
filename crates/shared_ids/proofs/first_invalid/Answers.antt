-- `first_invalid` answers `first_bad` of the words. The loop has passed words that keep the rule.
use native.Mathlib.Nat.{le_of_lt}
use borrow.Author.Rules.{rules}
use Rattle.shared_ids.proofs.IdLaws.{firsts}
use Rattle.shared_ids.proofs.first_invalid.Goals as goal

pub loop-i-init : goal.loop-i-init
loop-i-init c = search (firsts, rules)

pub returns-then-not-id_valid : goal.returns-then-not-id_valid
returns-then-not-id_valid c = search (firsts, le_of_lt, rules)

pub loop-i-preserved : goal.loop-i-preserved
loop-i-preserved c = search (firsts, rules)

pub returns : goal.returns
returns c = search (firsts, rules)
