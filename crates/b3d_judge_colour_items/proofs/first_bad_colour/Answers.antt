-- `first_bad_colour` answers `first_bad` of the words. The loop has passed words that keep the rule.
use native.Mathlib.Nat.{le_of_lt}
use borrow.Author.Rules.{rules}
use Rattle.shared_ids.proofs.IdLaws.{firsts}
use Rattle.b3d_judge_colour_items.proofs.first_bad_colour.Goals as goal

pub loop-i-init : goal.loop-i-init
loop-i-init c = search (firsts, rules)

pub returns-then-not-colour_ok : goal.returns-then-not-colour_ok
returns-then-not-colour_ok c = search (firsts, le_of_lt, rules)

pub loop-i-preserved : goal.loop-i-preserved
loop-i-preserved c = search (firsts, rules)

pub returns : goal.returns
returns c = search (firsts, rules)
