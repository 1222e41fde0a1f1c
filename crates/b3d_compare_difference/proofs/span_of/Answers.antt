-- `span_of` by its ways.
use borrow.Author.Rules.{rules}
use Rattle.b3d_compare_difference.proofs.ValueLaws.{span_laws}
use Rattle.b3d_compare_difference.proofs.span_of.Goals as goal

pub returns-then-s-p : goal.returns-then-s-p
returns-then-s-p c = search (span_laws, rules)

pub returns-then-left-n : goal.returns-then-left-n
returns-then-left-n c = search (span_laws, rules)

pub returns : goal.returns
returns c = search (span_laws, rules)
