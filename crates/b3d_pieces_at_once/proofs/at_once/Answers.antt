-- `at_once` does what its promise says.
use mathlib.Core.Path.{refl}
use borrow.Author.Rules.{rules}
use Rattle.b3d_pieces_at_once.proofs.OnceLaws.{once-taken, once-refused, once_laws}
use Rattle.b3d_pieces_at_once.proofs.at_once.Goals as goal

pub first_number-number-requires : goal.first_number-number-requires
first_number-number-requires c = search (once_laws, rules)

pub moved-next-requires : goal.moved-next-requires
moved-next-requires c = search (once_laws, rules)

pub overflow_sub-at : goal.overflow_sub-at
overflow_sub-at c = search (once_laws, rules)

pub returns-then-number-eq0 : goal.returns-then-number-eq0
returns-then-number-eq0 c = once-taken _ _ c.requires _ c.judge_of-j.ensures _ c.first_number-number.ensures c.if-number-eq0.true _ _ c.moved-next.ensures _ refl _ refl

pub returns : goal.returns
returns c = once-refused _ _ c.requires _ c.judge_of-j.ensures _ c.first_number-number.ensures c.if-number-eq0.false _ _ c.first_place-place.ensures _ refl _ refl
