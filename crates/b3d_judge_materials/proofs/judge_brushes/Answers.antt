-- `judge_brushes` answers `read_brushes`, its slots and its tally.
use Rattle.std.proofs.lemmas.Result.{err_from_is_err_and}
use borrow.Author.Rules.{rules}
use Rattle.wire.proofs.AnswerLaws.{numbers}
use Rattle.b3d_judge_materials.proofs.SlotLaws.{brus}
use Rattle.b3d_judge_materials.proofs.judge_brushes.Goals as goal

pub returns-then-slots-gt-MOST_SLOTS : goal.returns-then-slots-gt-MOST_SLOTS
returns-then-slots-gt-MOST_SLOTS c = search (brus, rules)

pub brush_items-requires : goal.brush_items-requires
brush_items-requires c = search (numbers, rules)

pub returns-then-count-eq0 : goal.returns-then-count-eq0
returns-then-count-eq0 c = let h = c.in_ok-count.was in search (brus, rules)

pub brus-requires : goal.brus-requires
brus-requires c = let h = c.in_ok-count.was in search (brus, rules)

pub returns-in_default : goal.returns-in_default
returns-in_default c = search (brus, rules)

pub returns-in_err-count : goal.returns-in_err-count
returns-in_err-count c = let h = c.in_err-count.was in let p = err_from_is_err_and c.from_residual.result c.from_residual.ensures.1 in rw (p.1, p.2) (search (brus, rules))

pub returns : goal.returns
returns c = let h = c.in_ok-count.was in search (brus, rules)
