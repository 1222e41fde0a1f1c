-- `next_chunk` answers the first known chunk. The loop has passed unknown ones only; its measure is what is left.
use Prim.Native.Nat.{◌-◌}
use mathlib.Core.Path.{sym, ◌∙◌}
use borrow.Author.Rules.{rules}
use Rattle.wire.proofs.AnswerLaws.{framed}
use Rattle.b3d_chunk_cursor.proofs.PassLaws.{passing}
use Rattle.b3d_chunk_cursor.proofs.next_chunk.Goals as goal

pub loop-tag-init : goal.loop-tag-init
loop-tag-init c = search (passing, rules)

pub returns-in-End : goal.returns-in-End
returns-in-End c = search (passing, rules)

pub returns-in-Cut : goal.returns-in-Cut
returns-in-Cut c = search (passing, rules)

pub loop-tag-smaller : goal.loop-tag-smaller
loop-tag-smaller c = let f = framed _ _ _ _ _ (sym c.header.ensures ∙ c.in-Whole.is) in search rules

pub loop-tag-preserved : goal.loop-tag-preserved
loop-tag-preserved c = let f = framed _ _ _ _ _ (sym c.header.ensures ∙ c.in-Whole.is) in search (passing, rules)

pub returns-in-Some : goal.returns-in-Some
returns-in-Some c = search (passing, rules)
