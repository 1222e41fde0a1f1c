-- `trimmed` leaves spare bytes out. The loop has passed whole chunks; its measure is what is left.
use Prim.Native.Nat.{◌-◌}
use Rattle.wire.proofs.AnswerLaws.{headers}
use Rattle.b3d_mend_judge_items.proofs.TrimLaws.{trimming}
use borrow.Author.Rules.{rules}
use Rattle.b3d_mend_judge_items.proofs.trimmed.Goals as goal

pub loop-from-init : goal.loop-from-init
loop-from-init c = search (trimming, headers, rules)

pub header-requires : goal.header-requires
header-requires c = search (trimming, headers, rules)

pub enum_told-1 : goal.enum_told-1
enum_told-1 c = search (trimming, headers, rules)

pub returns-in-End : goal.returns-in-End
returns-in-End c = search (trimming, headers, rules)

pub enum_told-in-Cut : goal.enum_told-in-Cut
enum_told-in-Cut c = search (trimming, headers, rules)

pub overflow_sub-c : goal.overflow_sub-c
overflow_sub-c c = search (trimming, headers, rules)

pub returns-then-c-lt8 : goal.returns-then-c-lt8
returns-then-c-lt8 c = search (trimming, headers, rules)

pub returns-in-Cut : goal.returns-in-Cut
returns-in-Cut c = search (trimming, headers, rules)

pub enum_known-next : goal.enum_known-next
enum_known-next c = search (trimming, headers, rules)

pub loop-from-smaller : goal.loop-from-smaller
loop-from-smaller c = search (trimming, headers, rules)

pub loop-from-preserved : goal.loop-from-preserved
loop-from-preserved c = search (trimming, headers, rules)
