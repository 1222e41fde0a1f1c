-- `kept_bytes` counts the bytes of the items that stay. The loop has passed some of them; its measure is what is left.
use Prim.Native.Nat.{◌-◌}
use Rattle.b3d_mend_write_items.proofs.ItemPutLaws.{stay_laws}
use borrow.Author.Rules.{rules}
use Rattle.b3d_mend_write_items.proofs.kept_bytes.Goals as goal

pub overflow_mul-size : goal.overflow_mul-size
overflow_mul-size c = search (stay_laws, rules)

pub loop-n-init : goal.loop-n-init
loop-n-init c = search (stay_laws, rules)

pub overflow_sub-end : goal.overflow_sub-end
overflow_sub-end c = search (stay_laws, rules)

pub overflow_sub-end-in-loop-n : goal.overflow_sub-end-in-loop-n
overflow_sub-end-in-loop-n c = search (stay_laws, rules)

pub overflow_add-item : goal.overflow_add-item
overflow_add-item c = search (stay_laws, rules)

pub kept_one-one-requires : goal.kept_one-one-requires
kept_one-one-requires c = search (stay_laws, rules)

pub returns-then-one-eq0 : goal.returns-then-one-eq0
returns-then-one-eq0 c = search (stay_laws, rules)

pub overflow_add-n : goal.overflow_add-n
overflow_add-n c = search (stay_laws, rules)

pub loop-n-smaller : goal.loop-n-smaller
loop-n-smaller c = search (stay_laws, rules)

pub loop-n-preserved : goal.loop-n-preserved
loop-n-preserved c = search (stay_laws, rules)

pub returns : goal.returns
returns c = search (stay_laws, rules)
