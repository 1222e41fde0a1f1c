-- `count_lists` passes the key lists of a node. Those before i are its own.
use Rattle.b3d_write_animation.proofs.MoveLaws.{count_laws, count_one, count_stop}
use borrow.Author.Rules.{rules}
use Rattle.b3d_write_animation.proofs.count_lists.Goals as goal

pub loop-i-init : goal.loop-i-init
loop-i-init c = search (count_laws, rules)

pub overflow_mul-i : goal.overflow_mul-i
overflow_mul-i c = search (count_laws, rules)

pub number-requires : goal.number-requires
number-requires c = search (count_laws, rules)

pub overflow_sub-result : goal.overflow_sub-result
overflow_sub-result c = search (count_laws, rules)

pub returns-then-number-node : goal.returns-then-number-node
returns-then-number-node c = count_stop _ _ _ _ c.loop-i.invariant c.loop-i-test.true _ c.number.ensures.0 c.if-number-node.true

pub loop-i-preserved : goal.loop-i-preserved
loop-i-preserved c = count_one _ _ _ _ c.loop-i.invariant c.loop-i-test.true _ c.number.ensures.0 c.if-number-node.false

pub returns : goal.returns
returns c = search (count_laws, rules)
