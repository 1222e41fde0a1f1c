-- `numbers` takes one number after the other.
use borrow.Author.Rules.{rules}
use Prim.Native.Nat.{◌-◌}
use Rattle.b3d_pieces_skip_numbers.proofs.NumberLaws.{numbering_laws}
use Rattle.b3d_pieces_skip_numbers.proofs.numbers.numbers.Goals as goal

pub loop-y-init : goal.loop-y-init
loop-y-init c = search (numbering_laws, rules)

pub overflow_sub-last : goal.overflow_sub-last
overflow_sub-last c = search (numbering_laws, rules)

pub number-y-requires : goal.number-y-requires
number-y-requires c = search (numbering_laws, rules)

pub returns-then-y-from : goal.returns-then-y-from
returns-then-y-from c = search (numbering_laws, rules)

pub returns-then-y-eq0 : goal.returns-then-y-eq0
returns-then-y-eq0 c = search (numbering_laws, rules)

pub loop-y-smaller-else-y-eq0 : goal.loop-y-smaller-else-y-eq0
loop-y-smaller-else-y-eq0 c = search (numbering_laws, rules)

pub loop-y-preserved-else-y-eq0 : goal.loop-y-preserved-else-y-eq0
loop-y-preserved-else-y-eq0 c = search (numbering_laws, rules)

pub loop-y-smaller : goal.loop-y-smaller
loop-y-smaller c = search (numbering_laws, rules)

pub loop-y-preserved : goal.loop-y-preserved
loop-y-preserved c = search (numbering_laws, rules)

pub returns : goal.returns
returns c = search (numbering_laws, rules)
