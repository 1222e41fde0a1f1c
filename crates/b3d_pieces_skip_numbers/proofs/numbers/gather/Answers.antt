-- `gather` takes the next bytes of a number.
use borrow.Author.Rules.{rules}
use Prim.Native.Nat.{◌-◌}
use Rattle.b3d_pieces_skip_numbers.proofs.NumberLaws.{gathering_laws}
use Rattle.b3d_pieces_skip_numbers.proofs.numbers.gather.Goals as goal

pub loop-from-init : goal.loop-from-init
loop-from-init c = search (gathering_laws, rules)

pub bounds-piece-from : goal.bounds-piece-from
bounds-piece-from c = search (gathering_laws, rules)

pub gathered-acc-requires : goal.gathered-acc-requires
gathered-acc-requires c = search (gathering_laws, rules)

pub loop-from-preserved : goal.loop-from-preserved
loop-from-preserved c = search (gathering_laws, rules)

pub returns : goal.returns
returns c = search (gathering_laws, rules)
