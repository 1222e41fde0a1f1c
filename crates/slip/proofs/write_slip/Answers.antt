-- `write_slip` looks at the ranges, then at the room, and writes.
use borrow.Author.Rules.{rules}
use Rattle.slip.proofs.WriteLaws.{write_laws}
use Rattle.slip.proofs.write_slip.Goals as goal

pub returns-then-over-lt12 : goal.returns-then-over-lt12
returns-then-over-lt12 c = search (write_laws, rules)

pub returns-then-out-size : goal.returns-then-out-size
returns-then-out-size c = search (write_laws, rules)

pub put_slip-requires : goal.put_slip-requires
put_slip-requires c = search (write_laws, rules)

pub returns : goal.returns
returns c = search (write_laws, rules)
