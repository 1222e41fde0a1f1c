-- `until_zero` goes to the first zero.
use borrow.Author.Rules.{rules}
use Prim.Native.Nat.{◌-◌}
use Rattle.b3d_pieces_skip_lengths.proofs.ZeroLaws.{zero_laws}
use Rattle.b3d_pieces_skip_lengths.proofs.until_zero.Goals as goal

pub loop-at-init : goal.loop-at-init
loop-at-init c = search (zero_laws, rules)

pub returns-then-piece-at-eq0 : goal.returns-then-piece-at-eq0
returns-then-piece-at-eq0 c = search (zero_laws, rules)

pub loop-at-preserved : goal.loop-at-preserved
loop-at-preserved c = search (zero_laws, rules)

pub returns : goal.returns
returns c = search (zero_laws, rules)
