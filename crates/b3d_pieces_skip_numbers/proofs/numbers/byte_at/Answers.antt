-- `byte_at` gives the byte at a place.
use borrow.Author.Rules.{rules}
use native.Mathlib.Omega.{arith}
use Rattle.b3d_pieces_skip_numbers.proofs.numbers.byte_at.Goals as goal

pub overflow_cast-result : goal.overflow_cast-result
overflow_cast-result c = omega (arith, c.type_inv.piece c.args.from)

pub returns : goal.returns
returns c = (search rules, omega (arith, c.type_inv.piece c.args.from))
