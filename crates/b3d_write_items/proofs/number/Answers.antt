-- `number` gives an element of a slice of words, which is below 2 ^ 32.
use native.Mathlib.Omega.{arith}
use Rattle.b3d_write_items.proofs.number.Goals as goal

pub overflow_cast-result : goal.overflow_cast-result
overflow_cast-result c = omega (arith, c.type_inv.table c.args.i)

pub returns : goal.returns
returns c = omega (arith, c.type_inv.table c.args.i)
