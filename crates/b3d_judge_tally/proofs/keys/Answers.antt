-- `keys` answers `keys_tally`.
use native.Mathlib.Omega.{arith}
use native.Mathlib.Nat.{mul-le-mul, mul-le-mul_left}
use borrow.Author.Rules.{rules}
use Rattle.b3d_judge_tally.specs.Tally.{bytes_tally, keys_tally}
use Rattle.b3d_judge_tally.proofs.keys.Goals as goal

pub overflow_mul-words : goal.overflow_mul-words
unfolding bytes_tally keys_tally
overflow_mul-words c = search rules

pub overflow_mul-n : goal.overflow_mul-n
unfolding bytes_tally keys_tally
overflow_mul-n c = omega (arith, mul-le-mul c.requires.0 (mul-le-mul_left 4 c.requires.1))

pub overflow_add-n : goal.overflow_add-n
unfolding bytes_tally keys_tally
overflow_add-n c = omega (arith, mul-le-mul c.requires.0 (mul-le-mul_left 4 c.requires.1))

pub bytes-t-requires : goal.bytes-t-requires
unfolding bytes_tally keys_tally
bytes-t-requires c = search rules

pub returns : goal.returns
unfolding bytes_tally keys_tally
returns c = rw c.bytes-t.ensures
