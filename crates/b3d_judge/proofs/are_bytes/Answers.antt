-- A slice of bytes holds bytes.
use native.Mathlib.Omega.{arith}
use Rattle.b3d_judge.proofs.JudgeLaws.{no_bytes}
use Rattle.wire.proofs.WordLaws.{all-bytes}
use Rattle.b3d_judge.proofs.are_bytes.Goals as goal

pub returns-then-s-gt0 : goal.returns-then-s-gt0
returns-then-s-gt0 c = all-bytes c.args.s.now (λ i. omega (arith, c.type_inv.s i))

pub returns-else-s-gt0 : goal.returns-else-s-gt0
returns-else-s-gt0 c = no_bytes c.args.s.now (omega arith)
