-- `brus` answers `brus_of`.
use mathlib.Core.Path.{◌≡◌}
use Prim.Native.Nat.{suc, ◌≤◌, ◌+◌, ◌-◌, ◌*◌}
use native.Mathlib.Omega.{arith}
use native.Mathlib.Nat.{mul-le-mul}
use borrow.Author.Rules.{rules}
use Rattle.b3d_judge_tally.specs.Tally.{no_tally, bytes_tally, brus_of}
use Rattle.b3d_judge_tally.proofs.brus.Goals as goal

pub none-requires : goal.none-requires
unfolding no_tally bytes_tally brus_of
none-requires c = search rules

pub returns-then-n-eq0 : goal.returns-then-n-eq0
unfolding no_tally bytes_tally brus_of
returns-then-n-eq0 c = rw (c.none.ensures, c.if-n-eq0.true)

pub overflow_mul-slots : goal.overflow_mul-slots
unfolding no_tally bytes_tally brus_of
overflow_mul-slots c = search rules

pub overflow_add-slots : goal.overflow_add-slots
unfolding no_tally bytes_tally brus_of
overflow_add-slots c = search rules

pub overflow_mul-n : goal.overflow_mul-n
unfolding no_tally bytes_tally brus_of
overflow_mul-n c = let size : 29 + 4 * c.args.slots ≤ 61 = omega arith in
    omega (arith, mul-le-mul c.requires.0 size)

pub overflow_add-n : goal.overflow_add-n
unfolding no_tally bytes_tally brus_of
overflow_add-n c = let size : 29 + 4 * c.args.slots ≤ 61 = omega arith in
    omega (arith, mul-le-mul c.requires.0 size)

pub bytes-t-requires : goal.bytes-t-requires
unfolding no_tally bytes_tally brus_of
bytes-t-requires c = search rules

pub returns : goal.returns
unfolding no_tally bytes_tally brus_of
returns c = let n = c.args.n in
    let e : n ≡ suc (n - 1) = omega arith in
    rw (c.bytes-t.ensures, e)
