-- `texs` answers `texs_of`.
use mathlib.Core.Path.{◌≡◌}
use Prim.Native.Nat.{suc, ◌-◌}
use native.Mathlib.Omega.{arith}
use borrow.Author.Rules.{rules}
use Rattle.b3d_judge_tally.specs.Tally.{no_tally, bytes_tally, texs_of}
use Rattle.b3d_judge_tally.proofs.texs.Goals as goal

pub none-requires : goal.none-requires
unfolding no_tally bytes_tally texs_of
none-requires c = search rules

pub returns-then-n-eq0 : goal.returns-then-n-eq0
unfolding no_tally bytes_tally texs_of
returns-then-n-eq0 c = rw (c.none.ensures, c.if-n-eq0.true)

pub overflow_mul-n : goal.overflow_mul-n
unfolding no_tally bytes_tally texs_of
overflow_mul-n c = search rules

pub overflow_add-n : goal.overflow_add-n
unfolding no_tally bytes_tally texs_of
overflow_add-n c = search rules

pub bytes-t-requires : goal.bytes-t-requires
unfolding no_tally bytes_tally texs_of
bytes-t-requires c = search rules

pub returns : goal.returns
unfolding no_tally bytes_tally texs_of
returns c = let n = c.args.n in
    let e : n ≡ suc (n - 1) = omega arith in
    rw (c.bytes-t.ensures, e)
