-- How long a line of numbers is at most.
use mathlib.Core.Path.{ap}
use Prim.Native.Nat.{ℕ, zero, suc, ◌+◌, ◌*◌, ◌/◌, ◌%◌, ◌^◌, ◌<◌, ◌≤◌}
use native.Mathlib.Nat.{pow-succ'}
use native.Mathlib.Omega.{arith}
use mathlib.Core.List.{List, [], ◌∷◌}
use lib.ListN.{length, length-append}
use lib.Dec.{ltb, ltb→lt, nltb→le}
use Rattle.wire.specs.Bytes.{IsWord}
use Rattle.layout.proofs.AllLaws.{All}
use Rattle.layout.proofs.ResultLaws.{by_test}
use Rattle.b3d_list_text.specs.Text.{decimal, after, number_line}
use Rattle.b3d_list_text.proofs.DecimalLaws.{decimal-one, decimal-more}

-- a number below a power of ten has so many digits or fewer
pub decimal-length : (k n : ℕ) → n < 10 ^ suc k → length (decimal n) ≤ suc k
decimal-length zero n h = omega (arith, ap length (decimal-one n h))
decimal-length (suc k) n h =
    by_test (ltb n 10)
    (λ t. omega (arith, ap length (decimal-one n (ltb→lt n 10 t))))
    (λ t. let d = nltb→le n 10 t in
    let e = decimal-length k (n / 10) (omega (arith, pow-succ' 10 (suc k))) in
    omega (arith, ap length (decimal-more n d), length-append (decimal (n / 10)) ((48 + n % 10) ∷ [])))

-- words have ten digits or fewer
pub numbers-length : (ns : List ℕ) → All IsWord ns → length (number_line ns) ≤ 11 * length ns
unfolding number_line
numbers-length [] h = omega arith
numbers-length (n ∷ ns) h =
    omega (arith, decimal-length 9 n (omega (arith, h.0)), numbers-length ns h.1, length-append (decimal n) (after ns ∷ number_line ns))
