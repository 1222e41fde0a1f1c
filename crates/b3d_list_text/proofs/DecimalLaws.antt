-- A number of two digits or more is that of its tenth, and its last digit.
use mathlib.Core.Path.{◌≡◌, ap, sym, ◌∙◌}
use Prim.Native.Nat.{ℕ, zero, suc, ◌+◌, ◌/◌, ◌%◌, ◌<◌, ◌≤◌}
use native.Mathlib.Omega.{arith}
use mathlib.Core.List.{List, [], ◌∷◌, ◌++◌}
use lib.Dec.{ltb, nltb→le}
use borrow.Author.Tests.{lt-ltb, le-ltb}
use Rattle.wire.specs.Test.{if}
use Rattle.layout.proofs.ResultLaws.{by_test, if_yes, if_no}
use Rattle.b3d_list_text.specs.Text.{decimal_in, decimal}

-- as much as is enough
decimal-enough : (k l n : ℕ) → n < k → n < l → decimal_in k n ≡ decimal_in l n
unfolding decimal_in
decimal-enough zero l n h i = absurd (omega arith)
decimal-enough (suc k) zero n h i = absurd (omega arith)
decimal-enough (suc k) (suc l) n h i =
    by_test (ltb n 10)
    (λ t. if_yes (ltb n 10) _ _ t ∙ sym (if_yes (ltb n 10) _ _ t))
    (λ t. let m = nltb→le n 10 t in
    if_no (ltb n 10) _ _ t ∙ ap (λ (d : List ℕ). d ++ ((48 + n % 10) ∷ [])) (decimal-enough k l (n / 10) (omega arith) (omega arith))
    ∙ sym (if_no (ltb n 10) _ _ t))

pub decimal-one : (n : ℕ) → n < 10 → decimal n ≡ (48 + n) ∷ []
unfolding decimal decimal_in if
decimal-one n h = rw (lt-ltb n 10 h)

pub decimal-more : (n : ℕ) → 10 ≤ n → decimal n ≡ decimal (n / 10) ++ ((48 + n % 10) ∷ [])
unfolding decimal decimal_in if
decimal-more n h = rw (le-ltb n 10 h) (ap (λ (d : List ℕ). d ++ ((48 + n % 10) ∷ [])) (decimal-enough n (suc (n / 10)) (n / 10) (omega arith) (omega arith)))
