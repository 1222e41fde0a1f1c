-- Tables by their numbers: what holds of each table of a list holds of table k.
use mathlib.Core.Path.{sym, subst}
use mathlib.Core.Logic.{◌≢◌}
use Prim.Native.Nat.{ℕ, zero, suc, ◌+◌, ◌≤◌, ◌<◌}
use native.Mathlib.Omega.{arith}
use mathlib.Core.List.{List, [], ◌∷◌}
use lib.Dec.{eqb, eqb→eq}
use mir.Facts.{eqb_no}
use Rattle.layout.proofs.AllLaws.{All}
use Rattle.layout.proofs.ResultLaws.{by_test}
use Rattle.b3d_spec.specs.Tables.{node_tables, tables}

-- so many numbers from a on
range : ℕ → ℕ → List ℕ
range a zero = []
range a (suc n) = a ∷ range (suc a) n

in_range : (P : ℕ → Type 0) (n a k : ℕ) → All P (range a n) → a ≤ k → k < a + n → P k
unfolding range
in_range P zero a k h l u = absurd (omega arith)
in_range P (suc n) a k h l u =
    by_test (eqb k a) (λ e. subst P (sym (eqb→eq k a e)) h.0)
    (λ e. let d : k ≢ a = eqb_no e in in_range P n (suc a) k h.1 (omega arith) (omega arith))

all-range : (P : ℕ → Type 0) (n a : ℕ) → ((k : ℕ) → a ≤ k → k < a + n → P k) → All P (range a n)
unfolding range
all-range P zero a f = tt
all-range P (suc n) a f = (f a (omega arith) (omega arith), all-range P n (suc a) (λ k l u. f k (omega arith) (omega arith)))

-- of each of the tables 3 to 10
pub at_table : (P : ℕ → Type 0) (k : ℕ) → All P node_tables → 3 ≤ k → k ≤ 10 → P k
unfolding node_tables range
at_table P k h l u = in_range P 8 3 k h l (omega arith)

-- of each of the ten
pub table-each : (P : ℕ → Type 0) → All P tables → (k : ℕ) → 1 ≤ k → k ≤ 10 → P k
unfolding tables node_tables range
table-each P h k l u = in_range P 10 1 k h l (omega arith)

pub each-table : (P : ℕ → Type 0) → ((k : ℕ) → 1 ≤ k → k ≤ 10 → P k) → All P tables
unfolding tables node_tables range
each-table P f = all-range P 10 1 (λ k l u. f k l (omega arith))

pub ten-tables : (P : ℕ → Type 0) → P 1 → P 2 → P 3 → P 4 → P 5 → P 6 → P 7 → P 8 → P 9 → P 10 → All P tables
unfolding tables node_tables
ten-tables P a b c d e f g h i j = (a, (b, (c, (d, (e, (f, (g, (h, (i, (j, tt))))))))))
