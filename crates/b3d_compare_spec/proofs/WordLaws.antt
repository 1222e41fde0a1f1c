-- The words of a table, by the tables that there are.
use mathlib.Core.Path.{◌≡◌, refl}
use Prim.Native.Nat.{ℕ, zero, suc, ◌<◌, ◌≤◌}
use native.Mathlib.Omega.{arith}
use mathlib.Core.List.{List, [], ◌∷◌}
use lib.ListN.{length}
use lib.Dec.{T, eqb, eqb→eq, leb, leb→le}
use Rattle.wire.specs.Test.{if}
use Rattle.layout.proofs.AllLaws.{All}
use Rattle.layout.proofs.ResultLaws.{if_case}
use Rattle.b3d_spec.specs.Tables.{width, tables, node_tables}
use Rattle.b3d_compare_spec.specs.declared.WordKind.{WordKind}
use Rattle.b3d_compare_spec.specs.Words.{word_kinds, words_of}

-- what holds of the words of each table holds of those of table k
abbrev pub Each : ℕ → (List WordKind → Type 0) → List ℕ → Type 0
Each k P [] = Unit {0}
Each k P (i ∷ is) = (k ≡ i → P (word_kinds i)) × Each k P is

pub kinds-by : (k : ℕ) (P : List WordKind → Type 0) → Each k P (0 ∷ 1 ∷ 2 ∷ 3 ∷ 4 ∷ 5 ∷ 6 ∷ 7 ∷ 8 ∷ 9 ∷ 10 ∷ []) → P [] → P (word_kinds k)
unfolding word_kinds if
kinds-by k P h none =
    if_case P (eqb k 0) _ _ (λ t. h.0 (eqb→eq k 0 t)) (λ _.
    if_case P (eqb k 1) _ _ (λ t. h.1.0 (eqb→eq k 1 t)) (λ _.
    if_case P (eqb k 2) _ _ (λ t. h.1.1.0 (eqb→eq k 2 t)) (λ _.
    if_case P (eqb k 3) _ _ (λ t. h.1.1.1.0 (eqb→eq k 3 t)) (λ _.
    if_case P (eqb k 4) _ _ (λ t. h.1.1.1.1.0 (eqb→eq k 4 t)) (λ _.
    if_case P (eqb k 5) _ _ (λ t. h.1.1.1.1.1.0 (eqb→eq k 5 t)) (λ _.
    if_case P (eqb k 6) _ _ (λ t. h.1.1.1.1.1.1.0 (eqb→eq k 6 t)) (λ _.
    if_case P (eqb k 7) _ _ (λ t. h.1.1.1.1.1.1.1.0 (eqb→eq k 7 t)) (λ _.
    if_case P (eqb k 8) _ _ (λ t. h.1.1.1.1.1.1.1.1.0 (eqb→eq k 8 t)) (λ _.
    if_case P (eqb k 9) _ _ (λ t. h.1.1.1.1.1.1.1.1.1.0 (eqb→eq k 9 t)) (λ _.
    if_case P (eqb k 10) _ _ (λ t. h.1.1.1.1.1.1.1.1.1.1.0 (eqb→eq k 10 t)) (λ _. none)))))))))))

-- what holds of 1, 2 and 3
pub three : (P : ℕ → Type 0) (k : ℕ) → 0 < k → k < 4 → P 1 → P 2 → P 3 → P k
three P zero h i a b c = absurd (omega arith)
three P (suc zero) h i a b c = a
three P (suc (suc zero)) h i a b c = b
three P (suc (suc (suc zero))) h i a b c = c
three P (suc (suc (suc (suc k)))) h i a b c = absurd (omega arith)

-- a row is as long as its table is wide
pub widths : All (λ k. words_of k ≡ width k) tables
unfolding tables node_tables word_kinds width if
widths = (refl, (refl, (refl, (refl, (refl, (refl, (refl, (refl, (refl, (refl, tt))))))))))

-- there are two words or none
abbrev Two : List WordKind → Type 0
Two [] = Unit {0}
Two (d ∷ []) = ⊥
Two (d ∷ e ∷ l) = Unit {0}

two_long : (l : List WordKind) → Two l → 0 < length l → 2 ≤ length l
two_long [] h i = absurd (omega arith)
two_long (d ∷ []) h i = absurd h
two_long (d ∷ e ∷ l) h i = omega arith

pub two_words : (k : ℕ) → 0 < words_of k → 2 ≤ words_of k
unfolding word_kinds if
two_words k = two_long (word_kinds k) (kinds-by k Two ((λ e. tt), ((λ e. tt), ((λ e. tt), ((λ e. tt), ((λ e. tt), ((λ e. tt), ((λ e. tt), ((λ e. tt), ((λ e. tt), ((λ e. tt), ((λ e. tt), tt))))))))))) tt)

-- no table is wider than that of the vertices
abbrev Few : List WordKind → Type 0
Few l = T (leb (length l) 42)

pub few_words : (k : ℕ) → words_of k ≤ 42
unfolding word_kinds if
few_words k = leb→le (words_of k) 42 (kinds-by k Few ((λ e. tt), ((λ e. tt), ((λ e. tt), ((λ e. tt), ((λ e. tt), ((λ e. tt), ((λ e. tt), ((λ e. tt), ((λ e. tt), ((λ e. tt), ((λ e. tt), tt))))))))))) tt)
