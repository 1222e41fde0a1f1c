-- Which words are floats, table by table.
use mathlib.Core.Path.{◌≡◌, refl, ap, sym, ◌∙◌}
use Prim.Native.Nat.{ℕ, zero, suc, ◌+◌, ◌<◌, ◌≤◌}
use native.Mathlib.Omega.{arith}
use native.Mathlib.Nat.{add-zero, zero-add}
use mathlib.Core.Bool.{Bool, true, false, ◌&&◌}
use mathlib.Core.List.{List, [], ◌∷◌, map}
use lib.ListN.{length, get_or, replicate}
use lib.Dec.{leb, ltb, eqb, eqb→eq}
use borrow.Author.Tests.{le-leb, lt-leb, lt-ltb, le-ltb}
use Rattle.wire.specs.Test.{if}
use Rattle.layout.proofs.AllLaws.{cons_head, cons_tail}
use Rattle.layout.proofs.ResultLaws.{if_case}
use Rattle.b3d_compare_spec.specs.declared.WordKind.{WordKind}
use Rattle.b3d_compare_spec.specs.declared.WordKind.TheVariants.{Whole}
use Rattle.b3d_compare_spec.specs.Words.{word_kinds, words_of, kind_at}
use Rattle.b3d_compare_spec.specs.Differences.{is_float}

-- what f says of n words from w on
abbrev tests : (ℕ → Bool) → ℕ → ℕ → List Bool
tests f w zero = []
tests f w (suc n) = f w ∷ tests f (w + 1) n

at-tests : (f : ℕ → Bool) (w n : ℕ) (l : List WordKind) → map is_float l ≡ tests f w n → (i : ℕ) → i < length l → is_float (get_or l i Whole) ≡ f (w + i)
at-tests f w n [] e i h = absurd (omega arith)
at-tests f w zero (d ∷ l) e i h = let z : ◌≡◌ {A = ℕ} 0 1 = cc in absurd (omega arith)
at-tests f w (suc n) (d ∷ l) e zero h = cons_head e ∙ ap f (sym (add-zero w))
at-tests f w (suc n) (d ∷ l) e (suc i) h =
    let z : w + 1 + i ≡ w + suc i = omega arith in
    at-tests f (w + 1) n l (cons_tail e) i (omega arith) ∙ ap f z

-- in table k the floats are as f says
abbrev By : ℕ → (ℕ → Bool) → Type 0
By k f = (w : ℕ) → w < words_of k → is_float (kind_at k w) ≡ f w

by : (k : ℕ) (f : ℕ → Bool) → map is_float (word_kinds k) ≡ tests f 0 (words_of k) → By k f
unfolding kind_at
by k f e w h = at-tests f 0 (words_of k) (word_kinds k) e w h ∙ ap f (zero-add w)

by_1 : By 1 (leb 4)
unfolding word_kinds if is_float
by_1 = by 1 (leb 4) refl

by_2 : By 2 (λ w. leb 2 w && ltb w 7)
unfolding word_kinds if is_float
by_2 = by 2 (λ w. leb 2 w && ltb w 7) refl

by_3 : By 3 (λ w. leb 3 w && if (ltb w 13) true (eqb w 19))
unfolding word_kinds if is_float
by_3 = by 3 (λ w. leb 3 w && if (ltb w 13) true (eqb w 19)) refl

by_5 : By 5 (λ w. true)
unfolding word_kinds if is_float
by_5 = by 5 (λ w. true) refl

by_8 : By 8 (leb 1)
unfolding word_kinds if is_float
by_8 = by 8 (leb 1) refl

by_10 : By 10 (leb 1)
unfolding word_kinds if is_float
by_10 = by 10 (leb 1) refl

whole-at : (n w : ℕ) → is_float (get_or (replicate n Whole) w Whole) ≡ false
unfolding is_float
whole-at zero w = refl
whole-at (suc n) zero = refl
whole-at (suc n) (suc w) = whole-at n w

abbrev NoFloat : ℕ → List WordKind → Type 0
NoFloat w l = false ≡ is_float (get_or l w Whole)

module _ (k w : ℕ) (h : w < words_of k) where
  pub float_1 : k ≡ 1 → leb 4 w ≡ is_float (kind_at k w)
  float_1 e = rw e (sym (by_1 w (rw e at h)))

  module _ (e : k ≡ 2) where
    pub float_2_low : w < 2 → false ≡ is_float (kind_at k w)
    float_2_low l = rw e (sym (by_2 w (rw e at h) ∙ rw (lt-leb 2 w l)))

    pub float_2 : 2 ≤ w → ltb w 7 ≡ is_float (kind_at k w)
    float_2 l = rw e (sym (by_2 w (rw e at h) ∙ rw (le-leb 2 w l)))

  module _ (e : k ≡ 3) where
    pub float_3_low : w < 3 → false ≡ is_float (kind_at k w)
    float_3_low l = rw e (sym (by_3 w (rw e at h) ∙ rw (lt-leb 3 w l)))

    pub float_3 : 3 ≤ w → w < 13 → true ≡ is_float (kind_at k w)
    unfolding if
    float_3 l m = rw e (sym (by_3 w (rw e at h) ∙ rw (le-leb 3 w l, lt-ltb w 13 m)))

    pub float_3_high : 3 ≤ w → 13 ≤ w → eqb w 19 ≡ is_float (kind_at k w)
    unfolding if
    float_3_high l m = rw e (sym (by_3 w (rw e at h) ∙ rw (le-leb 3 w l, le-ltb w 13 m)))

  pub float_5 : k ≡ 5 → true ≡ is_float (kind_at k w)
  float_5 e = rw e (sym (by_5 w (rw e at h)))

  pub float_8 : k ≡ 8 → leb 1 w ≡ is_float (kind_at k w)
  float_8 e = rw e (sym (by_8 w (rw e at h)))

  pub float_10 : k ≡ 10 → leb 1 w ≡ is_float (kind_at k w)
  float_10 e = rw e (sym (by_10 w (rw e at h)))

  pub float_none : (k ≡ 1 → ⊥) → (k ≡ 2 → ⊥) → (k ≡ 3 → ⊥) → (k ≡ 5 → ⊥) → (k ≡ 8 → ⊥) → (k ≡ 10 → ⊥) → false ≡ is_float (kind_at k w)
  unfolding kind_at word_kinds
  float_none n₁ n₂ n₃ n₅ n₈ n₁₀ =
      let none : (n : ℕ) → NoFloat w (replicate n Whole) = λ n. sym (whole-at n w) in
      if_case (NoFloat w) (eqb k 0) _ _ (λ _. none 12) (λ _.
      if_case (NoFloat w) (eqb k 1) _ _ (λ t. absurd (n₁ (eqb→eq k 1 t))) (λ _.
      if_case (NoFloat w) (eqb k 2) _ _ (λ t. absurd (n₂ (eqb→eq k 2 t))) (λ _.
      if_case (NoFloat w) (eqb k 3) _ _ (λ t. absurd (n₃ (eqb→eq k 3 t))) (λ _.
      if_case (NoFloat w) (eqb k 4) _ _ (λ _. none 9) (λ _.
      if_case (NoFloat w) (eqb k 5) _ _ (λ t. absurd (n₅ (eqb→eq k 5 t))) (λ _.
      if_case (NoFloat w) (eqb k 6) _ _ (λ _. none 4) (λ _.
      if_case (NoFloat w) (eqb k 7) _ _ (λ _. none 3) (λ _.
      if_case (NoFloat w) (eqb k 8) _ _ (λ t. absurd (n₈ (eqb→eq k 8 t))) (λ _.
      if_case (NoFloat w) (eqb k 9) _ _ (λ _. none 4) (λ _.
      if_case (NoFloat w) (eqb k 10) _ _ (λ t. absurd (n₁₀ (eqb→eq k 10 t))) (λ _. none 0)))))))))))

pub ruleset float_laws = (float_1, float_2_low, float_2, float_3_low, float_3, float_3_high, float_5, float_8, float_10, float_none)
