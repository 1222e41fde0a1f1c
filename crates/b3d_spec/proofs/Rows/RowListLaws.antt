-- Lists compared, and rows cut out of words.
use mathlib.Core.Path.{◌≡◌, refl, ap, ap₂, sym, subst}
use Prim.Native.Nat.{ℕ, zero, suc, ◌+◌, ◌*◌, ◌≤◌}
use native.Mathlib.Omega.{arith}
use mathlib.Core.List.{List, [], ◌∷◌, ◌++◌, append_assoc}
use lib.ListN.{length, take, drop, length-append, get_or}
use lib.Seq.{take_at, drop_at, take-add}
use lib.Dec.{T, eqb, eqb→eq, eqb_refl}
use mir.Facts.{and_yes, yes_and}
use Rattle.layout.proofs.AllLaws.{All}
use Rattle.layout.proofs.TestLaws.{Tests}
use Rattle.layout.proofs.ResultLaws.{if_case}
use Rattle.b3d_spec.specs.Rebuild.{cut, same, same_rows, owned_by}
use Rattle.layout.specs.Rows.{joined}

-- ---- comparing

pub same-is : (xs ys : List ℕ) → Tests (same xs ys) (xs ≡ ys)
unfolding same
same-is [] [] = record { says = λ h. refl; holds = λ e. tt }
same-is [] (y ∷ ys) = record { says = λ h. absurd h; holds = λ e. let z : ◌≡◌ {A = ℕ} 0 1 = cc in absurd (omega arith) }
same-is (x ∷ xs) [] = record { says = λ h. absurd h; holds = λ e. let z : ◌≡◌ {A = ℕ} 0 1 = cc in absurd (omega arith) }
same-is (x ∷ xs) (y ∷ ys) =
    record {
      says = λ h. let (a, b) = and_yes (eqb x y) (same xs ys) h in ap₂ ◌∷◌ (eqb→eq x y a) ((same-is xs ys).says b);
      holds = λ e.
          let a : x ≡ y = cc in
          let b : xs ≡ ys = cc in
          yes_and (eqb x y) (same xs ys) (subst (λ (z : ℕ). T (eqb x z)) a (eqb_refl x)) ((same-is xs ys).holds b);
    }

pub same-rows-is : (xs ys : List (List ℕ)) → Tests (same_rows xs ys) (xs ≡ ys)
unfolding same_rows
same-rows-is [] [] = record { says = λ h. refl; holds = λ e. tt }
same-rows-is [] (y ∷ ys) = record { says = λ h. absurd h; holds = λ e. let z : ◌≡◌ {A = ℕ} 0 1 = cc in absurd (omega arith) }
same-rows-is (x ∷ xs) [] = record { says = λ h. absurd h; holds = λ e. let z : ◌≡◌ {A = ℕ} 0 1 = cc in absurd (omega arith) }
same-rows-is (x ∷ xs) (y ∷ ys) =
    record {
      says = λ h. let (a, b) = and_yes (same x y) (same_rows xs ys) h in ap₂ ◌∷◌ ((same-is x y).says a) ((same-rows-is xs ys).says b);
      holds = λ e.
          let a : x ≡ y = cc in
          let b : xs ≡ ys = cc in
          yes_and (same x y) (same_rows xs ys) ((same-is x y).holds a) ((same-rows-is xs ys).holds b);
    }

-- ---- rows and words

pub cut-length : (w c : ℕ) (ws : List ℕ) → length (cut w c ws) ≡ c
unfolding cut
cut-length w zero ws = refl
cut-length w (suc c) ws = ap suc (cut-length w c (drop w ws))

-- the words of the first c rows
pub words-cut : (w c : ℕ) (ws : List ℕ) → joined (cut w c ws) ≡ take (w * c) ws
unfolding joined cut
words-cut w zero ws = let e : w * 0 ≡ 0 = omega arith in rw e
words-cut w (suc c) ws =
    let e : w * suc c ≡ w + w * c = omega arith in
    rw (e, take-add w (w * c) ws, words-cut w c (drop w ws))

pub words-length : (w : ℕ) (rs : List (List ℕ)) → All (λ (r : List ℕ). length r ≡ w) rs → length (joined rs) ≡ w * length rs
unfolding joined
words-length w [] h = let e : w * 0 ≡ 0 = omega arith in sym e
words-length w (r ∷ rs) h =
    let e : w * suc (length rs) ≡ w + w * length rs = omega arith in
    let l = words-length w rs h.1 in
    rw (length-append r (joined rs), h.0, l, e)

-- rows of one width are cut out of their words again, whatever follows
pub cut-words : (w : ℕ) (rs : List (List ℕ)) (ws : List ℕ) → All (λ (r : List ℕ). length r ≡ w) rs → cut w (length rs) (joined rs ++ ws) ≡ rs
unfolding joined cut
cut-words w [] ws h = refl
cut-words w (r ∷ rs) ws h =
    rw (append_assoc r (joined rs) ws, take_at r (joined rs ++ ws) w h.0, drop_at r (joined rs ++ ws) w h.0, cut-words w rs ws h.1)

-- ---- the rows of one node, the first so many

pub mine_take : (i : ℕ) (ls : List (List ℕ)) → owned_by i ls ≡ take (length (owned_by i ls)) ls
unfolding owned_by
mine_take i [] = refl
mine_take i (x ∷ ls) =
    if_case (λ r. r ≡ take (length r) (x ∷ ls)) (eqb (get_or x 0 0) i) (x ∷ owned_by i ls) [] (λ e. ap (λ (r : List (List ℕ)). x ∷ r) (mine_take i ls)) (λ e. refl)

pub mine_length : (i : ℕ) (xs : List (List ℕ)) → length (owned_by i xs) ≤ length xs
unfolding owned_by
mine_length i [] = omega arith
mine_length i (x ∷ xs) =
    if_case (λ (l : List (List ℕ)). length l ≤ suc (length xs)) (eqb (get_or x 0 0) i) (x ∷ owned_by i xs) [] (λ t. omega (arith, mine_length i xs)) (λ t. omega arith)
