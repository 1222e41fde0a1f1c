-- Rows by their cells: what is known of a row as code has it, its cells against a list, its words against their rules.
use mathlib.Core.Path.{◌≡◌, refl, ap, ap₂, sym, ◌∙◌, subst}
use Prim.Native.Nat.{ℕ, zero, suc, ◌+◌, ◌≤◌, ◌<◌}
use native.Mathlib.Nat.{suc_inj, suc-ne-zero}
use native.Mathlib.Omega.{arith}
use mathlib.Core.List.{List, [], ◌∷◌, ◌++◌}
use lib.ListN.{length, take, drop, get_or, replicate, length-take, length-drop, take-append-drop}
use lib.Seq.{length-take-le, take_all}
use lib.Dec.{leb}
use Rattle.wire.specs.Bytes.{IsWord}
use Rattle.layout.specs.Rules.{Rule, any, holds}
use Rattle.layout.proofs.WellFormedLaws.{Fits}
use Rattle.layout.proofs.AllLaws.{All}
use Rattle.layout.proofs.TestLaws.{Tests, both, via, bool_is, le_is}
use Rattle.b3d_check_spec.specs.Check.{keeps}
use Rattle.b3d_check_spec.proofs.Check.TestLaws.{yes-if}

-- ---- a list that another begins with

abbrev pub Begins : {A : Type 0} → List A → List A → Type 0
Begins [] l = Unit {0}
Begins (x ∷ a) [] = ⊥
Begins (x ∷ a) (y ∷ l) = (x ≡ y) × Begins a l

module _ {A : Type 0} where
  pub begins-is : (a l : List A) → Begins a l → l ≡ a ++ drop (length a) l
  begins-is [] l h = refl
  begins-is (x ∷ a) [] h = absurd h
  begins-is (x ∷ a) (y ∷ l) h = ap₂ ◌∷◌ (sym h.0) (begins-is a l h.1)

  pub is-begins : (a r : List A) → Begins a (a ++ r)
  is-begins [] r = tt
  is-begins (x ∷ a) r = (refl, is-begins a r)

  pub begins-join : (a b l : List A) → Begins a l → Begins b (drop (length a) l) → Begins (a ++ b) l
  begins-join [] b l h k = k
  begins-join (x ∷ a) b [] h k = absurd h
  begins-join (x ∷ a) b (y ∷ l) h k = (h.0, begins-join a b l h.1 k)

  pub begins-split : (a b l : List A) → Begins (a ++ b) l → Begins a l × Begins b (drop (length a) l)
  begins-split [] b l h = (tt, h)
  begins-split (x ∷ a) b [] h = absurd h
  begins-split (x ∷ a) b (y ∷ l) h = let k = begins-split a b l h.1 in ((h.0, k.0), k.1)

  -- it is what is taken off
  pub begins-take : (a l : List A) (n : ℕ) → length a ≡ n → Begins a l → a ≡ take n l
  begins-take [] l zero e h = refl
  begins-take [] l (suc n) e h = absurd (omega arith)
  begins-take (x ∷ a) l zero e h = absurd (omega arith)
  begins-take (x ∷ a) [] (suc n) e h = absurd h
  begins-take (x ∷ a) (y ∷ l) (suc n) e h = ap₂ ◌∷◌ h.0 (begins-take a l n (suc_inj e) h.1)

  pub take_begins : (n : ℕ) (a l : List A) → a ≡ take n l → Begins a l
  take_begins n a l e = subst (λ (z : List A). Begins z l) (sym e) (go n l)
    where
      go : (k : ℕ) (m : List A) → Begins (take k m) m
      go zero m = tt
      go (suc k) [] = tt
      go (suc k) (x ∷ m) = (refl, go k m)

  pub all_take : (P : A → Type 0) (c : ℕ) (l : List A) → All P l → All P (take c l)
  all_take P zero l h = tt
  all_take P (suc c) [] h = tt
  all_take P (suc c) (x ∷ l) h = (h.0, all_take P c l h.1)

  pub all_drop : (P : A → Type 0) (c : ℕ) (l : List A) → All P l → All P (drop c l)
  all_drop P zero l h = h
  all_drop P (suc c) [] h = tt
  all_drop P (suc c) (x ∷ l) h = all_drop P c l h.1

  -- c can be taken off a list just where it is no longer
  pub take-is : (c : ℕ) (l : List A) → Tests (leb c (length l)) (length (take c l) ≡ c)
  take-is c l = via (λ h. length-take-le c l h) (λ e. omega (arith, length-take c l)) (le_is c (length l))

-- ---- a row as code has it: w words of 32 bits

abbrev pub Full : ℕ → List ℕ → Type 0
Full w r = (length r ≡ w) × All IsWord r

pub full-take : (k w : ℕ) (x : List ℕ) → k ≤ w → Full w x → Full k (take k x)
full-take k w x le h = (length-take-le k x (omega (arith, h.0)), all_take IsWord k x h.1)

pub full-drop : (k w : ℕ) (x : List ℕ) → Full (k + w) x → Full w (drop k x)
full-drop k w x h = (omega (arith, length-drop k x, h.0), all_drop IsWord k x h.1)

pub cell_word : (w j : ℕ) (x : List ℕ) → Full w x → j < w → IsWord (get_or x j 0)
cell_word w j x f h = at x j f.1 (omega (arith, f.0))
  where
    at : (l : List ℕ) (k : ℕ) → All IsWord l → k < length l → IsWord (get_or l k 0)
    at [] k a u = absurd (omega arith)
    at (y ∷ l) zero a u = a.0
    at (y ∷ l) (suc k) a u = at l k a.1 (omega arith)

-- ---- cells

-- n cells of a row from cell j on
unfoldable pub cells : List ℕ → ℕ → ℕ → List ℕ
cells x j zero = []
cells x j (suc n) = get_or x j 0 ∷ cells x (suc j) n

cells-cons : (a : ℕ) (x : List ℕ) (j n : ℕ) → cells (a ∷ x) (suc j) n ≡ cells x j n
unfolding cells
cells-cons a x j zero = refl
cells-cons a x j (suc n) = ap (λ (r : List ℕ). get_or x j 0 ∷ r) (cells-cons a x (suc j) n)

pub cells-take : (x : List ℕ) (n : ℕ) → n ≤ length x → cells x 0 n ≡ take n x
unfolding cells
cells-take x zero h = refl
cells-take [] (suc n) h = absurd (omega arith)
cells-take (a ∷ x) (suc n) h = ap (λ (r : List ℕ). a ∷ r) (cells-cons a x 0 n ∙ cells-take x n (omega arith))

-- a row is its cells; and its first cells, then the rest
pub cells_are : (x : List ℕ) (n : ℕ) → length x ≡ n → cells x 0 n ≡ x
cells_are x n e = cells-take x n (omega arith) ∙ take_all n x (omega arith)

pub cells-front : (x : List ℕ) (n : ℕ) → n ≤ length x → cells x 0 n ++ drop n x ≡ x
cells-front x n h = ap (λ (r : List ℕ). r ++ drop n x) (cells-take x n h) ∙ take-append-drop n x

-- the last cell of a row
pub last_cell : (n : ℕ) (x : List ℕ) → length x ≡ suc n → take n x ++ (get_or x n 0 ∷ []) ≡ x
last_cell n [] e = absurd (omega arith)
last_cell zero (a ∷ []) e = refl
last_cell zero (a ∷ b ∷ x) e = absurd (omega arith)
last_cell (suc n) (a ∷ x) e = ap (λ (r : List ℕ). a ∷ r) (last_cell n x (suc_inj e))

-- ---- words against rules

pub keeps-is : (rs : List Rule) (ws : List ℕ) → Full (length rs) ws → Tests (keeps rs ws) (Fits rs ws)
unfolding keeps
keeps-is [] [] f = yes-if tt
keeps-is [] (w ∷ ws) f = absurd (suc-ne-zero (length ws) f.0)
keeps-is (r ∷ rs) [] f = absurd (suc-ne-zero (length rs) (sym f.0))
keeps-is (r ∷ rs) (w ∷ ws) f =
    via (λ h. (f.1.0, h.0, h.1)) (λ h. (h.1, h.2)) (both (bool_is (holds r w)) (keeps-is rs ws (suc_inj f.0, f.1.1)))

pub one_is : (r : Rule) (w : ℕ) → IsWord w → Tests (holds r w) (Fits (r ∷ []) (w ∷ []))
one_is r w f = via (λ h. (f, h, tt)) (λ h. h.1) (bool_is (holds r w))

pub any-fits : (n : ℕ) (ws : List ℕ) → Full n ws → Fits (replicate n any) ws
any-fits n ws f = subst (λ (k : ℕ). Fits (replicate k any) ws) f.0 (go ws f.1)
  where
    go : (l : List ℕ) → All IsWord l → Fits (replicate (length l) any) l
    go [] h = tt
    go (w ∷ l) h = (h.0, tt, go l h.1)
