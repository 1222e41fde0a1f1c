-- Laws of lists that readers and writers share.
use mathlib.Core.Path.{◌≡◌, refl, ap, sym, ◌∙◌}
use Prim.Native.Nat.{ℕ, suc, ◌+◌, ◌<◌}
use native.Mathlib.Omega.{arith}
use mathlib.Core.List.{List, [], ◌∷◌, ◌++◌, map, append_assoc}
use lib.ListN.{length, take, drop, get_or, set, length-map}
use lib.Seq.{sets, get_or-set_other, get_or-take, get_or-drop}
use Rattle.layout.specs.Rows.{joined}

pub map-id : {A : Type 0} (l : List A) → map (λ (a : A). a) l ≡ l
map-id [] = refl
map-id {A} (a ∷ l) = ap (λ (m : List A). a ∷ m) (map-id l)

pub same_length : {A B : Type 0} (f : A → B) (xs ys : List A) → map f xs ≡ map f ys → length xs ≡ length ys
same_length f xs ys e = sym (length-map xs f) ∙ ap length e ∙ length-map ys f

pub joined-append : {A : Type 0} (xs ys : List (List A)) → joined (xs ++ ys) ≡ joined xs ++ joined ys
unfolding joined
joined-append [] ys = refl
joined-append (x ∷ xs) ys = ap (λ (r : List _). x ++ r) (joined-append xs ys) ∙ sym (append_assoc x (joined xs) (joined ys))

-- three words by their places
pub three-cells : (l : List ℕ) → length l ≡ 3 → get_or l 0 0 ∷ get_or l 1 0 ∷ get_or l 2 0 ∷ [] ≡ l
three-cells [] e = absurd (omega arith)
three-cells (a ∷ []) e = absurd (omega arith)
three-cells (a ∷ b ∷ []) e = absurd (omega arith)
three-cells (a ∷ b ∷ c ∷ []) e = refl
three-cells (a ∷ b ∷ c ∷ d ∷ l) e = absurd (omega arith)

-- cell j of the w words from word i on
pub cell_take : (w i j : ℕ) (l : List ℕ) → j < w → get_or (take w (drop i l)) j 0 ≡ get_or l (i + j) 0
cell_take w i j l h = get_or-take w (drop i l) j 0 h ∙ get_or-drop i l j 0

-- a cell before a run of stores stays
pub sets_below : (vs l : List ℕ) (i j : ℕ) → j < i → get_or (sets l i vs) j 0 ≡ get_or l j 0
sets_below [] l i j h = refl
sets_below (v ∷ vs) l i j h = sets_below vs (set l i v) (suc i) j (omega arith) ∙ get_or-set_other l i j v 0 (λ e. omega arith)
