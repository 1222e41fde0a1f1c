-- Items that were accepted are the words that stand there, one after the other.
use Prim.Native.Nat.{ℕ, zero, suc, ◌+◌, ◌*◌, ◌≤◌}
use native.Mathlib.Nat.{suc-mul, zero-mul}
use native.Mathlib.Omega.{arith}
use mathlib.Core.Path.{◌≡◌, refl, ap, sym, ◌∙◌}
use mathlib.Core.List.{List, [], ◌∷◌}
use lib.ListN.{length, drop, length-drop}
use lib.Dec.{ltb, ltb→lt, nltb→le}
use Rattle.layout.specs.Result.{accept}
use Rattle.layout.specs.Parts.{Step, words_of, items_of, row, items_in, items}
use Rattle.layout.specs.Rules.{Rule}
use Rattle.layout.proofs.ResultLaws.{by_test, by_got, bad_got, got_inj}
use Rattle.layout.proofs.StepLaws.{row-enough, row-short, judged_got, words-add}
use Rattle.layout.specs.Rows.{joined}

-- ---- one item

-- x is so many words of s, which stands at p, and what follows them
pub record RowRead (n p : ℕ) (s : List ℕ) (x : Step (List ℕ)) : Type 0 where
  pub value : x.value ≡ words_of n s
  pub place : x.place ≡ p + 4 * n
  pub left : x.left ≡ drop (4 * n) s
  pub room : 4 * n ≤ length s

pub row_read : (rs : List Rule) (p : ℕ) (s : List ℕ) (x : Step (List ℕ)) → row rs p s ≡ accept x → RowRead (length rs) p s x
row_read rs p s x e =
    by_test (ltb (length s) (4 * length rs))
    (λ t. bad_got (sym (row-short rs p s (ltb→lt (length s) (4 * length rs) t)) ∙ e))
    (λ t. let h = nltb→le (length s) (4 * length rs) t in
    let q = judged_got rs p (words_of (length rs) s) _ x (sym (row-enough rs p s h) ∙ e) in
    record { value = ap (λ (v : Step (List ℕ)). v.value) (sym q); place = ap (λ (v : Step (List ℕ)). v.place) (sym q); left = ap (λ (v : Step (List ℕ)). v.left) (sym q); room = h })

-- ---- items to the end

-- l are items of n words each, and fill s
pub record ItemsRead (n : ℕ) (s : List ℕ) (l : List (List ℕ)) : Type 0 where
  pub is : l ≡ items_of (length l) n s
  pub size : length s ≡ length l * (4 * n)

none_read : (n : ℕ) (l : List (List ℕ)) → [] ≡ l → ItemsRead n [] l
none_read n [] e = record { is = refl; size = sym (zero-mul (4 * n)) }
none_read n (x ∷ l) e = let z : ◌≡◌ {A = ℕ} 0 1 = ap length e ∙ cc in absurd (omega arith)

one-read : (n p : ℕ) (s : List ℕ) (x : Step (List ℕ)) (m l : List (List ℕ)) → RowRead n p s x → ItemsRead n x.left m → x.value ∷ m ≡ l → ItemsRead n s l
one-read n p s x m l r i e =
    rw (← e)
    (record {
      is = rw r.value (ap (λ (k : List (List ℕ)). words_of n s ∷ k) (rw (← r.left) i.is));
      size = omega (arith, suc-mul (length m) (4 * n), i.size, ap length r.left, length-drop (4 * n) s, r.room);
    })

in_read : (rs : List Rule) (f p : ℕ) (s : List ℕ) (l : List (List ℕ)) → items_in f (row rs) p s ≡ accept l → ItemsRead (length rs) s l
unfolding items_in
in_read rs zero p [] l e = none_read (length rs) l (got_inj e)
in_read rs zero p (c ∷ s) l e = bad_got e
in_read rs (suc f) p [] l e = none_read (length rs) l (got_inj e)
in_read rs (suc f) p (c ∷ s) l e =
    by_got (row rs p (c ∷ s)) _ e (λ x ex e₁. by_got (items_in f (row rs) x.place x.left) _ e₁ (λ m em e₂.
    one-read (length rs) p (c ∷ s) x m l (row_read rs p (c ∷ s) x ex) (in_read rs f x.place x.left m em) (got_inj e₂)))

pub items-read : (rs : List Rule) (p : ℕ) (s : List ℕ) (l : List (List ℕ)) → items (row rs) p s ≡ accept l → ItemsRead (length rs) s l
unfolding items
items-read rs p s l e = in_read rs (length s) p s l e

-- ---- their words

pub words-items : (k w : ℕ) (s : List ℕ) → k * (4 * w) ≤ length s → joined (items_of k w s) ≡ words_of (k * w) s
unfolding joined
words-items zero w s h = rw (zero-mul w)
words-items (suc k) w s h =
    let m = suc-mul k (4 * w) in
    let f : suc k * w ≡ w + k * w = omega (arith, suc-mul k w) in
    rw (f, words-add w (k * w) s (omega arith), words-items k w (drop (4 * w) s) (omega (arith, length-drop (4 * w) s)))
