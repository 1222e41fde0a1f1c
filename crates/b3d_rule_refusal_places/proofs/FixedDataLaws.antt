-- Where fixed data leaves off, and at which place it is refused.
use mathlib.Core.Path.{◌≡◌, refl, ap, subst}
use Prim.Native.Nat.{ℕ, zero, suc, ◌+◌, ◌*◌, ◌≤◌}
use native.Mathlib.Omega.{arith}
use mathlib.Core.List.{List, [], ◌∷◌}
use lib.ListN.{length}
use Rattle.layout.specs.Result.{accept}
use Rattle.layout.specs.Parts.{Name, Step, text, words, named}
use Rattle.layout.specs.Rules.{Rule}
use Rattle.layout.proofs.ResultLaws.{by_got, bad_got, got_inj}
use Rattle.layout.proofs.StepLaws.{judged_got}

-- a step onward, whose bytes end where they ended
pub record Onward {A : Type 0} (p : ℕ) (s : List ℕ) (x : Step A) : Type 0 where
  pub same : x.place + length x.left ≡ p + length s
  pub later : p ≤ x.place

pub text-onward : (first p : ℕ) (s : List ℕ) (x : Step (List ℕ)) → text first p s ≡ accept x → Onward p s x
unfolding text
text-onward first p [] x e = bad_got e
text-onward first p (zero ∷ s) x e = subst (λ (y : Step (List ℕ)). Onward p (zero ∷ s) y) (got_inj e) (record { same = omega arith; later = omega arith })
text-onward first p (suc c ∷ s) x e =
    by_got (text first (p + 1) s) _ e (λ y ey e₁.
    let h = text-onward first (p + 1) s y ey in
    subst (λ (z : Step (List ℕ)). Onward p (suc c ∷ s) z) (got_inj e₁) (record { same = omega (arith, h.same); later = omega (arith, h.later) }))

pub words-onward : (first n p : ℕ) (s : List ℕ) (x : Step (List ℕ)) → words first n p s ≡ accept x → Onward p s x
unfolding words
words-onward first zero p s x e = subst (λ (y : Step (List ℕ)). Onward p s y) (got_inj e) (record { same = refl; later = omega arith })
words-onward first (suc n) p [] x e = bad_got e
words-onward first (suc n) p (a ∷ []) x e = bad_got e
words-onward first (suc n) p (a ∷ b ∷ []) x e = bad_got e
words-onward first (suc n) p (a ∷ b ∷ c ∷ []) x e = bad_got e
words-onward first (suc n) p (a ∷ b ∷ c ∷ d ∷ s) x e =
    by_got (words first n (p + 4) s) _ e (λ y ey e₁.
    let h = words-onward first n (p + 4) s y ey in
    subst (λ (z : Step (List ℕ)). Onward p (a ∷ b ∷ c ∷ d ∷ s) z) (got_inj e₁) (record { same = omega (arith, h.same); later = omega (arith, h.later) }))

pub named-onward : (rs : List Rule) (p : ℕ) (s : List ℕ) (x : Step (Name × List ℕ)) → named rs p s ≡ accept x → Onward p s x
unfolding named
named-onward rs p s x e =
    by_got (text p p s) _ e (λ n en e₁.
    by_got (words p (length rs) n.place n.left) _ e₁ (λ y ey e₂.
    let h = text-onward p p s n en in
    let k = words-onward p (length rs) n.place n.left y ey in
    subst (λ (z : Step (Name × List ℕ)). Onward p s z) (judged_got rs n.place y.value _ x e₂) (record { same = omega (arith, h.same, k.same); later = omega (arith, h.later, k.later) })))

-- words take four bytes each
pub words-to : (first n p : ℕ) (s : List ℕ) (x : Step (List ℕ)) → words first n p s ≡ accept x → x.place ≡ p + 4 * n
unfolding words
words-to first zero p s x e = let z = ap (λ (y : Step (List ℕ)). y.place) (got_inj e) in omega arith
words-to first (suc n) p [] x e = bad_got e
words-to first (suc n) p (a ∷ []) x e = bad_got e
words-to first (suc n) p (a ∷ b ∷ []) x e = bad_got e
words-to first (suc n) p (a ∷ b ∷ c ∷ []) x e = bad_got e
words-to first (suc n) p (a ∷ b ∷ c ∷ d ∷ s) x e =
    by_got (words first n (p + 4) s) _ e (λ y ey e₁.
    let z = ap (λ (v : Step (List ℕ)). v.place) (got_inj e₁) in omega (arith, words-to first n (p + 4) s y ey))

pub named-wide : (rs : List Rule) (p : ℕ) (s : List ℕ) (x : Step (Name × List ℕ)) → named rs p s ≡ accept x → p + 4 * length rs ≤ x.place
unfolding named
named-wide rs p s x e =
    by_got (text p p s) _ e (λ n en e₁.
    by_got (words p (length rs) n.place n.left) _ e₁ (λ y ey e₂.
    let z = ap (λ (v : Step (Name × List ℕ)). v.place) (judged_got rs n.place y.value _ x e₂) in
    omega (arith, (text-onward p p s n en).later, words-to p (length rs) n.place n.left y ey)))
