-- Where a text with its words ends, and what is left behind them.
use mathlib.Core.Path.{◌≡◌, refl, ap, subst, ◌∙◌}
use Prim.Native.Nat.{ℕ, zero, suc, ◌+◌, ◌≤◌}
use native.Mathlib.Omega.{arith}
use mathlib.Core.List.{List, [], ◌∷◌}
use lib.ListN.{length, drop, length-drop}
use lib.Seq.{drop-drop}
use Rattle.layout.specs.Result.{accept}
use Rattle.layout.specs.Parts.{Name, Step, text, words, named}
use Rattle.layout.specs.Rules.{Rule}
use Rattle.layout.proofs.ResultLaws.{by_got, bad_got, got_inj}
use Rattle.layout.proofs.StepLaws.{judged_got}

-- r is what is left of b, which stands at p, from place q on
pub record Ahead (p : ℕ) (b : List ℕ) (q : ℕ) (r : List ℕ) : Type 0 where
  pub by : ℕ
  pub place : q ≡ p + by
  pub left : r ≡ drop by b
  pub within : by ≤ length b

then : (p : ℕ) (b : List ℕ) (q : ℕ) (r : List ℕ) (q' : ℕ) (r' : List ℕ) → Ahead p b q r → Ahead q r q' r' → Ahead p b q' r'
then p b q r q' r' x y =
    let d = length-drop x.by b in
    record {
      by = x.by + y.by;
      place = omega (arith, x.place, y.place);
      left = y.left ∙ ap (drop y.by) x.left ∙ drop-drop y.by x.by b;
      within = omega (arith, y.within, x.within, ap length x.left);
    }

cons : (p a : ℕ) (b : List ℕ) → Ahead p (a ∷ b) (p + 1) b
cons p a b = record { by = 1; place = refl; left = refl; within = omega arith }

four : (p a b c d : ℕ) (s : List ℕ) → Ahead p (a ∷ b ∷ c ∷ d ∷ s) (p + 4) s
four p a b c d s = record { by = 4; place = refl; left = refl; within = omega arith }

pub text-ahead : (start p : ℕ) (b : List ℕ) (x : Step (List ℕ)) → text start p b ≡ accept x → Ahead p b x.place x.left
unfolding text
text-ahead start p [] x e = bad_got e
text-ahead start p (zero ∷ b) x e = subst (λ (y : Step (List ℕ)). Ahead p (zero ∷ b) y.place y.left) (got_inj e) (cons p zero b)
text-ahead start p (suc c ∷ b) x e =
    by_got (text start (p + 1) b) _ e (λ y ey e₁.
    subst (λ (z : Step (List ℕ)). Ahead p (suc c ∷ b) z.place z.left) (got_inj e₁)
    (then p (suc c ∷ b) (p + 1) b y.place y.left (cons p (suc c) b) (text-ahead start (p + 1) b y ey)))

pub words-ahead : (start n p : ℕ) (b : List ℕ) (x : Step (List ℕ)) → words start n p b ≡ accept x → Ahead p b x.place x.left
unfolding words
words-ahead start zero p b x e =
    subst (λ (y : Step (List ℕ)). Ahead p b y.place y.left) (got_inj e) (record { by = 0; place = omega arith; left = refl; within = omega arith })
words-ahead start (suc n) p [] x e = bad_got e
words-ahead start (suc n) p (a ∷ []) x e = bad_got e
words-ahead start (suc n) p (a ∷ b ∷ []) x e = bad_got e
words-ahead start (suc n) p (a ∷ b ∷ c ∷ []) x e = bad_got e
words-ahead start (suc n) p (a ∷ b ∷ c ∷ d ∷ s) x e =
    by_got (words start n (p + 4) s) _ e (λ y ey e₁.
    subst (λ (z : Step (List ℕ)). Ahead p (a ∷ b ∷ c ∷ d ∷ s) z.place z.left) (got_inj e₁)
    (then p (a ∷ b ∷ c ∷ d ∷ s) (p + 4) s y.place y.left (four p a b c d s) (words-ahead start n (p + 4) s y ey)))

pub named-ahead : (rs : List Rule) (p : ℕ) (b : List ℕ) (x : Step (Name × List ℕ)) → named rs p b ≡ accept x → Ahead p b x.place x.left
unfolding named
named-ahead rs p b x e =
    by_got (text p p b) _ e (λ n en e₁.
    by_got (words p (length rs) n.place n.left) _ e₁ (λ y ey e₂.
    subst (λ (z : Step (Name × List ℕ)). Ahead p b z.place z.left) (judged_got rs n.place y.value _ x e₂)
    (then p b n.place n.left y.place y.left (text-ahead p p b n en) (words-ahead p (length rs) n.place n.left y ey))))
