-- Items that are a text and words, one after the other, without a bound.
use mathlib.Core.Path.{◌≡◌, refl, ap, ◌∙◌}
use Prim.Native.Nat.{ℕ, zero, suc, ◌≤◌, ◌<◌}
use native.Mathlib.Omega.{arith}
use mathlib.Core.List.{List, [], ◌∷◌}
use lib.ListN.{length, replicate}
use Rattle.layout.specs.Result.{Result, accept, reject}
use Rattle.layout.specs.Parts.{Name, Step, text, named}
use Rattle.layout.specs.Rules.{any}
use Rattle.layout.proofs.StepLaws.{named_shrinks}
use Rattle.b3d_spec_plain_rows.specs.Plain.{next_item, named_in, named_items}

module _ (n : ℕ) where
  abbrev one : ℕ → List ℕ → Result (Step (Name × List ℕ))
  one p s = named (replicate n any) p s

  next-same : (f g : ℕ → List ℕ → List (Name × List ℕ)) (p : ℕ) (s : List ℕ) → ((q : ℕ) (r : List ℕ) → length r < length s → f q r ≡ g q r)
      → (o : Result (Step (Name × List ℕ))) → one p s ≡ o → next_item f o ≡ next_item g o
  unfolding next_item
  next-same f g p s same (accept x) e = ap (λ l. x.value ∷ l) (same x.place x.left (named_shrinks (replicate n any) p s x e))
  next-same f g p s same (reject i q) e = refl

  fuel : (f g p : ℕ) (s : List ℕ) → length s ≤ f → length s ≤ g → named_in f n p s ≡ named_in g n p s
  unfolding named_in next_item named text
  fuel zero zero p s h k = refl
  fuel zero (suc g) p [] h k = refl
  fuel zero (suc g) p (c ∷ s) h k = absurd (omega arith)
  fuel (suc f) zero p [] h k = refl
  fuel (suc f) zero p (c ∷ s) h k = absurd (omega arith)
  fuel (suc f) (suc g) p s h k = next-same (named_in f n) (named_in g n) p s (λ q r l. fuel f g q r (omega arith) (omega arith)) (one p s) refl

  -- an item and those after it, or none
  pub items-from : (p : ℕ) (s : List ℕ) → named_items n p s ≡ next_item (named_items n) (one p s)
  unfolding named_items named_in
  items-from p s =
      fuel (length s) (suc (length s)) p s (omega arith) (omega arith)
      ∙ next-same (named_in (length s) n) (named_items n) p s (λ q r l. fuel (length s) (length r) q r (omega arith) (omega arith)) (one p s) refl
