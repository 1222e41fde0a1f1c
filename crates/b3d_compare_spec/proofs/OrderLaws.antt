-- Lists of changes in order.
use mathlib.Core.Path.{◌≡◌, refl}
use mathlib.Core.Logic.{◌⊎◌, inl, inr}
use mathlib.Core.List.{List, [], ◌∷◌, ◌++◌}
use Rattle.layout.proofs.AllLaws.{All, all_append}
use Rattle.b3d_compare_spec.specs.Changes.{Change}
use Rattle.b3d_compare_spec.specs.Compares.{In, Before, InOrder}

module _ {A : Type 0} where
  pub in_left : (x : A) (l m : List A) → In x l → In x (l ++ m)
  in_left x [] m h = absurd h
  in_left x (y ∷ l) m (inl e) = inl e
  in_left x (y ∷ l) m (inr h) = inr (in_left x l m h)

  pub in_right : (x : A) (l m : List A) → In x m → In x (l ++ m)
  in_right x [] m h = h
  in_right x (y ∷ l) m h = inr (in_right x l m h)

  pub in_either : (x : A) (l m : List A) → In x (l ++ m) → In x l ⊎ In x m
  in_either x [] m h = inr h
  in_either x (y ∷ l) m (inl e) = inl (inl e)
  in_either x (y ∷ l) m (inr h) = one (in_either x l m h)
    where
      one : In x l ⊎ In x m → In x (y ∷ l) ⊎ In x m
      one (inl i) = inl (inr i)
      one (inr i) = inr i

  pub all_in : (P : A → Type 0) (l : List A) → ((x : A) → In x l → P x) → All P l
  all_in P [] f = tt
  all_in P (x ∷ l) f = (f x (inl refl), all_in P l (λ y h. f y (inr h)))

  pub nothing_in : (l : List A) → ((x : A) → In x l → ⊥) → l ≡ []
  nothing_in [] f = refl
  nothing_in (x ∷ l) f = absurd (f x (inl refl))

pub order-append : (l m : List Change) → InOrder l → InOrder m → ((c d : Change) → In c l → In d m → Before c d) → InOrder (l ++ m)
order-append [] m h k f = k
order-append (c ∷ l) m h k f =
    (all_append (Before c) l m h.0 (all_in (Before c) m (λ d i. f c d (inl refl) i)), order-append l m h.1 k (λ d e i j. f d e (inr i) j))
