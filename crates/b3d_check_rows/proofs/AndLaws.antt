-- Tests one after the other: what is said when one fails, and what is left to say when it holds; and std's word for a test that holds of a whole list.
use mathlib.Core.Path.{◌≡◌, refl}
use mathlib.Core.Bool.{Bool, true, false, not, ◌&&◌}
use mathlib.Core.List.{List}
use Rattle.std.specs.List.{list_all}
use Rattle.std.proofs.lemmas.List.Recursion.{same_from_clauses}
use Rattle.layout.specs.WellFormed.{all}

pub and_both : (a b x y : Bool) → a ≡ x → b ≡ y → (a && b) ≡ (x && y)
and_both a b x y e f = cc

pub and_stop : (r a b : Bool) → r ≡ a → not r ≡ true → false ≡ (a && b)
and_stop true a b e n = cc
and_stop false a b e n = rw (← e)

pub and_go : (r a b s : Bool) → r ≡ a → not r ≡ false → s ≡ b → s ≡ (a && b)
and_go true a b s e n f = rw (← e, f)
and_go false a b s e n f = cc

pub ruleset ands = (and_both, and_stop, and_go)

pub all_is_list_all : {A : Type 0} (f : A → Bool) (l : List A) → list_all f l ≡ all f l
all_is_list_all f l = same_from_clauses (list_all f) (all f) (λ x b. f x && b) refl (λ _ _. refl) (λ _ _. refl) l
