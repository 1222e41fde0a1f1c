-- What two equal answers have in common: the number and the place of a refusal, the parts of a value.
use Rattle.std.specs.Prelude.{◌≡◌, ℕ, Ok, Err}
use Rattle.std.specs.Prelude as std
use Rattle.std.proofs.Common.{ap}
use Rattle.layout.specs.declared.Refusal.{Refusal}

-- two refusals that are equal have one number and one place
pub refusal_inj : {A : Type 0} (r w : Refusal) → ◌≡◌ {A = std.Result A Refusal} (Err r) (Err w) → (r.number ≡ w.number) × (r.place ≡ w.place)
refusal_inj r w q = let e : r ≡ w = cc in (ap (λ (x : Refusal). x.number) e, ap (λ (x : Refusal). x.place) e)

-- two pairs that are equal have equal parts
pub pair_inj : {A B E : Type 0} (a c : A) (b d : B) → ◌≡◌ {A = std.Result (A × B) E} (Ok (a, b)) (Ok (c, d)) → (a ≡ c) × (b ≡ d)
pair_inj {A = A} {B = B} a c b d q = let e : (a, b) ≡ (c, d) = cc in (ap (λ (x : A × B). x.0) e, ap (λ (x : A × B). x.1) e)
