-- Entries one after the other: what holds of each, how many, and that they do not end before they start.
use Prim.Native.Nat.{ℕ, zero, suc, ◌≤◌}
use native.Mathlib.Omega.{arith}
use mathlib.Core.Path.{◌≡◌, refl, ap}
use lib.ListN.{length}
use Rattle.layout.specs.Lists.{All}
use Rattle.cal3d_mesh_plain_spec.specs.Plain.{entries_at, end_after}

pub all-entries : {A : Type 0} (P : A → Type 0) (entry : ℕ → A) (next : ℕ → ℕ) → ((p : ℕ) → P (entry p)) → (n p : ℕ) → All P (entries_at entry next n p)
unfolding entries_at
all-entries P entry next f zero p = tt
all-entries P entry next f (suc n) p = (f p, all-entries P entry next f n (next p))

pub entries-length : {A : Type 0} (entry : ℕ → A) (next : ℕ → ℕ) (n p : ℕ) → length (entries_at entry next n p) ≡ n
unfolding entries_at
entries-length entry next zero p = refl
entries-length entry next (suc n) p = ap suc (entries-length entry next n (next p))

pub end-grows : (next : ℕ → ℕ) → ((p : ℕ) → p ≤ next p) → (n p : ℕ) → p ≤ end_after next n p
unfolding end_after
end-grows next f zero p = omega arith
end-grows next f (suc n) p = let a = f p in let b = end-grows next f n (next p) in omega arith
