-- A refusal by its number and its place.
use Rattle.std.specs.Prelude.{ℕ}
use Rattle.layout.specs.declared.Refusal.{Refusal}

-- the refusal n at place p
abbrev pub refusal_at : ℕ → ℕ → Refusal
refusal_at n p = record { number = n; place = p }
