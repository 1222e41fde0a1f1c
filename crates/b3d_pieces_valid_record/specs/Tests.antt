-- Tests that hold just where a statement does, and sums that are right where they are small.
use Rattle.std.specs.Prelude.{◌≡◌, ℕ, ◌+◌, ◌<◌, ◌≤◌, Bool, true}
use Rattle.b3d_pieces_spec.specs.declared.Kept.{Kept}
use Rattle.b3d_pieces_spec.specs.declared.Open.{Open}
use Rattle.b3d_pieces_spec.specs.Good.{Words, Bound, worth}
use Rattle.b3d_pieces_spec.specs.Limits.{most_counted, over_counted}

-- b is true just where P holds
pub record Tests (b : Bool) (P : Type 0) : Type 0 where
  -- if b is true, P holds
  pub yes : b ≡ true → P
  -- if P holds, b is true
  pub all : P → b ≡ true

-- r is n if P holds and n is at most 16,777,217; otherwise r is above that
pub record Weighs (P : Type 0) (n r : ℕ) : Type 0 where
  -- if r is at most 16,777,217, P holds and r is n
  pub yes : r ≤ most_counted → P × (r ≡ n)
  -- if P holds and n is at most 16,777,217, r is n
  pub all : P → n ≤ most_counted → r ≡ n
  -- r is at most 16,777,218
  pub most : r ≤ over_counted

-- a file may have the chunk f open with n chunks around it, and f's fixed data are words
abbrev pub OpenFits : Open → ℕ → Type 0
OpenFits f n = Bound f.tag f.level n × Words f.kept

-- r is n where either is at most 16,777,217; r is at most m
pub record Small (m n r : ℕ) : Type 0 where
  -- if r is at most 16,777,217, it is n
  pub yes : r ≤ most_counted → r ≡ n
  -- if n is at most 16,777,217, r is n
  pub all : n ≤ most_counted → r ≡ n
  -- r is at most m
  pub most : r ≤ m

-- a number of a row is as the machine leaves it after n bytes: it began at `at`, j of its bytes came, worth acc, and k are words
abbrev pub RowOff : ℕ → ℕ → ℕ → Kept → ℕ → ℕ → Type 0
RowOff i j acc k at n = (at + j ≡ n) × (j ≤ 3) × (i ≤ at) × (acc < worth j) × Words k
