-- How many entries of a kind a reading by cursor finds, and where it ends.
use Rattle.layout.specs.Refused.{refusal_at}
use Rattle.std.specs.Prelude as std
use Rattle.layout.specs.declared.Refusal.{Refusal}
use Rattle.std.specs.Prelude.{ℕ, ◌+◌, ◌*◌, ◌≤◌, ◌≡◌, Ok, Err}
use Rattle.wire.specs.declared.Cursor.{Cursor}
use Rattle.layout.specs.Result.{Result, accept, reject}
use Rattle.layout.specs.Parts.{Step}

-- what code answers for what was read: how many entries it has, by `count`, and the cursor after it, up to the same end; or the refusal
abbrev pub summed_of : {A : Type 0} → (A → ℕ) → ℕ → Result (Step A) → std.Result (ℕ × Cursor) Refusal
summed_of count end (accept x) = Ok (count x.value, record { at = x.place; end = end })
summed_of count end (reject n p) = Err (refusal_at n p)

-- at least k bytes after c were passed, and four for each entry, up to the same end; a refusal's place is not past the end
abbrev pub SumPasses : Cursor → ℕ → std.Result (ℕ × Cursor) Refusal → Type 0
SumPasses c k (Ok (j, n)) = (c.at + k + 4 * j ≤ n.at) × (n.at ≤ n.end) × (n.end ≡ c.end)
SumPasses c k (Err e) = e.place ≤ c.end

-- r is what code answers for o, which was read at c and has at least k bytes and four for each entry
pub record Sums {A : Type 0} (count : A → ℕ) (o : Result (Step A)) (c : Cursor) (k : ℕ) (r : std.Result (ℕ × Cursor) Refusal) : Type 0 where
  -- r is o's number of entries and cursor, or its refusal
  pub is : r ≡ summed_of count c.end o
  -- at least these bytes were passed
  pub passes : SumPasses c k r
