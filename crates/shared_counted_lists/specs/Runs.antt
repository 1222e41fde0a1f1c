-- Where a reading by cursor ends.
use Rattle.layout.specs.Refused.{refusal_at}
use Rattle.std.specs.Prelude as std
use Rattle.layout.specs.declared.Refusal.{Refusal}
use Rattle.std.specs.Prelude.{ℕ, ◌+◌, ◌≤◌, ◌≡◌, Ok, Err}
use Rattle.wire.specs.declared.Cursor.{Cursor}
use Rattle.layout.specs.Result.{Result, accept, reject}
use Rattle.layout.specs.Parts.{Step}

-- what code answers for what was read: the cursor after it, up to the same end; or the refusal
abbrev pub ran_of : {A : Type 0} → ℕ → Result (Step A) → std.Result Cursor Refusal
ran_of end (accept x) = Ok (record { at = x.place; end = end })
ran_of end (reject n p) = Err (refusal_at n p)

-- at least k bytes after c were passed, up to the same end; a refusal's place is not past the end
abbrev pub Passes : Cursor → ℕ → std.Result Cursor Refusal → Type 0
Passes c k (Ok n) = (c.at + k ≤ n.at) × (n.at ≤ n.end) × (n.end ≡ c.end)
Passes c k (Err e) = e.place ≤ c.end

-- r is what code answers for o, which was read at c and has at least k bytes
pub record Runs {A : Type 0} (o : Result (Step A)) (c : Cursor) (k : ℕ) (r : std.Result Cursor Refusal) : Type 0 where
  -- r is o's cursor or refusal
  pub is : r ≡ ran_of c.end o
  -- at least k bytes were passed
  pub passes : Passes c k r
