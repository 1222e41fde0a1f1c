-- What is answered of a part of a file: its tally or its refusal, with bounds on both.
use Rattle.layout.specs.Refused.{refusal_at}
use Rattle.std.specs.Prelude as std
use Rattle.layout.specs.declared.Refusal.{Refusal}
use Rattle.std.specs.Prelude.{◌≡◌, ℕ, ◌≤◌, ◌-◌, Ok, Err}
use Rattle.wire.specs.declared.Cursor.{Cursor}
use Rattle.layout.specs.Result.{Result, accept, reject}
use Rattle.b3d_spec.specs.Tags.{Chunks, Found}
use Rattle.b3d_judge_tally.specs.Tally.{plus, Within}
use Rattle.b3d_judge_tally.specs.declared.Tally.{Tally}

-- the answer on a part that was read: its tally, or its refusal
abbrev pub judged : {A : Type 0} → (A → Tally) → Result A → std.Result Tally Refusal
judged tally (accept a) = Ok (tally a)
judged tally (reject n p) = Err (refusal_at n p)

-- bounds of an answer on a part from place `from` to place `to`: the tally is of no more bytes than there are; a refusal's place is not past `to`
abbrev pub JudgedIn : ℕ → ℕ → std.Result Tally Refusal → Type 0
JudgedIn from to (Ok t) = Within t (to - from)
JudgedIn from to (Err e) = e.place ≤ to

-- r is the answer on the part o, which stands from place `from` to place `to`
pub record Judges {A : Type 0} (tally : A → Tally) (o : Result A) (from to : ℕ) (r : std.Result Tally Refusal) : Type 0 where
  -- it is the tally, or the refusal
  pub is : r ≡ judged tally o
  -- it keeps its bounds
  pub within : JudgedIn from to r

-- the answer on a part that was read, its tally added to m; or its refusal
abbrev pub judged_from : {A : Type 0} → Tally → (A → Tally) → Result A → std.Result Tally Refusal
judged_from m tally (accept a) = Ok (plus m (tally a))
judged_from m tally (reject n p) = Err (refusal_at n p)

-- what `part` takes of a value that was read, beside its tally and the chunks that are left; or the refusal
abbrev pub beside : {A B : Type 0} → (A → B) → (A → Tally) → Result (Found A) → Result (B × Tally × Chunks)
beside part tally (accept x) = accept (part x.value, tally x.value, x.rest)
beside part tally (reject n p) = reject n p

-- cursor c stands further on than `from`, or there, with a tally t of no more bytes than lie between
pub record Onward (from c : Cursor) (t : Tally) : Type 0 where
  pub from_at : from.at ≤ c.at
  pub room : c.at ≤ c.end
  pub same : c.end ≡ from.end
  pub within : Within t (c.at - from.at)
