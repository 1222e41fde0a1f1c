-- The answer on a BRUS as a value of the definition: the slots of a brush, 0 without one, and the tally.
use Rattle.layout.specs.Refused.{refusal_at}
use Rattle.std.specs.Prelude as std
use Rattle.b3d_judge_tally.specs.declared.Tally.{Tally}
use Rattle.layout.specs.declared.Refusal.{Refusal}
use Rattle.std.specs.Prelude.{◌≡◌, ℕ, ◌≤◌, ◌-◌, List, Ok, Err}
use Rattle.layout.specs.Result.{Result, accept, reject}
use Rattle.b3d_spec.specs.Scene.{Brush}
use Rattle.b3d_spec.specs.Parse.{slots_of}
use Rattle.b3d_judge_tally.specs.Tally.{brus_tally, Within}

-- the answer on a BRUS that was read: n_texs, 0 without a brush, and its tally; or its refusal
abbrev pub slotted : Result (ℕ × List Brush) → std.Result (ℕ × Tally) Refusal
slotted (accept x) = Ok (slots_of x.0 x.1, brus_tally (slots_of x.0 x.1) x.1)
slotted (reject n p) = Err (refusal_at n p)

-- bounds of an answer on what stands from place `from` to place `to`: the tally is of no more bytes than there are; a refusal's place is not past `to`
abbrev pub SlottedIn : ℕ → ℕ → std.Result (ℕ × Tally) Refusal → Type 0
SlottedIn from to (Ok (k, t)) = Within t (to - from)
SlottedIn from to (Err e) = e.place ≤ to

-- r is the answer on the BRUS o, which stands from place `from` to place `to`
pub record SlotsAre (o : Result (ℕ × List Brush)) (from to : ℕ) (r : std.Result (ℕ × Tally) Refusal) : Type 0 where
  -- it is n_texs and the tally, or the refusal
  pub is : r ≡ slotted o
  -- it keeps its bounds
  pub within : SlottedIn from to r
