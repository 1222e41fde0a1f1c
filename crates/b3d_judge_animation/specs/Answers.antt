-- What is answered of KEYS and ANIM: whether there is an ANIM, beside their tally.
use Rattle.std.specs.Prelude as std
use Rattle.layout.specs.declared.Refusal.{Refusal}
use Rattle.std.specs.Prelude.{◌≤◌, ◌≡◌, Bool, true, false, [], Ok, Err}
use Rattle.wire.specs.declared.Cursor.{Cursor}
use Rattle.layout.specs.Result.{Result, accept, reject}
use Rattle.b3d_spec.specs.Tags.{Chunks, Found}
use Rattle.b3d_spec.specs.Scene.{Anim, no_anim, anim}
use Rattle.b3d_spec.specs.Parse.{Animation}
use Rattle.b3d_spec.specs.Rules.{animated}
use Rattle.b3d_judge_tally.specs.Tally.{plus, animation_tally}
use Rattle.b3d_judge_tally.specs.declared.Tally.{Tally}
use Rattle.b3d_judge_tally.specs.Answers.{beside, Onward}

-- an ANIM that was seen (true) or not; its values are not kept
abbrev pub anim_of : Bool → Anim
anim_of true = anim []
anim_of false = no_anim

-- the KEYS and ANIM that were read: whether there is an ANIM, their tally and the chunks that are left; or the refusal
abbrev pub moved : Result (Found Animation) → Result (Bool × Tally × Chunks)
moved = beside (λ x. animated x.anim) animation_tally

-- the KEYS and ANIM that were read: whether there is an ANIM, their tally added to m, and the chunks that are left; or the refusal
abbrev pub moved_from : Tally → Result (Found Animation) → Result (Bool × Tally × Chunks)
moved_from m = beside (λ x. animated x.anim) (λ x. plus m (animation_tally x))

-- what an answer says: whether there is an ANIM, the tally, and the chunks from the cursor on by `rest`; or the refusal
abbrev pub moved_by : (Cursor → Chunks) → std.Result (Bool × Tally × Cursor) Refusal → Result (Bool × Tally × Chunks)
moved_by rest (Ok (a, t, c)) = accept (a, t, rest c)
moved_by rest (Err e) = reject e.number e.place

-- bounds of an answer from the cursor `from` on: the cursor further on, with a tally of no more bytes than lie between; a refusal's place not past the end
abbrev pub MovedIn : Cursor → std.Result (Bool × Tally × Cursor) Refusal → Type 0
MovedIn from (Ok (a, t, c)) = Onward from c t
MovedIn from (Err e) = e.place ≤ from.end

-- r is the answer on the KEYS and ANIM o from the cursor `from` on, `rest` giving the chunks from a cursor on
pub record Motions (o : Result (Found Animation)) (rest : Cursor → Chunks) (from : Cursor) (r : std.Result (Bool × Tally × Cursor) Refusal) : Type 0 where
  -- it says what was read, or the refusal
  pub is : moved_by rest r ≡ moved o
  -- it keeps its bounds
  pub within : MovedIn from r
