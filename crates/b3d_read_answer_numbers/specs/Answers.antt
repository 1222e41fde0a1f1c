-- The answer for an accepted file, from what was counted in it.
use Rattle.std.specs.Prelude.{ℕ, eqb}
use Rattle.wire.specs.Test.{if}
use Rattle.layout.specs.Result.{reject}
use Rattle.layout.specs.Refusals as refusals
use Rattle.b3d_spec.specs.declared.Answer.{Answer}
use Rattle.b3d_spec.specs.Answers.{answer}
use Rattle.b3d_spec.specs.Tables.{width, tables}
use Rattle.b3d_judge_tally.specs.declared.Tally.{Tally}
use Rattle.shared_room.specs.Rooms.{number_of, first_short}
use Rattle.b3d_judge_limits.specs.Rooms.{counts_in}

-- the answer with ample tables: version, n_texs (`slots`) and the ten counts of t
unfoldable pub accepted_as : ℕ → ℕ → Tally → Answer
accepted_as version slots t = record { number = 0; place = 0; version = version; n_texs = slots; counts = counts_in t }

-- the answer with tables of room k words each: 11 and the number of the first that is too short, if there is one
unfoldable pub room_answer : ℕ → ℕ → Tally → (ℕ → ℕ) → Answer
room_answer version slots t room =
    let short = first_short width (number_of (counts_in t)) room tables in
    if (eqb short 0) (accepted_as version slots t) (answer (reject refusals.too_short short))
