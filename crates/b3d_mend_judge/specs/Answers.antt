-- What is answered of a file that is to be mended: the refusal, or what the mended file holds, counted.
use Rattle.layout.specs.Refused.{refusal_at}
use Rattle.std.specs.Prelude as std
use Rattle.b3d_judge_file_body.specs.declared.Summary.{Summary}
use Rattle.layout.specs.declared.Refusal.{Refusal}
use Rattle.std.specs.Prelude.{◌≡◌, ℕ, ◌≤◌, Ok, Err}
use Rattle.layout.specs.Rows.{most_bytes}
use Rattle.layout.specs.Result.{Result, accept, reject}
use Rattle.b3d_spec.specs.Scene.{Scene}
use Rattle.b3d_judge_tally.specs.Tally.{scene_tally}
use Rattle.b3d_mend_spec.specs.Mend.{Mended}

abbrev pub mended_verdict : Result (Mended Scene) → std.Result Summary Refusal
mended_verdict (accept x) = Ok (record { version = x.value.version; n_texs = x.value.slots; tally = scene_tally x.value })
mended_verdict (reject n p) = Err (refusal_at n p)

-- a refusal's place is one of the file, or a table's number
pub record PlaceValid (r : std.Result Summary Refusal) : Type 0 where
  pub most : (e : Refusal) → r ≡ Err e → e.place ≤ most_bytes
