-- What is answered of the chunks of a file, before the row limits are looked at.
use Rattle.layout.specs.Refused.{refusal_at}
use Rattle.std.specs.Prelude as std
use Rattle.b3d_judge_file_body.specs.declared.Summary.{Summary}
use Rattle.layout.specs.declared.Refusal.{Refusal}
use Rattle.std.specs.Prelude.{◌≡◌, ℕ, ◌≤◌, [], length, Ok, Err}
use Rattle.layout.specs.Result.{Result, accept, reject, ◌>>=◌}
use Rattle.b3d_spec.specs.declared.Mode.{Mode}
use Rattle.b3d_spec.specs.declared.Tag.TheVariants.{TEXS}
use Rattle.b3d_spec.specs.Tags.{Chunks}
use Rattle.b3d_spec.specs.Scene.{Scene}
use Rattle.b3d_spec.specs.Parse.{read_one, read_textures}
use Rattle.b3d_judge_tally.specs.Tally.{scene_tally, Within}
use Rattle.b3d_judge_file_chunks.specs.Answers.{read_rest}

-- the scene of a file of this version, from the chunks cs inside its BB3D
unfoldable pub read_chunks : Mode → ℕ → Chunks → Result Scene
read_chunks mode version cs = do
  t ← read_one TEXS [] read_textures cs
  x ← read_rest mode (length t.value) t.rest
  accept (record { version = version; textures = t.value; slots = x.0.0; brushes = x.0.1; nodes = x.1 })

-- the answer before the row limit is looked at: version, n_texs and the tally of the walk; or the refusal
abbrev pub walked : Result Scene → std.Result Summary Refusal
walked (accept t) = Ok (record { version = t.version; n_texs = t.slots; tally = scene_tally t })
walked (reject n p) = Err (refusal_at n p)

-- bounds of an answer on n bytes: the tally is of no more bytes than that; a refusal's place is not past them
abbrev pub WalkedIn : ℕ → std.Result Summary Refusal → Type 0
WalkedIn n (Ok x) = Within x.tally n
WalkedIn n (Err e) = e.place ≤ n

-- r is the answer on the scene o of a file of `to` bytes, before the row limit is looked at
pub record Walks (o : Result Scene) (to : ℕ) (r : std.Result Summary Refusal) : Type 0 where
  -- it is what was read, or the refusal
  pub is : r ≡ walked o
  -- it keeps its bounds
  pub within : WalkedIn to r
