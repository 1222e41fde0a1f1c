-- What is answered of a file.
use Rattle.layout.specs.Refused.{refusal_at}
use Rattle.std.specs.Prelude.{Ok, Err}
use Rattle.std.specs.Prelude as std
use Rattle.b3d_judge_file_body.specs.declared.Summary.{Summary}
use Rattle.layout.specs.declared.Refusal.{Refusal}
use Rattle.layout.specs.Result.{Result, accept, reject}
use Rattle.b3d_spec.specs.Scene.{Scene}
use Rattle.b3d_judge_tally.specs.Tally.{tally_of}

-- the judge's answer for what a file says: 01's number and place, or version, n_texs, counts and the size of the copy
abbrev pub verdict_of : Result Scene → std.Result Summary Refusal
verdict_of (accept t) = Ok (record { version = t.version; n_texs = t.slots; tally = tally_of t })
verdict_of (reject n p) = Err (refusal_at n p)
