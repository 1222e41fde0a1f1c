-- The slip of a file: the reader's twelve numbers of it, in lenient mode. A file is refused by its 1 to 10; then comes the slip writer's 11.
use Rattle.std.specs.Prelude.{ℕ, List, ◌∷◌, length}
use Rattle.layout.specs.Result.{Result, ◌>>=◌}
use Rattle.b3d_spec.specs.declared.Mode.TheVariants.{Lenient}
use Rattle.b3d_spec.specs.Answers.{judge, written, output_after}
use Rattle.b3d_spec.specs.Scene.{Scene}
use Rattle.b3d_spec.specs.Tables.{counts}
use Rattle.b3d_spec.specs.declared.Written.{Written}
use Rattle.slip.specs.Slips.{write_slip}

-- the twelve numbers of the scene t: version, n_texs, ten row counts
abbrev pub scene_numbers : Scene → List ℕ
scene_numbers t = t.version ∷ t.slots ∷ counts t

-- the slip of the file s for an output of `room` bytes: the file's 1 to 10, then 11
unfoldable pub file_slip : List ℕ → ℕ → Result (List ℕ)
file_slip s room = do
  t ← judge Lenient s
  write_slip (scene_numbers t) room

-- what is answered for the file s, lent the output `out`
unfoldable pub file_slip_answer : List ℕ → List ℕ → Written
file_slip_answer s out = written (file_slip s (length out))

-- what is left in the output `out`
unfoldable pub file_slip_output : List ℕ → List ℕ → List ℕ
file_slip_output s out = output_after (file_slip s (length out)) out
