-- The chunks of a file, as the mending read counts them.
use Rattle.std.specs.Prelude.{ℕ, []}
use Rattle.layout.specs.Result.{Result, accept, ◌>>=◌}
use Rattle.b3d_spec.specs.declared.Tag.TheVariants.{TEXS}
use Rattle.b3d_spec.specs.Tags.{Chunks}
use Rattle.b3d_spec.specs.Scene.{Scene}
use Rattle.b3d_spec.specs.Parse.{read_one, read_textures}
use Rattle.b3d_mend_judge_file.specs.Phases.{lax_rest}

-- the chunks inside a BB3D of this version, from the first on
unfoldable pub lax_chunks : ℕ → Chunks → Result Scene
lax_chunks version cs = do
  t ← read_one TEXS [] read_textures cs
  x ← lax_rest t.rest
  accept (record { version = version; textures = t.value; slots = x.0.0; brushes = x.0.1; nodes = x.1 })
