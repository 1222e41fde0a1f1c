-- A mesh from parts that were read, as the mending read counts it.
use Rattle.std.specs.Prelude.{ℕ, length}
use Rattle.layout.specs.Result.{Result, accept, ◌>>=◌}
use Rattle.b3d_spec.specs.declared.Mode.TheVariants.{Lenient}
use Rattle.b3d_spec.specs.declared.Tag.TheVariants.{VRTS}
use Rattle.b3d_spec.specs.Tags.{Chunks}
use Rattle.b3d_spec.specs.Scene.{Mesh}
use Rattle.b3d_spec.specs.Parse.{read_one, Vertices, no_vertices, read_vertices}
use Rattle.b3d_mend_judge_items.specs.Lax.{lax_sets}

-- a mesh of this brush, of vertices that were read and the TRIS chunks after them
unfoldable pub lax_after : ℕ → Result Vertices → Chunks → Result Mesh
lax_after brush o cs = do
  v ← o
  l ← lax_sets (length v.items) cs
  accept (record { brush = brush; flags = v.flags; sets = v.sets; size = v.size; vertices = v.items; triangle_sets = l })

-- the chunks inside a MESH of this brush, from the first on
unfoldable pub lax_within : ℕ → Chunks → Result Mesh
lax_within brush cs = do
  v ← read_one VRTS no_vertices (read_vertices Lenient) cs
  lax_after brush (accept v.value) v.rest
