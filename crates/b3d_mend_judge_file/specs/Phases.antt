-- The chunks inside a BB3D by phases, as the mending read counts them: nodes; brushes and nodes.
use Rattle.std.specs.Prelude.{ℕ, List, []}
use Rattle.layout.specs.Result.{Result, accept, ◌>>=◌}
use Rattle.layout.specs.Chunks.{ended}
use Rattle.b3d_spec.specs.declared.Mode.TheVariants.{Lenient}
use Rattle.b3d_spec.specs.declared.Tag.TheVariants.{BRUS, NODE}
use Rattle.b3d_spec.specs.Tags.{Chunks}
use Rattle.b3d_spec.specs.Scene.{Brush, Forest, no_nodes}
use Rattle.b3d_spec.specs.Parse.{read_one, read_brushes, slots_of}
use Rattle.b3d_mend_judge_items.specs.Lax.{every, lax_root}

-- the nodes, if NODE comes first, and nothing known after it
unfoldable pub lax_last : Chunks → Result Forest
lax_last cs = do
  n ← read_one NODE no_nodes lax_root cs
  ended n.rest n.value

-- the chunks inside a BB3D after its textures: how many slots a brush has, its brushes, its nodes
unfoldable pub lax_rest : Chunks → Result ((ℕ × List Brush) × Forest)
lax_rest cs = do
  u ← read_one BRUS (0, []) (read_brushes Lenient every) cs
  f ← lax_last u.rest
  accept ((slots_of u.value.0 u.value.1, u.value.1), f)
