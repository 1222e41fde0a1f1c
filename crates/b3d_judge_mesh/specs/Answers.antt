-- A mesh from parts that were read, and what is answered of it: its vertices and its tally.
use Rattle.layout.specs.Refused.{refusal_at}
use Rattle.std.specs.Prelude as std
use Rattle.b3d_judge_tally.specs.declared.Tally.{Tally}
use Rattle.layout.specs.declared.Refusal.{Refusal}
use Rattle.std.specs.Prelude.{◌≡◌, ℕ, ◌≤◌, ◌-◌, length, Ok, Err}
use Rattle.layout.specs.Result.{Result, accept, reject, ◌>>=◌}
use Rattle.b3d_spec.specs.declared.Mode.{Mode}
use Rattle.b3d_spec.specs.declared.Tag.TheVariants.{VRTS}
use Rattle.b3d_spec.specs.Tags.{Chunks}
use Rattle.b3d_spec.specs.Scene.{Mesh}
use Rattle.b3d_spec.specs.Parse.{read_one, Vertices, no_vertices, read_vertices, read_sets}
use Rattle.b3d_judge_tally.specs.Tally.{mesh_tally, Within}

-- a mesh of this brush id: the vertices o that were read, and the TRIS chunks cs after them
unfoldable pub read_after : ℕ → ℕ → Result Vertices → Chunks → Result Mesh
read_after brushes brush o cs = do
  v ← o
  l ← read_sets brushes (length v.items) cs
  accept (record { brush = brush; flags = v.flags; sets = v.sets; size = v.size; vertices = v.items; triangle_sets = l })

-- a mesh of this brush id, from the chunks cs inside its MESH: one VRTS, then TRIS
unfoldable pub read_inside : Mode → ℕ → ℕ → Chunks → Result Mesh
read_inside mode brushes brush cs = do
  v ← read_one VRTS no_vertices (read_vertices mode) cs
  read_after brushes brush (accept v.value) v.rest

-- the answer on a mesh that was read: how many vertices it has, and its tally; or its refusal
abbrev pub meshed : Result Mesh → std.Result (ℕ × Tally) Refusal
meshed (accept m) = Ok (length m.vertices, mesh_tally m)
meshed (reject n p) = Err (refusal_at n p)

-- bounds of an answer on a MESH from place `from` to place `to`: the tally is of no more bytes than there are; a refusal's place is not past `to`
abbrev pub MeshedIn : ℕ → ℕ → std.Result (ℕ × Tally) Refusal → Type 0
MeshedIn from to (Ok (k, t)) = Within t (to - from)
MeshedIn from to (Err e) = e.place ≤ to

-- r is the answer on the mesh o, which stands from place `from` to place `to`
pub record Meshes (o : Result Mesh) (from to : ℕ) (r : std.Result (ℕ × Tally) Refusal) : Type 0 where
  -- it is the vertices and the tally, or the refusal
  pub is : r ≡ meshed o
  -- it keeps its bounds
  pub within : MeshedIn from to r
