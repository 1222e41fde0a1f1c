-- The mending read as far as rows are counted: it goes as `parse` does in the lenient mode, but ids are not looked at, except that a triangle or a
-- weight with a bad vertex id is left out, and so are 1 to 7 spare bytes at the end of BB3D, NODE and MESH.
use Rattle.std.specs.Prelude.{ℕ, zero, suc, ◌+◌, List, [], ◌∷◌, length, replicate}
use Rattle.std.proofs.Math.Option.{Option, none}
use Rattle.wire.specs.Test.{if}
use Rattle.layout.specs.Chunks.{done, stop, chunk, ended}
use Rattle.layout.specs.Result.{Result, accept, reject, ◌>>=◌}
use Rattle.layout.specs.Parts.{row, number, named, items}
use Rattle.layout.specs.Rules.{Rule, any}
use Rattle.layout.specs.Refusals as refusals
use Rattle.b3d_spec.specs.Nesting.{start, order}
use Rattle.b3d_spec.specs.Parse.{read_one, read_textures, read_brushes, no_vertices, read_vertices, Inner, read_animation, read_below, slots_of}
use Rattle.b3d_spec.specs.Rules.{node_row, triangle_row, weight_row, bone_limit, levels, file_head}
use Rattle.b3d_spec.specs.Scene.{TriangleSet, Mesh, Kind, pivot, mesh, bone, no_anim, Forest, no_nodes, node, Scene}
use Rattle.b3d_spec.specs.Tags.{is, Chunks, Found}
use Rattle.b3d_spec.specs.declared.Mode.TheVariants.{Lenient}
use Rattle.b3d_spec.specs.declared.Tag.{Tag}
use Rattle.b3d_spec.specs.declared.Tag.TheVariants.{BB3D, TEXS, BRUS, NODE, MESH, VRTS, BONE}
use Rattle.b3d_mend_spec.specs.Mend.{all_hold}
use Rattle.b3d_mend_spec.specs.Pieces.{pieces, chunks_of}

-- more things than an id can be: every id names one
abbrev pub every : ℕ
every = 4294967296

-- ---- items

-- the items whose words keep their rules
unfoldable pub kept : List Rule → List (List ℕ) → List (List ℕ)
kept rs [] = []
kept rs (ws ∷ l) = if (all_hold rs ws) (ws ∷ kept rs l) (kept rs l)

unfoldable pub lax_items : List Rule → ℕ → List ℕ → Result (List (List ℕ))
lax_items rs p s = do
  l ← items (row (replicate (length rs) any)) p s
  accept (kept rs l)

unfoldable pub lax_triangles : ℕ → ℕ → List ℕ → Result TriangleSet
lax_triangles vertices p b = do
  h ← row (any ∷ []) (p + 8) b
  l ← lax_items (triangle_row vertices) h.place h.left
  accept (record { brush = number h 0; triangles = l })

unfoldable pub lax_bone : ℕ → ℕ → List ℕ → Result (List (List ℕ))
lax_bone vertices p b = lax_items (weight_row vertices) (p + 8) b

-- ---- meshes

-- the chunks inside a chunk of tag k whose header is at `head`, from place p on, without spare bytes
unfoldable pub lax_inside : Tag → ℕ → ℕ → List ℕ → Chunks
lax_inside k head p s = order k head start (chunks_of (pieces p s))

-- TRIS chunks to the end
unfoldable pub lax_sets : ℕ → Chunks → Result (List TriangleSet)
lax_sets vertices done = accept []
lax_sets vertices (stop n p) = reject n p
lax_sets vertices (chunk t p b r) = do
  x ← lax_triangles vertices p b
  l ← lax_sets vertices r
  accept (x ∷ l)

unfoldable pub lax_mesh : ℕ → List ℕ → Result Mesh
lax_mesh p b = do
  h ← row (any ∷ []) (p + 8) b
  v ← read_one VRTS no_vertices (read_vertices Lenient) (lax_inside MESH p h.place h.left)
  l ← lax_sets (length v.value.items) v.rest
  accept (record { brush = number h 0; flags = v.value.flags; sets = v.value.sets; size = v.value.size; vertices = v.value.items; triangle_sets = l })

-- ---- nodes

-- a MESH or a BONE, if it comes first
unfoldable pub lax_kind : ℕ → Chunks → Result (Found Kind)
lax_kind vertices done = accept (record { value = pivot; rest = done })
lax_kind vertices (stop n p) = reject n p
lax_kind vertices (chunk t p b r) =
    let m : Result (Found Kind) = lax_mesh p b >>= λ x. accept (record { value = mesh x; rest = r }) in
    let w : Result (Found Kind) = lax_bone vertices p b >>= λ x. accept (record { value = bone x; rest = r }) in
    let other = if (is t BONE) w (accept (record { value = pivot; rest = chunk t p b r })) in
    if (is t MESH) m other

-- a NODE, with the levels of nodes that are left; `above`: what the nodes above say of bones
unfoldable pub lax_node : ℕ → Option ℕ → ℕ → List ℕ → Result Inner
lax_node zero above p b = reject refusals.too_deep p
lax_node (suc l) above p b = do
  h ← named node_row (p + 8) b
  k ← lax_kind (bone_limit above) (lax_inside NODE p h.place h.left)
  m ← read_animation no_anim k.rest
  read_below (lax_node l) above
      (record { name = h.value.0; words = h.value.1; kind = k.value; keys = m.value.keys; anim = m.value.anim })
      m.rest

unfoldable pub lax_root : ℕ → List ℕ → Result Forest
lax_root p b = do
  x ← lax_node levels none p b
  accept (node x.self x.below no_nodes)

-- ---- the file

-- a BB3D's body, at place p
unfoldable pub lax_body : ℕ → List ℕ → Result Scene
lax_body p b = do
  h ← row file_head p b
  t ← read_one TEXS [] read_textures (lax_inside BB3D 0 h.place h.left)
  u ← read_one BRUS (0, []) (read_brushes Lenient every) t.rest
  n ← read_one NODE no_nodes lax_root u.rest
  ended n.rest
      (record { version = number h 0; textures = t.value; slots = slots_of u.value.0 u.value.1; brushes = u.value.1; nodes = n.value })
