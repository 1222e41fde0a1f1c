-- What the readers of Parse say of a file, with the totals for the scene: between the machine and Parse.
use Prim.Native.Nat.{ℕ, zero, suc, ◌+◌}
use mathlib.Core.Bool.{Bool, true, false}
use mathlib.Core.List.{List}
use lib.ListN.{length}
use Rattle.layout.specs.Result.{Result, accept, reject, ◌>>=◌}
use Rattle.layout.specs.Rules.{Rule}
use Rattle.layout.specs.Parts.{row, named, items}
use Rattle.layout.specs.Chunks.{done, stop, chunk}
use Rattle.b3d_spec.specs.declared.Tag.{Tag}
use Rattle.b3d_spec.specs.declared.Tag.TheVariants.{BB3D, TEXS, BRUS, NODE, MESH, VRTS, TRIS, BONE, KEYS, ANIM}
use Rattle.b3d_spec.specs.Tags.{Chunks}
use Rattle.b3d_spec.specs.Rules.{file_head, node_row, mesh_head}
use Rattle.b3d_spec.specs.Nesting.{inside}
use Rattle.b3d_spec.specs.Parse.{read_anim}
use Rattle.b3d_pieces_spec.specs.declared.Totals.{Totals}
use Rattle.b3d_pieces_spec.specs.Bodies.{fixed_row, inner_row, text_items, none_kept, headed, closed, entered}
use Rattle.b3d_pieces_spec.proofs.RunLaws.{kept_of}

-- how many items, with a text before each row or without
unfoldable pub count_items : Bool → List Rule → ℕ → List ℕ → Result ℕ
count_items true rs p s = items (named rs) p s >>= λ l. accept (length l)
count_items false rs p s = items (row rs) p s >>= λ l. accept (length l)

-- a chunk of fixed data and items
unfoldable pub leaf_out : Tag → Totals → ℕ → List ℕ → Result Totals
leaf_out t g p b = do
  h ← row (fixed_row t g) (p + 8) b
  n ← count_items (text_items t) (inner_row t (kept_of h.value) g) h.place h.left
  accept (closed t n (kept_of h.value) 0 g)

unfoldable pub anim_out : Totals → ℕ → List ℕ → Result Totals
anim_out g p b = read_anim p b >>= λ x. accept (closed ANIM 0 none_kept 0 g)

-- the totals after chunks, each read by `one`
unfoldable pub chunks_out : (Tag → Totals → ℕ → List ℕ → Result Totals) → Chunks → Totals → Result Totals
chunks_out one done g = accept g
chunks_out one (stop n p) g = reject n p
chunks_out one (chunk t p b r) g = one t g p b >>= λ x. chunks_out one r x

-- a chunk that stands in a MESH; of the others only VRTS and TRIS may
abbrev pub in_mesh : Tag → Totals → ℕ → List ℕ → Result Totals
in_mesh BB3D g p b = reject 4 p
in_mesh TEXS g p b = leaf_out TEXS g p b
in_mesh BRUS g p b = leaf_out BRUS g p b
in_mesh NODE g p b = reject 4 p
in_mesh MESH g p b = reject 4 p
in_mesh VRTS g p b = leaf_out VRTS g p b
in_mesh TRIS g p b = leaf_out TRIS g p b
in_mesh BONE g p b = leaf_out BONE g p b
in_mesh KEYS g p b = leaf_out KEYS g p b
in_mesh ANIM g p b = anim_out g p b

unfoldable pub mesh_out : Totals → ℕ → List ℕ → Result Totals
mesh_out g p b = do
  h ← row (mesh_head g.brushes) (p + 8) b
  x ← chunks_out in_mesh (inside MESH p h.place h.left) g
  accept (closed MESH 0 (kept_of h.value) 0 x)

-- a chunk that stands in a BB3D, or in a NODE with so many levels left below it
abbrev pub in_node : (Totals → ℕ → List ℕ → Result Totals) → Tag → Totals → ℕ → List ℕ → Result Totals
in_node nodes BB3D g p b = reject 4 p
in_node nodes TEXS g p b = leaf_out TEXS g p b
in_node nodes BRUS g p b = leaf_out BRUS g p b
in_node nodes NODE g p b = nodes g p b
in_node nodes MESH g p b = mesh_out g p b
in_node nodes VRTS g p b = leaf_out VRTS g p b
in_node nodes TRIS g p b = leaf_out TRIS g p b
in_node nodes BONE g p b = leaf_out BONE g p b
in_node nodes KEYS g p b = leaf_out KEYS g p b
in_node nodes ANIM g p b = anim_out g p b

unfoldable pub node_out : ℕ → Totals → ℕ → List ℕ → Result Totals
node_out zero g p b = reject 9 p
node_out (suc l) g p b = do
  h ← named node_row (p + 8) b
  x ← chunks_out (in_node (node_out l)) (inside NODE p h.place h.left) (entered g)
  accept (closed NODE 0 none_kept g.below x)

-- BB3D's body at place p
unfoldable pub body_out : ℕ → Totals → ℕ → List ℕ → Result Totals
body_out l g p b = do
  h ← row file_head p b
  chunks_out (in_node (node_out l)) (inside BB3D 0 h.place h.left) (headed BB3D (kept_of h.value) g)
