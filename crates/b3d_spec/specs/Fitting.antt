-- Which scenes a file can hold: the test of WellFormed as statements; and where a name stands.
use Rattle.std.specs.Prelude.{◌≡◌, ℕ, zero, suc, ◌+◌, ◌≤◌, ◌<◌, List, [], ◌∷◌, length, take, drop}
use Rattle.std.proofs.Math.Option.{Option, none}
use Rattle.layout.specs.Fitting.{Fits, FitText}
use Rattle.layout.specs.Lists.{All}
use Rattle.layout.specs.Parts.{Name}
use Rattle.b3d_spec.specs.declared.Mode.TheVariants.{Lenient}
use Rattle.b3d_spec.specs.Rules.{texture_row, brush_row, brush_ids, node_row, vertex_row, triangle_row, weight_row, key_row, anim_row, bone_limit, bone_limit_below, levels, file_head, brushes_head, mesh_head, vertices_head, triangles_head, keys_head}
use Rattle.b3d_spec.specs.Scene.{Texture, Brush, TriangleSet, Mesh, Kind, pivot, mesh, bone, Keys, Anim, no_anim, anim, Data, Forest, no_nodes, node, Scene}

-- texture t can stand in a file
abbrev pub FitTexture : Texture → Type 0
FitTexture t = FitText t.name.bytes × Fits texture_row t.words

-- brush b can stand in a file with n_texs `slots` and this number of `textures`
abbrev pub FitBrush : ℕ → ℕ → Brush → Type 0
FitBrush slots textures b = FitText b.name.bytes × Fits (brush_row Lenient) b.words × Fits (brush_ids slots textures) b.ids

-- triangle set x can stand in a file with this number of `brushes`, in a mesh with this number of `vertices`
abbrev pub FitTriangles : ℕ → ℕ → TriangleSet → Type 0
FitTriangles brushes vertices x = Fits (triangles_head brushes) (x.brush ∷ []) × All (Fits (triangle_row vertices)) x.triangles

-- mesh m can stand in a file with this number of `brushes`
pub record FitMesh (brushes : ℕ) (m : Mesh) : Type 0 where
  -- its brush id names a brush, or is -1
  pub brush : Fits (mesh_head brushes) (m.brush ∷ [])
  -- flags, sets and set size are in their ranges
  pub head : Fits vertices_head (m.flags ∷ m.sets ∷ m.size ∷ [])
  -- each vertex has the words that these say
  pub vertices : All (Fits (vertex_row Lenient m.flags m.sets m.size)) m.vertices
  -- each triangle set names vertices of this mesh
  pub triangles : All (FitTriangles brushes (length m.vertices)) m.triangle_sets
  -- there is one triangle set or more
  pub some_set : 0 < length m.triangle_sets

-- key list k can stand in a file
abbrev pub FitKeys : Keys → Type 0
FitKeys k = Fits keys_head (k.flags ∷ []) × All (Fits (key_row k.flags)) k.items

-- a node's kind can stand in a file with this number of `brushes`, where a bone may name this number of `vertices`
abbrev pub FitKind : ℕ → ℕ → Kind → Type 0
FitKind brushes vertices pivot = Unit {0}
FitKind brushes vertices (mesh m) = FitMesh brushes m
FitKind brushes vertices (bone ws) = All (Fits (weight_row vertices)) ws

-- a node's ANIM can stand in a file; so can none
abbrev pub FitAnim : Anim → Type 0
FitAnim no_anim = Unit {0}
FitAnim (anim ws) = Fits anim_row ws

-- the data d of a node can stand in a file with this number of `brushes`, where a bone may name this number of `vertices`
pub record FitData (brushes vertices : ℕ) (d : Data) : Type 0 where
  pub name : FitText d.name.bytes
  pub words : Fits node_row d.words
  pub kind : FitKind brushes vertices d.kind
  pub keys : All FitKeys d.keys
  pub anim : FitAnim d.anim

-- the nodes can stand in a file with this number of `brushes`, with l levels left; `above`: how many vertices their bones may name, none for the root
abbrev pub FitNodes : ℕ → ℕ → Option ℕ → Forest → Type 0
FitNodes zero brushes above no_nodes = Unit {0}
FitNodes zero brushes above (node d f g) = ⊥
FitNodes (suc l) brushes above no_nodes = Unit {0}
FitNodes (suc l) brushes above (node d f g) =
    FitData brushes (bone_limit above) d × FitNodes l brushes (bone_limit_below above d) f × FitNodes (suc l) brushes above g

-- at most one node has no node above it
abbrev pub OneRoot : Forest → Type 0
OneRoot no_nodes = Unit {0}
OneRoot (node d f no_nodes) = Unit {0}
OneRoot (node d f (node e g h)) = ⊥

-- n can be the n_texs of a file with these brushes: 0 where there is no brush
abbrev pub FitSlots : ℕ → List Brush → Type 0
FitSlots n [] = n ≡ 0
FitSlots n (b ∷ l) = Fits brushes_head (n ∷ [])

-- scene t can stand in a file
pub record WellFormed (t : Scene) : Type 0 where
  pub version : Fits file_head (t.version ∷ [])
  pub textures : All FitTexture t.textures
  pub slots : FitSlots t.slots t.brushes
  pub brushes : All (FitBrush t.slots (length t.textures)) t.brushes
  pub nodes : FitNodes levels (length t.brushes) none t.nodes
  pub root : OneRoot t.nodes

-- the bytes of name x are in ns at its place
abbrev pub Stands : List ℕ → Name → Type 0
Stands ns x = (x.place + length x.bytes ≤ length ns) × (take (length x.bytes) (drop x.place ns) ≡ x.bytes)
