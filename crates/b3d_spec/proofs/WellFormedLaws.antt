-- The test of specs/WellFormed says what the statements of specs/Fitting say.
use Prim.Native.Nat.{ℕ, zero, suc, ◌≤◌}
use mathlib.Core.Option.{Option, none}
use mathlib.Core.List.{List, [], ◌∷◌}
use lib.ListN.{length}
use lib.Dec.{leb→le}
use Rattle.layout.proofs.WellFormedLaws.{row_is, rows_is, text-is}
use Rattle.b3d_spec.specs.declared.Mode.TheVariants.{Lenient}
use Rattle.b3d_spec.specs.WellFormed.{texture_fits, brush_fits, triangles_fit, mesh_fits, keys_fit, kind_fits, anim_fits, data_fits, nodes_fit, one_root, slots_fit, fits}
pub use Rattle.b3d_spec.specs.Fitting.{FitTexture, FitBrush, FitTriangles, FitMesh, FitKeys, FitKind, FitAnim, FitData, FitNodes, OneRoot, FitSlots, WellFormed}
use Rattle.b3d_spec.specs.Rules.{texture_row, brush_row, brush_ids, node_row, vertex_row, triangle_row, weight_row, key_row, anim_row, bone_limit, bone_limit_below, levels, file_head, brushes_head, mesh_head, vertices_head, triangles_head, keys_head}
use Rattle.b3d_spec.specs.Scene.{Texture, Brush, TriangleSet, Mesh, Kind, pivot, mesh, bone, Keys, Anim, no_anim, anim, Data, Forest, no_nodes, node, Scene}
use Rattle.layout.proofs.TestLaws.{Tests, both, via, yes-is, no-is, eq_is, lt-is, all-is}
use native.Mathlib.Omega.{arith}

texture_is : (x : Texture) → Tests (texture_fits x) (FitTexture x)
texture_is x = both (text-is x.name.bytes) (row_is texture_row x.words)

brush-is : (n textures : ℕ) (b : Brush) → Tests (brush_fits n textures b) (FitBrush n textures b)
brush-is n textures b =
    via (λ h. (h.0, h.1.0, h.1.1)) (λ h. (h.0, (h.1, h.2)))
    (both (text-is b.name.bytes) (both (row_is (brush_row Lenient) b.words) (row_is (brush_ids n textures) b.ids)))

triangles-is : (brushes n : ℕ) (x : TriangleSet) → Tests (triangles_fit brushes n x) (FitTriangles brushes n x)
triangles-is brushes n x = both (row_is (triangles_head brushes) (x.brush ∷ [])) (rows_is (triangle_row n) x.triangles)

mesh-is : (brushes : ℕ) (m : Mesh) → Tests (mesh_fits brushes m) (FitMesh brushes m)
mesh-is brushes m =
    via (λ h. record { brush = h.0; head = h.1.0; vertices = h.1.1.0; triangles = h.1.1.1.0; some_set = h.1.1.1.1 })
    (λ h. (h.brush, (h.head, (h.vertices, (h.triangles, h.some_set)))))
    (both (row_is (mesh_head brushes) (m.brush ∷ []))
    (both (row_is vertices_head (m.flags ∷ m.sets ∷ m.size ∷ []))
    (both (rows_is (vertex_row Lenient m.flags m.sets m.size) m.vertices)
    (both (all-is (triangles-is brushes (length m.vertices)) m.triangle_sets)
    (lt-is 0 (length m.triangle_sets))))))

keys-is : (k : Keys) → Tests (keys_fit k) (FitKeys k)
keys-is k = both (row_is keys_head (k.flags ∷ [])) (rows_is (key_row k.flags) k.items)

kind-is : (brushes n : ℕ) (k : Kind) → Tests (kind_fits brushes n k) (FitKind brushes n k)
kind-is brushes n pivot = yes-is
kind-is brushes n (mesh m) = mesh-is brushes m
kind-is brushes n (bone ws) = rows_is (weight_row n) ws

anim_is : (a : Anim) → Tests (anim_fits a) (FitAnim a)
anim_is no_anim = yes-is
anim_is (anim ws) = row_is anim_row ws

data_is : (brushes n : ℕ) (d : Data) → Tests (data_fits brushes n d) (FitData brushes n d)
data_is brushes n d =
    via (λ h. record { name = h.0; words = h.1.0; kind = h.1.1.0; keys = h.1.1.1.0; anim = h.1.1.1.1 })
    (λ h. (h.name, (h.words, (h.kind, (h.keys, h.anim)))))
    (both (text-is d.name.bytes) (both (row_is node_row d.words) (both (kind-is brushes n d.kind)
    (both (all-is keys-is d.keys) (anim_is d.anim)))))

nodes-is : (l brushes : ℕ) (above : Option ℕ) (f : Forest) → Tests (nodes_fit l brushes above f) (FitNodes l brushes above f)
nodes-is zero brushes above no_nodes = yes-is
nodes-is zero brushes above (node d f g) = no-is
nodes-is (suc l) brushes above no_nodes = yes-is
nodes-is (suc l) brushes above (node d f g) =
    via (λ h. (h.0, h.1.0, h.1.1)) (λ h. (h.0, (h.1, h.2)))
    (both (data_is brushes (bone_limit above) d) (both (nodes-is l brushes (bone_limit_below above d) f) (nodes-is (suc l) brushes above g)))

root_is : (f : Forest) → Tests (one_root f) (OneRoot f)
root_is no_nodes = yes-is
root_is (node d f no_nodes) = yes-is
root_is (node d f (node e g h)) = no-is

slots-is : (n : ℕ) (l : List Brush) → Tests (slots_fit n l) (FitSlots n l)
slots-is n [] = eq_is n 0
slots-is n (b ∷ l) = row_is brushes_head (n ∷ [])

pub fits-is : (t : Scene) → Tests (fits t) (WellFormed t)
unfolding fits
fits-is t =
    via (λ h. record { version = h.0; textures = h.1.0; slots = h.1.1.0; brushes = h.1.1.1.0; nodes = h.1.1.1.1.0; root = h.1.1.1.1.1 })
    (λ h. (h.version, (h.textures, (h.slots, (h.brushes, (h.nodes, h.root))))))
    (both (row_is file_head (t.version ∷ [])) (both (all-is texture_is t.textures)
    (both (slots-is t.slots t.brushes) (both (all-is (brush-is t.slots (length t.textures)) t.brushes)
    (both (nodes-is levels (length t.brushes) none t.nodes) (root_is t.nodes))))))

pub slots-few : (s : ℕ) (bs : List Brush) → FitSlots s bs → s ≤ 8
slots-few s [] h = omega arith
slots-few s (b ∷ bs) h = leb→le _ _ h.1

pub no-nodes : (l b : ℕ) (above : Option ℕ) → FitNodes l b above no_nodes
no-nodes zero b above = tt
no-nodes (suc l) b above = tt
