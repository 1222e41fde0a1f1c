-- The rows of each part of a scene: how wide and how many they are, and that the part comes back from them.
use mathlib.Core.Path.{◌≡◌, refl, ap, ◌∙◌}
use mathlib.Core.Logic.{◌≢◌}
use Prim.Native.Nat.{ℕ, suc, ◌+◌, ◌-◌, ◌≤◌}
use native.Mathlib.Omega.{arith}
use mathlib.Core.List.{List, [], ◌∷◌, ◌++◌, map, append_assoc}
use lib.ListN.{length, take, drop, get_or, replicate, length-append, length-map, length-replicate}
use lib.Seq.{take-append_seam, drop-append_seam, take_at, drop_at, get_or-append-add}
use lib.Dec.{eqb, eqb_refl}
use mir.Facts.{no_eqb}
use Rattle.wire.specs.Test.{if}
use Rattle.layout.specs.Rules.{NONE}
use Rattle.layout.proofs.AllLaws.{All, all_pure, all_map, all_append, all_of_map, map_back}
use Rattle.layout.proofs.ResultLaws.{if_yes, if_no}
use Rattle.b3d_spec.specs.declared.Mode.TheVariants.{Lenient}
pub use Rattle.b3d_spec.specs.Fitting.{Stands}
use Rattle.b3d_spec.specs.Mask.{mask, padded, present_words, vertex_mask, vertex_has, key_mask, key_has}
use Rattle.b3d_spec.specs.Rebuild.{name_from, texture_from, brush_from, sets_from, mesh_from, owned_by, keys_from, anim_from}
use Rattle.b3d_spec.specs.Scene.{Texture, Brush, TriangleSet, Mesh, Kind, pivot, mesh, bone, Keys, Anim, no_anim, anim, Data}
use Rattle.b3d_spec.specs.Tables.{texture_row, brush_row, kind_cells, anim_cells, node_row, mesh_row, vertex_rows, set_rows, triangle_rows, list_rows, key_rows, node_width}
use Rattle.b3d_spec.specs.declared.Counts.{Counts}
use Rattle.b3d_spec.proofs.WellFormedLaws.{FitTexture, FitBrush, FitTriangles, FitMesh, FitKeys, FitAnim, FitData}
use Rattle.b3d_spec.proofs.Rows.MaskLaws.{mask-length, spread_length, squeeze_spread}
use Rattle.b3d_spec.proofs.Rows.WordCountLaws.{any-words, ids-words, vertex-ones, key-ones}
use Rattle.layout.proofs.WellFormedLaws.{Fits}
use Rattle.layout.proofs.PartLaws.{length-fits}
use Rattle.layout.specs.Rows.{name_cells}
use Rattle.b3d_spec.specs.Rules.{vertex_row, key_row, triangle_row as triangle_ids}

-- a row of w words
abbrev pub Wide : ℕ → List ℕ → Type 0
Wide w r = length r ≡ w

-- ---- textures and brushes

pub texture_wide : (x : Texture) → FitTexture x → Wide 9 (texture_row x)
unfolding texture_row name_cells
texture_wide x h = omega (arith, any-words 7 x.words h.1)

pub texture_back : (ns : List ℕ) (x : Texture) → Stands ns x.name → texture_from ns (texture_row x) ≡ x
unfolding texture_from texture_row name_cells name_from
texture_back ns x s = λ i. record { name = record { place = x.name.place; bytes = s.1 i }; words = x.words }

pub brush-wide : (t s : ℕ) (b : Brush) → s ≤ 8 → FitBrush s t b → Wide 17 (brush_row b)
unfolding brush_row name_cells
brush-wide t s b le h =
    let e = b.ids ++ replicate (8 - length b.ids) NONE in
    omega (arith, any-words 7 b.words h.1, ids-words s t b.ids h.2, length-append b.words e, length-append b.ids (replicate (8 - length b.ids) NONE), length-replicate (8 - length b.ids) NONE)

pub brush-back : (ns : List ℕ) (t s : ℕ) (b : Brush) → FitBrush s t b → Stands ns b.name → brush_from ns s (brush_row b) ≡ b
unfolding brush_from brush_row name_cells name_from
brush-back ns t s b h st =
    let pad = replicate (8 - length b.ids) NONE in
    let ew = take_at b.words (b.ids ++ pad) 7 (any-words 7 b.words h.1) in
    let ed = drop_at b.words (b.ids ++ pad) 7 (any-words 7 b.words h.1) in
    let ei : take s (drop 7 (b.words ++ (b.ids ++ pad))) ≡ b.ids = rw ed (take_at b.ids pad s (ids-words s t b.ids h.2)) in
    λ i. record { name = record { place = b.name.place; bytes = st.1 i }; words = ew i; ids = ei i }

-- ---- triangle sets

pub sets-length : (i r : ℕ) (ss : List TriangleSet) → length (set_rows i r ss) ≡ length ss
unfolding set_rows
sets-length i r [] = refl
sets-length i r (s ∷ ss) = ap suc (sets-length i (r + length s.triangles) ss)

pub sets-wide : (i r : ℕ) (ss : List TriangleSet) → All (Wide 4) (set_rows i r ss)
unfolding set_rows
sets-wide i r [] = tt
sets-wide i r (s ∷ ss) = (refl, sets-wide i (r + length s.triangles) ss)

pub triangles-wide : (n v : ℕ) (ss : List TriangleSet) → All (FitTriangles n v) ss → All (Wide 3) (triangle_rows ss)
unfolding triangle_rows
triangles-wide n v [] h = tt
triangles-wide n v (s ∷ ss) h =
    all_append (Wide 3) s.triangles (triangle_rows ss) (all_map (Fits (triangle_ids v)) (Wide 3) (λ r f. length-fits (triangle_ids v) r f) s.triangles h.0.1) (triangles-wide n v ss h.1)

pub sets-back : (i r : ℕ) (ss : List TriangleSet) (ts : List (List ℕ)) → sets_from (set_rows i r ss) (triangle_rows ss ++ ts) ≡ ss
unfolding sets_from set_rows triangle_rows
sets-back i r [] ts = refl
sets-back i r (s ∷ ss) ts =
    rw (append_assoc s.triangles (triangle_rows ss) ts, take-append_seam s.triangles (triangle_rows ss ++ ts), drop-append_seam s.triangles (triangle_rows ss ++ ts), sets-back i (r + length s.triangles) ss ts)

-- ---- meshes

pub vertices-wide : (m : Mesh) → All (Wide 42) (vertex_rows m)
unfolding vertex_rows vertex_mask
vertices-wide m =
    let k = mask (vertex_has m.flags m.sets m.size) 42 0 in
    all_of_map (Wide 42) (padded k) m.vertices (all_pure _ (λ v. spread_length k v ∙ mask-length (vertex_has m.flags m.sets m.size) 42 0) m.vertices)

pub vertices-length : (m : Mesh) → length (vertex_rows m) ≡ length m.vertices
unfolding vertex_rows
vertices-length m = length-map m.vertices (padded (vertex_mask m.flags m.sets m.size))

vertices-back : (m : Mesh) (n : ℕ) → FitMesh n m → map (present_words (vertex_mask m.flags m.sets m.size)) (vertex_rows m) ≡ m.vertices
unfolding vertex_rows
vertices-back m n h =
    let k = vertex_mask m.flags m.sets m.size in
    map_back (padded k) (present_words k) m.vertices
    (all_map (Fits (vertex_row Lenient m.flags m.sets m.size)) (λ v. present_words k (padded k v) ≡ v) (λ v f. squeeze_spread k v (vertex-ones n m h v f)) m.vertices h.vertices)

pub mesh-back : (n : ℕ) (m : Mesh) (c : Counts) (i r : ℕ) (vs ss ts : List (List ℕ)) → FitMesh n m
    → mesh_from (mesh_row m c) (vertex_rows m ++ vs) (set_rows i r m.triangle_sets ++ ss) (triangle_rows m.triangle_sets ++ ts) ≡ m
unfolding mesh_from mesh_row
mesh-back n m c i r vs ss ts h =
    let k = vertex_mask m.flags m.sets m.size in
    let ev = take_at (vertex_rows m) vs (length m.vertices) (vertices-length m) in
    let es = take_at (set_rows i r m.triangle_sets) ss (length m.triangle_sets) (sets-length i r m.triangle_sets) in
    let bv : map (present_words k) (take (length m.vertices) (vertex_rows m ++ vs)) ≡ m.vertices = rw ev (vertices-back m n h) in
    let bs : sets_from (take (length m.triangle_sets) (set_rows i r m.triangle_sets ++ ss)) (triangle_rows m.triangle_sets ++ ts) ≡ m.triangle_sets =
    rw es (sets-back i r m.triangle_sets ts) in
    λ j. record { brush = m.brush; flags = m.flags; sets = m.sets; size = m.size; vertices = bv j; triangle_sets = bs j }

-- ---- key lists

pub lists_length : (i k : ℕ) (xs : List Keys) → length (list_rows i k xs) ≡ length xs
unfolding list_rows
lists_length i k [] = refl
lists_length i k (x ∷ xs) = ap suc (lists_length i (k + length x.items) xs)

pub lists-wide : (i k : ℕ) (xs : List Keys) → All (Wide 4) (list_rows i k xs)
unfolding list_rows
lists-wide i k [] = tt
lists-wide i k (x ∷ xs) = (refl, lists-wide i (k + length x.items) xs)

pub keys-wide : (xs : List Keys) → All (Wide 11) (key_rows xs)
unfolding key_rows key_mask
keys-wide [] = tt
keys-wide (x ∷ xs) =
    let k = mask (key_has x.flags) 11 0 in
    all_append (Wide 11) (map (padded k) x.items) (key_rows xs)
    (all_of_map (Wide 11) (padded k) x.items (all_pure _ (λ v. spread_length k v ∙ mask-length (key_has x.flags) 11 0) x.items)) (keys-wide xs)

-- the first of these rows is not one of node i
abbrev pub Others : ℕ → List (List ℕ) → Type 0
Others i [] = Unit {0}
Others i (x ∷ xs) = get_or x 0 0 ≢ i

mine_others : (i : ℕ) (rs : List (List ℕ)) → Others i rs → owned_by i rs ≡ []
unfolding owned_by
mine_others i [] h = refl
mine_others i (x ∷ xs) h = if_no (eqb (get_or x 0 0) i) (x ∷ owned_by i xs) [] (no_eqb h)

pub mine_back : (i k : ℕ) (xs : List Keys) (rs : List (List ℕ)) → Others i rs → owned_by i (list_rows i k xs ++ rs) ≡ list_rows i k xs
unfolding list_rows owned_by
mine_back i k [] rs h = mine_others i rs h
mine_back i k (x ∷ xs) rs h =
    let r = i ∷ x.flags ∷ k ∷ length x.items ∷ [] in
    let m = k + length x.items in
    if_yes (eqb i i) (r ∷ owned_by i (list_rows i m xs ++ rs)) [] (eqb_refl i) ∙ ap (λ (z : List (List ℕ)). r ∷ z) (mine_back i m xs rs h)

pub keys-back : (i k : ℕ) (xs : List Keys) (ks : List (List ℕ)) → All FitKeys xs → keys_from (list_rows i k xs) (key_rows xs ++ ks) ≡ xs
unfolding keys_from list_rows key_rows
keys-back i k [] ks h = refl
keys-back i k (x ∷ xs) ks h =
    let m = key_mask x.flags in
    let own = map (padded m) x.items in
    let c = length x.items in
    let et = take_at own (key_rows xs ++ ks) c (length-map x.items (padded m)) in
    let ed = drop_at own (key_rows xs ++ ks) c (length-map x.items (padded m)) in
    let bi : map (present_words m) own ≡ x.items =
    map_back (padded m) (present_words m) x.items (all_map (Fits (key_row x.flags)) (λ v. present_words m (padded m v) ≡ v) (λ v f. squeeze_spread m v (key-ones x h.0 v f)) x.items h.0.1) in
    rw (append_assoc own (key_rows xs) ks, et, ed, bi, keys-back i (k + c) xs ks h.1)

-- ---- a node's own cells

pub anim-back : (a : Anim) → anim_from (anim_cells a) ≡ a
unfolding anim_from anim_cells if
anim-back no_anim = refl
anim-back (anim vs) = refl

pub anim-wide : (a : Anim) → FitAnim a → Wide 4 (anim_cells a)
unfolding anim_cells
anim-wide no_anim h = refl
anim-wide (anim vs) h = ap suc (any-words 3 vs h)

pub kind-wide : (k : Kind) (n : Counts) → Wide 3 (kind_cells k n)
unfolding kind_cells
kind-wide pivot n = refl
kind-wide (mesh m) n = refl
kind-wide (bone ws) n = refl

pub node_wide : (brushes bones : ℕ) (d : Data) (p below : ℕ) (n : Counts) → FitData brushes bones d → Wide node_width (node_row d p below n)
unfolding node_row name_cells
node_wide brushes bones d p below n h =
    let a = anim_cells d.anim ++ (below ∷ []) in
    let c = kind_cells d.kind n ++ a in
    omega (arith, any-words 10 d.words h.words, length-append d.words c, length-append (kind_cells d.kind n) a, length-append (anim_cells d.anim) (below ∷ []), kind-wide d.kind n, anim-wide d.anim h.anim)

-- a cell behind n others
pub cell_past : (a r : List ℕ) (n i : ℕ) → length a ≡ n → get_or (a ++ r) (n + i) 0 ≡ get_or r i 0
cell_past a r n i e = rw (← e) (get_or-append-add a r i 0)

-- the last word of a node's row
pub below_cell : (brushes bones : ℕ) (d : Data) (p below : ℕ) (n : Counts) → FitData brushes bones d → get_or (node_row d p below n) 20 0 ≡ below
unfolding node_row name_cells
below_cell brushes bones d p below n h =
    let k = kind_cells d.kind n in
    let a = anim_cells d.anim in
    cell_past d.words (k ++ (a ++ (below ∷ []))) 10 7 (any-words 10 d.words h.words)
    ∙ cell_past k (a ++ (below ∷ [])) 3 4 (kind-wide d.kind n) ∙ cell_past a (below ∷ []) 4 0 (anim-wide d.anim h.anim)
