-- A BB3D's body as Parse reads it is its body as it is counted; and the totals of a scene are its row counts.
use mathlib.Core.Path.{◌≡◌, refl, ap, ap₂, sym, ◌∙◌}
use Prim.Native.Nat.{ℕ, suc, ◌+◌}
use native.Mathlib.Omega.{arith}
use native.Mathlib.Nat.{add-zero, add_assoc}
use mathlib.Core.Option.{none}
use mathlib.Core.List.{List, [], ◌∷◌, ◌++◌, map}
use lib.ListN.{length, length-append, length-map}
use Rattle.wire.specs.Test.{if}
use Rattle.layout.specs.Result.{Result, accept, ◌>>=◌}
use Rattle.layout.specs.Parts.{number, row}
use Rattle.layout.specs.Chunks.{done, stop, chunk, ended}
use Rattle.layout.proofs.ResultLaws.{bind_bind, bind_cong}
use Rattle.b3d_spec.specs.declared.Tag.TheVariants.{BB3D, TEXS, BRUS, NODE, MESH, VRTS, TRIS, BONE, KEYS}
use Rattle.b3d_spec.specs.declared.Mode.TheVariants.{Strict}
use Rattle.b3d_spec.specs.declared.Counts.{Counts}
use Rattle.b3d_spec.specs.Tags.{Chunks, Found, split}
use Rattle.b3d_spec.specs.Rules.{file_head, levels}
use Rattle.b3d_spec.specs.Nesting.{inside}
use Rattle.b3d_spec.specs.Mask.{padded, key_mask}
use Rattle.b3d_spec.specs.Scene.{Texture, Brush, TriangleSet, Kind, pivot, mesh, bone, Keys, Anim, no_anim, anim, Data, Forest, no_nodes, node, Scene}
use Rattle.b3d_spec.specs.Tables.{start, meshes_of, weights_of, triangle_rows, key_rows, with_meshes, with_node, with_forest, counts}
use Rattle.b3d_spec.specs.Parse.{read_one, read_textures, read_brushes, read_node, read_root, slots_of, read_body}
use Rattle.b3d_spec.proofs.Rows.CountLaws.{counts_are, same_counts}
use Rattle.b3d_spec.proofs.Files.EntryLaws.{◌▸◌}
use Rattle.b3d_pieces_spec.specs.declared.Totals.{Totals}
use Rattle.b3d_pieces_spec.specs.Bodies.{none_kept, entered, slots_for, closed}
use Rattle.b3d_pieces_spec.specs.Close.{nothing, counts_of}
use Rattle.b3d_pieces_spec.proofs.CountLaws.{chunks_out, in_node, node_out, body_out}
use Rattle.b3d_pieces_spec.proofs.SumLaws.{sets_totals, kind_totals, keys_totals, anim_totals, node_totals, forest_totals, brush_totals, texs_out, brus_out}
use Rattle.b3d_pieces_spec.proofs.MeshSumLaws.{through}
use Rattle.b3d_pieces_spec.proofs.NodeSumLaws.{on_out, Told, node-out}
use Rattle.b3d_pieces_spec.proofs.PhaseLaws.{empty, rooted, brushed, textured, Only, by_phase, in-file}

-- ---- the totals of a scene

-- before the nodes
abbrev pub base : ℕ → ℕ → ℕ → ℕ → Totals
base version slots textures brushes = record { version = version; slots = slots; textures = textures; brushes = brushes; own = 0; told = 0; below = 0; rows = start }

abbrev pub scene_totals : Scene → Totals
scene_totals t = forest_totals t.nodes (base t.version t.slots (length t.textures) (length t.brushes))

-- ---- the chunks

abbrev count : Chunks → Totals → Result Totals
count cs g = chunks_out (in_node (node_out levels)) cs g

texs_first : (cs : Chunks) → Only textured cs → (v : ℕ) (K : Found (List Texture) → Result Totals)
    → ((x : Found (List Texture)) → Only brushed x.rest → count x.rest (base v 0 (length x.value) 0) ≡ K x) → count cs (base v 0 0 0) ≡ (read_one TEXS [] read_textures cs >>= K)
unfolding chunks_out read_one if
texs_first done h v K k = k (record { value = []; rest = done }) tt
texs_first (stop n p) h v K k = refl
texs_first (chunk t p b r) h v K k =
    by_phase textured (λ u. count (chunk u p b r) (base v 0 0 0) ≡ (read_one TEXS [] read_textures (chunk u p b r) >>= K)) r
    ((λ h. ap (λ (o : Result Totals). o >>= λ x. count r x) (texs_out (base v 0 0 0) p b)
    ∙ on_out (read_textures p b) (λ l. base v 0 (length l) 0) (count r) (λ l. accept (record { value = l; rest = r })) K (λ l. k (record { value = l; rest = r }) h))
    ▸ (λ h. k (record { value = []; rest = chunk BRUS p b r }) h) ▸ (λ h. k (record { value = []; rest = chunk NODE p b r }) h) ▸ tt) t h

brus_next : (cs : Chunks) → Only brushed cs → (v n : ℕ) (K : Found (ℕ × List Brush) → Result Totals)
    → ((x : Found (ℕ × List Brush)) → Only rooted x.rest → count x.rest (base v (slots_for (length x.value.1) x.value.0) n (length x.value.1)) ≡ K x)
    → count cs (base v 0 n 0) ≡ (read_one BRUS (0, []) (read_brushes Strict n) cs >>= K)
unfolding chunks_out read_one if
brus_next done h v n K k = k (record { value = (0, []); rest = done }) tt
brus_next (stop m p) h v n K k = refl
brus_next (chunk t p b r) h v n K k =
    by_phase brushed (λ u. count (chunk u p b r) (base v 0 n 0) ≡ (read_one BRUS (0, []) (read_brushes Strict n) (chunk u p b r) >>= K)) r
    ((λ h. ap (λ (o : Result Totals). o >>= λ x. count r x) (brus_out (base v 0 n 0) p b)
    ∙ on_out (read_brushes Strict n p b) (λ x. brush_totals x (base v 0 n 0)) (count r) (λ x. accept (record { value = x; rest = r })) K (λ x. k (record { value = x; rest = r }) h))
    ▸ (λ h. k (record { value = (0, []); rest = chunk NODE p b r }) h) ▸ tt) t h

nothing-out : (cs : Chunks) → Only empty cs → (g : Totals) → count cs g ≡ ended cs g
unfolding chunks_out ended
nothing-out done h g = refl
nothing-out (stop n p) h g = refl
nothing-out (chunk t p b r) h g = absurd h

root-out : (g : Totals) → Told g.brushes none g → (p : ℕ) (b : List ℕ) → node_out levels g p b ≡ (read_root Strict g.brushes p b >>= λ f. accept (forest_totals f g))
unfolding read_root
root-out g t p b = node-out levels g.brushes none g t p b ∙ sym (bind_bind (read_node Strict levels g.brushes none p b) _ _)

root-next : (cs : Chunks) → Only rooted cs → (g : Totals) → Told g.brushes none g → count cs g ≡ (read_one NODE no_nodes (read_root Strict g.brushes) cs >>= λ n. ended n.rest (forest_totals n.value g))
unfolding chunks_out read_one if ended
root-next done h g t = refl
root-next (stop n p) h g t = refl
root-next (chunk k p b r) h g t =
    by_phase rooted (λ u. count (chunk u p b r) g ≡ (read_one NODE no_nodes (read_root Strict g.brushes) (chunk u p b r) >>= λ n. ended n.rest (forest_totals n.value g))) r
    ((λ h. ap (λ (o : Result Totals). o >>= λ x. count r x) (root-out g t p b)
    ∙ on_out (read_root Strict g.brushes p b) (λ f. forest_totals f g) (count r) (λ f. accept (record { value = f; rest = r })) (λ n. ended n.rest (forest_totals n.value g)) (λ f. nothing-out r h (forest_totals f g))) ▸ tt) k h

ended-on : {A B : Type 0} (cs : Chunks) (a : A) (f : A → B) → ended cs (f a) ≡ (ended cs a >>= λ x. accept (f x))
unfolding ended
ended-on done a f = refl
ended-on (stop n p) a f = refl
ended-on (chunk t p b r) a f = ended-on r a f

slots_are : (n : ℕ) (l : List Brush) → slots_for (length l) n ≡ slots_of n l
unfolding slots_of
slots_are n [] = refl
slots_are n (b ∷ l) = refl

file_textured : (p : ℕ) (s : List ℕ) → Only textured (inside BB3D 0 p s)
unfolding inside
file_textured p s = in-file (split p s) 0

more-sets : (a b : ℕ) → a + 1 + b ≡ a + suc b
more-sets a b = omega arith

-- the scene of what was read
abbrev scene : ℕ → List Texture → ℕ × List Brush → Forest → Scene
scene v ts u f = record { version = v; textures = ts; slots = slots_of u.0 u.1; brushes = u.1; nodes = f }

last_out : (v : ℕ) (ts : List Texture) (u : ℕ × List Brush) (cs : Chunks) → Only rooted cs
    → count cs (base v (slots_for (length u.1) u.0) (length ts) (length u.1))
    ≡ ((read_one NODE no_nodes (read_root Strict (length u.1)) cs >>= λ n. ended n.rest (scene v ts u n.value)) >>= λ t. accept (scene_totals t))
unfolding start
last_out v ts u cs h =
    let g = base v (slots_of u.0 u.1) (length ts) (length u.1) in
    rw (slots_are u.0 u.1)
    (root-next cs h g (refl, refl, refl)
    ∙ bind_cong (read_one NODE no_nodes (read_root Strict (length u.1)) cs) (λ n _. ended-on n.rest (scene v ts u n.value) scene_totals)
    ∙ sym (bind_bind (read_one NODE no_nodes (read_root Strict (length u.1)) cs) _ _))

pub body-out : (b : List ℕ) → body_out levels nothing 8 b ≡ (read_body Strict 8 b >>= λ t. accept (scene_totals t))
unfolding body_out read_body
body-out b =
    through (row file_head 8 b) _ _ _ (λ h.
    let cs = inside BB3D 0 h.place h.left in
    texs_first cs (file_textured h.place h.left) (number h 0) _ (λ t ht.
    brus_next t.rest ht (number h 0) (length t.value) _ (λ u hu. last_out (number h 0) t.value u.value u.rest hu)
    ∙ sym (bind_bind (read_one BRUS (0, []) (read_brushes Strict (length t.value)) t.rest) _ _))
    ∙ sym (bind_bind (read_one TEXS [] read_textures cs) _ _))

-- ---- the totals are the row counts

abbrev more_sets : ℕ → ℕ → Counts → Counts
more_sets k m n = record { nodes = n.nodes; meshes = n.meshes; vertices = n.vertices; sets = n.sets + k; triangles = n.triangles + m; weights = n.weights; lists = n.lists; keys = n.keys }

abbrev more_keys : ℕ → ℕ → Counts → Counts
more_keys k m n = record { nodes = n.nodes; meshes = n.meshes; vertices = n.vertices; sets = n.sets; triangles = n.triangles; weights = n.weights; lists = n.lists + k; keys = n.keys + m }

sets_rows : (l : List TriangleSet) (g : Totals) → (sets_totals l g).rows ≡ more_sets (length l) (length (triangle_rows l)) g.rows
unfolding triangle_rows
sets_rows [] g = same_counts _ _ refl refl refl (sym (add-zero _)) (sym (add-zero _)) refl refl refl
sets_rows (x ∷ l) g =
    let n = g.rows in
    sets_rows l (closed TRIS (length x.triangles) none_kept 0 g)
    ∙ same_counts _ _ refl refl refl (more-sets n.sets (length l)) (add_assoc n.triangles (length x.triangles) (length (triangle_rows l)) ∙ ap (λ (z : ℕ). n.triangles + z) (sym (length-append x.triangles (triangle_rows l)))) refl refl refl

keys-rows : (l : List Keys) (g : Totals) → (keys_totals l g).rows ≡ more_keys (length l) (length (key_rows l)) g.rows
unfolding key_rows
keys-rows [] g = same_counts _ _ refl refl refl refl refl refl (sym (add-zero _)) (sym (add-zero _))
keys-rows (x ∷ l) g =
    let n = g.rows in
    let e = length-append (map (padded (key_mask x.flags)) x.items) (key_rows l) in
    let m = length-map x.items (padded (key_mask x.flags)) in
    let q : n.keys + length x.items + length (key_rows l) ≡ n.keys + length (map (padded (key_mask x.flags)) x.items ++ key_rows l) = omega (arith, e, m) in
    keys-rows l (closed KEYS (length x.items) none_kept 0 g) ∙ same_counts _ _ refl refl refl refl refl refl (more-sets n.lists (length l)) q

abbrev one_mesh : Counts → Counts
one_mesh n = record { nodes = n.nodes; meshes = n.meshes + 1; vertices = n.vertices; sets = n.sets; triangles = n.triangles; weights = n.weights; lists = n.lists; keys = n.keys }

anim-rows : (a : Anim) (g : Totals) → (anim_totals a g).rows ≡ g.rows
anim-rows no_anim g = refl
anim-rows (anim ws) g = refl

-- a node's rows, by its kind and its keys
parts-rows : (d : Data) (k : Kind) (l : List Keys) (g : Totals)
    → (keys_totals l (kind_totals k (entered g))).rows ≡ with_node (record { name = d.name; words = d.words; kind = k; keys = l; anim = d.anim }) g.rows
unfolding with_node with_meshes meshes_of weights_of
parts-rows d pivot l g = keys-rows l (entered g) ∙ same_counts _ _ refl refl refl refl refl (sym (add-zero _)) refl refl
parts-rows d (mesh m) l g =
    let x = closed VRTS (length m.vertices) none_kept 0 (entered g) in
    keys-rows l (closed MESH 0 none_kept 0 (sets_totals m.triangle_sets x))
    ∙ ap (λ (c : Counts). more_keys (length l) (length (key_rows l)) (one_mesh c)) (sets_rows m.triangle_sets x)
    ∙ same_counts _ _ refl refl refl refl refl (sym (add-zero _)) refl refl
parts-rows d (bone ws) l g = keys-rows l (closed BONE (length ws) none_kept 0 (entered g))

forest-rows : (f : Forest) (g : Totals) → (forest_totals f g).rows ≡ with_forest f g.rows
unfolding with_forest
forest-rows no_nodes g = refl
forest-rows (node d f h) g =
    forest-rows h (closed NODE 0 none_kept g.below (forest_totals f (node_totals d g)))
    ∙ ap (with_forest h) (forest-rows f (node_totals d g) ∙ ap (with_forest f) (anim-rows d.anim _ ∙ parts-rows d d.kind d.keys g))

-- version, n_texs, textures and brushes stay
abbrev Fixed : Totals → Totals → Type 0
Fixed a b = (a.version ≡ b.version) × (a.slots ≡ b.slots) × (a.textures ≡ b.textures) × (a.brushes ≡ b.brushes)

fixed_on : (a b c : Totals) → Fixed a b → Fixed b c → Fixed a c
fixed_on a b c x y = (x.0 ∙ y.0, x.1 ∙ y.1, x.2 ∙ y.2, x.3 ∙ y.3)

sets_fixed : (l : List TriangleSet) (g : Totals) → Fixed (sets_totals l g) g
sets_fixed [] g = (refl, refl, refl, refl)
sets_fixed (x ∷ l) g = sets_fixed l (closed TRIS (length x.triangles) none_kept 0 g)

keys_fixed : (l : List Keys) (g : Totals) → Fixed (keys_totals l g) g
keys_fixed [] g = (refl, refl, refl, refl)
keys_fixed (x ∷ l) g = keys_fixed l (closed KEYS (length x.items) none_kept 0 g)

kind_fixed : (k : Kind) (g : Totals) → Fixed (kind_totals k g) g
kind_fixed pivot g = (refl, refl, refl, refl)
kind_fixed (mesh m) g = sets_fixed m.triangle_sets (closed VRTS (length m.vertices) none_kept 0 g)
kind_fixed (bone ws) g = (refl, refl, refl, refl)

anim_fixed : (a : Anim) (g : Totals) → Fixed (anim_totals a g) g
anim_fixed no_anim g = (refl, refl, refl, refl)
anim_fixed (anim ws) g = (refl, refl, refl, refl)

node_fixed : (d : Data) (g : Totals) → Fixed (node_totals d g) g
node_fixed d g =
    let x = kind_totals d.kind (entered g) in
    let y = keys_totals d.keys x in
    fixed_on (node_totals d g) y g (anim_fixed d.anim y) (fixed_on y x g (keys_fixed d.keys x) (kind_fixed d.kind (entered g)))

forest_fixed : (f : Forest) (g : Totals) → Fixed (forest_totals f g) g
forest_fixed no_nodes g = (refl, refl, refl, refl)
forest_fixed (node d f h) g =
    let a = node_totals d g in
    let b = forest_totals f a in
    let c = closed NODE 0 none_kept g.below b in
    fixed_on (forest_totals h c) c g (forest_fixed h c) (fixed_on b a g (forest_fixed f a) (node_fixed d g))

-- the counts of a scene
pub scene-counts : (t : Scene) → counts_of (scene_totals t) ≡ counts t
scene-counts t =
    let g = base t.version t.slots (length t.textures) (length t.brushes) in
    let f = forest_fixed t.nodes g in
    ap₂ (λ (a b : ℕ). a ∷ b ∷ rest (scene_totals t).rows) f.2 f.3
    ∙ sym (counts_are t (scene_totals t).rows (forest-rows t.nodes g))
  where
    rest : Counts → List ℕ
    rest n = n.nodes ∷ n.meshes ∷ n.vertices ∷ n.sets ∷ n.triangles ∷ n.weights ∷ n.lists ∷ n.keys ∷ []

pub scene-version : (t : Scene) → (scene_totals t).version ≡ t.version
scene-version t = (forest_fixed t.nodes (base t.version t.slots (length t.textures) (length t.brushes))).0

pub scene-slots : (t : Scene) → (scene_totals t).slots ≡ t.slots
scene-slots t = (forest_fixed t.nodes (base t.version t.slots (length t.textures) (length t.brushes))).1
