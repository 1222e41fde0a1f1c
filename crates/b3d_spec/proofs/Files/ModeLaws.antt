-- The strict reading beside the lenient one: the same, or 6 at a number of the file that does not pass as a colour, and then what the lenient
-- one gives, if anything, has a colour that does not pass.
use mathlib.Core.Logic.{inl}
use mathlib.Core.Path.{◌≡◌, refl, ap, ap₂, sym, ◌∙◌, subst}
use Prim.Native.Nat.{ℕ, zero, suc, ◌+◌, ◌*◌, ◌/◌, ◌%◌, ◌<◌}
use native.Mathlib.Omega.{arith}
use mathlib.Core.Bool.{Bool, true, false, ◌&&◌}
use mathlib.Core.Option.{Option, none}
use mathlib.Core.List.{List, [], ◌∷◌, ◌++◌, map, append-nil}
use lib.ListN.{length, take, drop, replicate}
use lib.Dec.{eqb}
use Rattle.wire.specs.Test.{if}
use Rattle.layout.specs.Chunks.{done, stop, chunk, ended}
use Rattle.layout.specs.WellFormed.{all}
use Rattle.layout.specs.Result.{Result, accept, check, ◌>>=◌}
use Rattle.layout.specs.Parts.{Name, Step, row, number, named, items}
use Rattle.layout.specs.Rules.{Rule, any, unit, holds}
use Rattle.layout.proofs.HeldLaws.{Held, same-held, held-as, first-held, bind_held, then-held, map-held, loose, passes as passes_rules, passes-any, passes-unit, Says, row-held, named-held, items-held}
use Rattle.layout.proofs.ResultLaws.{by_got, got_inj}
use Rattle.layout.proofs.PlaceLaws.{At, Stands, row-at, named-at}
use Rattle.layout.proofs.TestLaws.{and_assoc, and_true}
use Rattle.layout.specs.Rows.{size_fits, name_cells}
use Rattle.b3d_spec.specs.Colours.{coloured, passes}
use Rattle.b3d_spec.specs.declared.Mode.TheVariants.{Strict, Lenient}
use Rattle.b3d_spec.specs.declared.Tag.{Tag}
use Rattle.b3d_spec.specs.declared.Tag.TheVariants.{BB3D, TEXS, BRUS, NODE, MESH, VRTS, BONE}
use Rattle.b3d_spec.specs.declared.Counts.{Counts}
use Rattle.b3d_spec.specs.Mask.{mask, padded, vertex_has, vertex_mask}
use Rattle.b3d_spec.specs.Nesting.{inside}
use Rattle.b3d_spec.specs.Parse.{read_one, read_textures, read_brush, read_brushes, Vertices, no_vertices, read_vertices, read_sets, read_mesh, read_bone, a_mesh, a_bone, read_kind, read_animation, Inner, read_nodes, read_below, read_node, read_root, read_body, parse}
use Rattle.b3d_spec.specs.Rules.{texture_id, when, vertex_words, brush_row, brush_ids, vertex_row, node_row, header, file_head, brushes_head, mesh_head, vertices_head, bone_limit, bone_limit_below, levels}
use Rattle.b3d_spec.specs.Scene.{Brush, Mesh, Kind, pivot, mesh, bone, no_anim, Data, Forest, no_nodes, node, Scene}
use Rattle.b3d_spec.specs.Tables as tables
use Rattle.b3d_spec.specs.Tables.{meshes_of, vertex_rows, mesh_rows, own_rows, with_node, with_forest, forest_rows, rows, nodes_in}
use Rattle.b3d_spec.specs.Tags.{code, is, Chunks, Found}
use Rattle.b3d_spec.proofs.Files.PlaceLaws.{inside_at, kind_at, moves_at, one_at, brush_at}

-- ---- tests

all_append : {A : Type 0} (P : A → Bool) (xs ys : List A) → all P (xs ++ ys) ≡ (all P xs && all P ys)
all_append P [] ys = refl
all_append P (x ∷ xs) ys = ap (λ (b : Bool). P x && b) (all_append P xs ys) ∙ sym (and_assoc (P x) (all P xs) (all P ys))

all_map : {A B : Type 0} (P : B → Bool) (f : A → B) (xs : List A) → all P (map f xs) ≡ all (λ x. P (f x)) xs
all_map P f [] = refl
all_map P f (x ∷ xs) = ap (λ (b : Bool). P (f x) && b) (all_map P f xs)

-- ---- rules: the lenient ones are the strict ones without the look at a float

loose_run : (r : Rule) → loose r ≡ any → (n k : ℕ) (rs : List Rule) → map loose rs ≡ replicate k any → map loose (replicate n r ++ rs) ≡ replicate (n + k) any
loose_run r e zero k rs h = let q : k ≡ zero + k = omega arith in h ∙ ap (λ (i : ℕ). replicate i any) q
loose_run r e (suc n) k rs h = let q : suc (n + k) ≡ suc n + k = omega arith in ap₂ ◌∷◌ e (loose_run r e n k rs h) ∙ ap (λ (i : ℕ). replicate i any) q

loose_any : (n : ℕ) → map loose (replicate n any) ≡ replicate n any
loose_any zero = refl
loose_any (suc n) = ap (λ (l : List Rule). any ∷ l) (loose_any n)

pub loose_vertex : (f s z : ℕ) → map loose (vertex_row Strict f s z) ≡ vertex_row Lenient f s z
unfolding vertex_words
loose_vertex f s z =
    let e : 3 + when 1 f 3 + (when 2 f 4 + s * z) ≡ 3 + when 1 f 3 + when 2 f 4 + s * z = omega arith in
    loose_run any refl (3 + when 1 f 3) (when 2 f 4 + s * z) _ (loose_run unit refl (when 2 f 4) (s * z) _ (loose_any (s * z))) ∙ ap (λ (n : ℕ). replicate n any) e

loose_ids : (n k : ℕ) → map loose (brush_ids n k) ≡ brush_ids n k
loose_ids zero k = refl
loose_ids (suc n) k = ap (λ (l : List Rule). texture_id k ∷ l) (loose_ids n k)

pub loose_brush : (n k : ℕ) → map loose (brush_row Strict ++ brush_ids n k) ≡ brush_row Lenient ++ brush_ids n k
loose_brush n k = ap (λ (l : List Rule). brush_row Lenient ++ l) (loose_ids n k)

-- ---- what they leave out, in cells

ids-pass : (n k : ℕ) (ws : List ℕ) → passes_rules (brush_ids n k) ws ≡ true
ids-pass zero k ws = refl
ids-pass (suc n) k [] = refl
ids-pass (suc n) k (w ∷ ws) = ids-pass n k ws

any-pass : (n : ℕ) (ws : List ℕ) → passes_rules (replicate n any) ws ≡ true
any-pass zero ws = refl
any-pass (suc n) [] = refl
any-pass (suc n) (w ∷ ws) = any-pass n ws

-- a brush of these words
abbrev brush_of : Name → List ℕ → Brush
brush_of n ws = record { name = n; words = take 7 ws; ids = drop 7 ws }

abbrev brush_passes : Brush → Bool
brush_passes b = coloured 2 (tables.brush_row b)

abbrev no_name : Name
no_name = record { place = 0; bytes = [] }

brush-says : (n k : ℕ) → Says (brush_row Strict ++ brush_ids n k) (λ ws. brush_passes (brush_of no_name ws))
unfolding coloured tables.brush_row name_cells
brush-says n k [] e = absurd (omega arith)
brush-says n k (a ∷ []) e = absurd (omega arith)
brush-says n k (a ∷ b ∷ []) e = absurd (omega arith)
brush-says n k (a ∷ b ∷ c ∷ []) e = absurd (omega arith)
brush-says n k (a ∷ b ∷ c ∷ d ∷ ws) e =
    sym (passes-unit 4 (replicate 3 any ++ brush_ids n k) (a ∷ b ∷ c ∷ d ∷ ws)
    ∙ ap (λ (x : Bool). all (holds unit) (a ∷ b ∷ c ∷ d ∷ []) && x) (passes-any 3 (brush_ids n k) ws ∙ ids-pass n k (drop 3 ws))
    ∙ and_true (all (holds unit) (a ∷ b ∷ c ∷ d ∷ [])))

-- a row's next words by a mask
spread_on : (m : List Bool) (ws : List ℕ) → drop 3 (padded (true ∷ true ∷ true ∷ m) ws) ≡ padded m (drop 3 ws)
unfolding padded
spread_on m [] = refl
spread_on m (a ∷ []) = refl
spread_on m (a ∷ b ∷ []) = refl
spread_on m (a ∷ b ∷ c ∷ ws) = refl

spread_four : (m : List Bool) (ws : List ℕ) → all (holds unit) (take 4 (padded (true ∷ true ∷ true ∷ true ∷ m) ws)) ≡ all (holds unit) (take 4 ws)
unfolding padded
spread_four m [] = refl
spread_four m (a ∷ []) = refl
spread_four m (a ∷ b ∷ []) = refl
spread_four m (a ∷ b ∷ c ∷ []) = refl
spread_four m (a ∷ b ∷ c ∷ d ∷ ws) = refl

-- colours by bit y, after three words and three by bit x
abbrev bits : ℕ → ℕ → List Bool → List Bool
bits x y m =
    true ∷ true ∷ true ∷ eqb x 1 ∷ eqb x 1 ∷ eqb x 1 ∷ eqb y 1 ∷ eqb y 1 ∷ eqb y 1 ∷ eqb y 1 ∷ m

four-says : (y : ℕ) → y < 2 → (m : List Bool) (ws : List ℕ)
    → all (holds unit) (take 4 (padded (eqb y 1 ∷ eqb y 1 ∷ eqb y 1 ∷ eqb y 1 ∷ m) ws)) ≡ all (holds unit) (take (y * 4) ws)
unfolding padded
four-says zero l m ws = refl
four-says (suc zero) l m ws = spread_four m ws
four-says (suc (suc y)) l m ws = absurd (omega arith)

six : (v : List ℕ) → drop 6 v ≡ drop 3 (drop 3 v)
six [] = refl
six (a ∷ []) = refl
six (a ∷ b ∷ []) = refl
six (a ∷ b ∷ c ∷ v) = refl

bits_say : (x y : ℕ) → x < 2 → y < 2 → (m : List Bool) (ws : List ℕ)
    → all (holds unit) (take 4 (drop 6 (padded (bits x y m) ws))) ≡ all (holds unit) (take (y * 4) (drop (3 + x * 3) ws))
unfolding padded
bits_say zero y k l m ws =
    let c = eqb y 1 in
    ap (λ (r : List ℕ). all (holds unit) (take 4 r)) (six (padded (bits 0 y m) ws) ∙ ap (drop 3) (spread_on (false ∷ false ∷ false ∷ c ∷ c ∷ c ∷ c ∷ m) ws)) ∙ four-says y l m (drop 3 ws)
bits_say (suc zero) y k l m ws =
    let c = eqb y 1 in
    ap (λ (r : List ℕ). all (holds unit) (take 4 r))
    (six (padded (bits 1 y m) ws) ∙ ap (drop 3) (spread_on (true ∷ true ∷ true ∷ c ∷ c ∷ c ∷ c ∷ m) ws) ∙ spread_on (c ∷ c ∷ c ∷ c ∷ m) (drop 3 ws))
    ∙ four-says y l m (drop 3 (drop 3 ws))
    ∙ ap (λ (r : List ℕ). all (holds unit) (take (y * 4) r)) (sym (six ws))
bits_say (suc (suc x)) y k l m ws = absurd (omega arith)

abbrev vertex_passes : ℕ → ℕ → ℕ → List ℕ → Bool
vertex_passes f s z ws = coloured 6 (padded (vertex_mask f s z) ws)

mask_bits : (f s z : ℕ) → vertex_mask f s z ≡ bits (f % 2) (f / 2 % 2) (mask (vertex_has f s z) 32 10)
unfolding vertex_mask mask vertex_has if
mask_bits f s z = refl

pub vertex-says : (f s z : ℕ) → Says (vertex_row Strict f s z) (vertex_passes f s z)
unfolding coloured
vertex-says f s z ws _ =
    let a : f % 2 < 2 = omega arith in
    let b : f / 2 % 2 < 2 = omega arith in
    let e : f % 2 ≡ f / 1 % 2 = omega arith in
    let before = drop (3 + when 1 f 3) ws in
    ap (λ (m : List Bool). all (holds unit) (take 4 (drop 6 (padded m ws)))) (mask_bits f s z)
    ∙ bits_say (f % 2) (f / 2 % 2) a b (mask (vertex_has f s z) 32 10) ws
    ∙ ap (λ (x : ℕ). all (holds unit) (take (when 2 f 4) (drop (3 + x * 3) ws))) e
    ∙ sym (passes-any (3 + when 1 f 3) _ ws
    ∙ passes-unit (when 2 f 4) (replicate (s * z) any) before
    ∙ ap (λ (x : Bool). all (holds unit) (take (when 2 f 4) before) && x) (any-pass (s * z) (drop (when 2 f 4) before))
    ∙ and_true (all (holds unit) (take (when 2 f 4) before)))

-- ---- what passes, of the parts of a scene

abbrev vertices_pass : Vertices → Bool
vertices_pass v = all (vertex_passes v.flags v.sets v.size) v.items

abbrev mesh_passes : Mesh → Bool
mesh_passes m = all (vertex_passes m.flags m.sets m.size) m.vertices

abbrev kind_passes : Kind → Bool
kind_passes pivot = true
kind_passes (mesh m) = mesh_passes m
kind_passes (bone ws) = true

abbrev forest_passes : Forest → Bool
forest_passes no_nodes = true
forest_passes (node d f g) = kind_passes d.kind && (forest_passes f && forest_passes g)

abbrev inner_passes : Inner → Bool
inner_passes x = kind_passes x.self.kind && forest_passes x.below

with_next : (x : Inner) (l : Forest) → forest_passes (node x.self x.below l) ≡ (inner_passes x && forest_passes l)
with_next x l = sym (and_assoc (kind_passes x.self.kind) (forest_passes x.below) (forest_passes l))

abbrev scene_passes : Scene → Bool
scene_passes t = all brush_passes t.brushes && forest_passes t.nodes

ended_got : {A : Type 0} (cs : Chunks) (a b : A) → ended cs a ≡ accept b → a ≡ b
unfolding ended
ended_got done a b e = got_inj e
ended_got (stop n p) a b e = absurd (let z : ◌≡◌ {A = ℕ} 0 1 = cc in omega arith)
ended_got (chunk t p c r) a b e = ended_got r a b e

-- ---- the same in cells

forest-rows : (f : Forest) (p : ℕ) (n : Counts) → all (coloured 6) (forest_rows 5 f p n) ≡ forest_passes f
unfolding forest_rows own_rows mesh_rows meshes_of vertex_rows if
forest-rows no_nodes p n = refl
forest-rows (node d f g) p n =
    all_append (coloured 6) (own_rows 5 d p (nodes_in f) n) _
    ∙ ap₂ ◌&&◌ (own d.kind)
    (all_append (coloured 6) (forest_rows 5 f n.nodes (with_node d n)) _ ∙ ap₂ ◌&&◌ (forest-rows f n.nodes (with_node d n)) (forest-rows g p (with_forest f (with_node d n))))
  where
    own : (k : Kind) → all (coloured 6) (mesh_rows 5 (meshes_of k) n) ≡ kind_passes k
    own pivot = refl
    own (mesh m) = all_map (coloured 6) (padded (vertex_mask m.flags m.sets m.size)) m.vertices
    own (bone ws) = refl

pub scene-rows : (t : Scene) → passes Strict (λ k. rows k t) ≡ scene_passes t
unfolding passes rows if
scene-rows t = ap₂ ◌&&◌ (all_map (coloured 2) tables.brush_row t.brushes) (forest-rows t.nodes _ _)

-- ---- the two readings of a file

module _ (file : List ℕ) where
  -- ---- chunks

  if-held : {A : Type 0} (P : A → Bool) (b : Bool) (x x' y y' : Result A) → Held file P x x' → Held file P y y' → Held file P (if b x y) (if b x' y')
  unfolding if
  if-held P true x x' y y' h k = h
  if-held P false x x' y y' h k = k

  -- a reader of a chunk's body
  abbrev HeldBody : {A : Type 0} → (A → Bool) → (ℕ → List ℕ → Result A) → (ℕ → List ℕ → Result A) → Type 0
  HeldBody P one other = (p : ℕ) (b : List ℕ) → At file (p + 8) b → Held file P (one p b) (other p b)

  one-held : {A : Type 0} (P : A → Bool) (k : Tag) (a : A) → P a ≡ true → (one other : ℕ → List ℕ → Result A) → HeldBody P one other → (cs : Chunks) → Stands file cs
      → Held file (λ (x : Found A). P x.value) (read_one k a one cs) (read_one k a other cs)
  unfolding read_one
  one-held P k a t one other h done st = (refl, t)
  one-held P k a t one other h (stop n p) st = inl (refl, refl)
  one-held P k a t one other h (chunk c p b r) st =
      if-held _ (is c k) _ _ _ _ (map-held file P _ (λ x. record { value = x; rest = r }) (one p b) (other p b) (h p b st.0) (λ x. refl)) (refl, t)

  -- ---- bodies

  brush-held : (n k p : ℕ) (s : List ℕ) → At file p s → Held file (λ x. brush_passes x.value) (read_brush Strict n k p s) (read_brush Lenient n k p s)
  unfolding read_brush coloured tables.brush_row name_cells
  brush-held n k p s at =
      let P : Step (Name × List ℕ) → Bool = λ x. brush_passes (brush_of no_name x.value.1) in
      map-held file P _ _ (named (brush_row Strict ++ brush_ids n k) p s) (named (brush_row Lenient ++ brush_ids n k) p s)
      (subst (λ (rs : List Rule). Held file P (named (brush_row Strict ++ brush_ids n k) p s) (named rs p s)) (loose_brush n k) (named-held file (brush_row Strict ++ brush_ids n k) _ (brush-says n k) p s at)) (λ x. refl)

  brushes-held : (k : ℕ) → HeldBody (λ x. all brush_passes x.1) (read_brushes Strict k) (read_brushes Lenient k)
  unfolding read_brushes
  brushes-held k p b at =
      first-held file _ (row brushes_head (p + 8) b) _ _ (λ h e.
      map-held file (all brush_passes) _ (λ l. (number h 0, l)) (items (read_brush Strict (number h 0) k) h.place h.left) (items (read_brush Lenient (number h 0) k) h.place h.left)
      (items-held file brush_passes (read_brush Strict (number h 0) k) (read_brush Lenient (number h 0) k) (brush-held (number h 0) k) (λ q c x i f. (brush_at file (number h 0) k q c x i f).0) h.place h.left (row-at file brushes_head (p + 8) b h at e)) (λ l. refl))

  vertex-held : (f s z p : ℕ) (b : List ℕ) → At file p b → Held file (λ x. vertex_passes f s z x.value) (row (vertex_row Strict f s z) p b) (row (vertex_row Lenient f s z) p b)
  vertex-held f s z p b at =
      subst (λ (rs : List Rule). Held file (λ x. vertex_passes f s z x.value) (row (vertex_row Strict f s z) p b) (row rs p b)) (loose_vertex f s z) (row-held file (vertex_row Strict f s z) (vertex_passes f s z) (vertex-says f s z) p b at)

  vertices-held : HeldBody vertices_pass (read_vertices Strict) (read_vertices Lenient)
  unfolding read_vertices
  vertices-held p b at =
      first-held file _ (row vertices_head (p + 8) b) _ _ (λ h e.
      let f = number h 0 in
      let s = number h 1 in
      let z = number h 2 in
      map-held file (all (vertex_passes f s z)) vertices_pass (λ l. record { flags = f; sets = s; size = z; items = l }) (items (row (vertex_row Strict f s z)) h.place h.left) (items (row (vertex_row Lenient f s z)) h.place h.left)
      (items-held file (vertex_passes f s z) (row (vertex_row Strict f s z)) (row (vertex_row Lenient f s z)) (vertex-held f s z) (row-at file (vertex_row Lenient f s z)) h.place h.left (row-at file vertices_head (p + 8) b h at e)) (λ l. refl))

  mesh-held : (brushes : ℕ) → HeldBody mesh_passes (read_mesh Strict brushes) (read_mesh Lenient brushes)
  unfolding read_mesh
  mesh-held brushes p b at =
      first-held file _ (row (mesh_head brushes) (p + 8) b) _ _ (λ h e.
      let cs = inside MESH p h.place h.left in
      then-held file (λ (x : Found Vertices). vertices_pass x.value) mesh_passes (read_one VRTS no_vertices (read_vertices Strict) cs) (read_one VRTS no_vertices (read_vertices Lenient) cs) _
      (one-held vertices_pass VRTS no_vertices refl (read_vertices Strict) (read_vertices Lenient) vertices-held cs (inside_at file MESH p h.place h.left (row-at file (mesh_head brushes) (p + 8) b h at e)))
      (λ v m em. by_got (read_sets brushes (length v.value.items) v.rest) _ em (λ l el e₁. ap mesh_passes (sym (got_inj e₁)))))

  -- ---- nodes

  kind-held : (brushes n : ℕ) (cs : Chunks) → Stands file cs → Held file (λ (x : Found Kind). kind_passes x.value) (read_kind Strict brushes n cs) (read_kind Lenient brushes n cs)
  unfolding read_kind a_mesh a_bone
  kind-held brushes n done st = (refl, refl)
  kind-held brushes n (stop i p) st = inl (refl, refl)
  kind-held brushes n (chunk t p b r) st =
      if-held _ (is t MESH) _ _ _ _
      (map-held file mesh_passes _ (λ m. record { value = mesh m; rest = r }) (read_mesh Strict brushes p b) (read_mesh Lenient brushes p b) (mesh-held brushes p b st.0) (λ m. refl))
      (if-held _ (is t BONE) _ _ _ _ (same-held file _ (read_bone n p b >>= _) (λ x e. by_got (read_bone n p b) _ e (λ ws ew e₁. ap (λ (y : Found Kind). kind_passes y.value) (sym (got_inj e₁))))) (refl, refl))

  nodes-held : (one other : ℕ → List ℕ → Result Inner) → HeldBody inner_passes one other → (cs : Chunks) → Stands file cs → Held file forest_passes (read_nodes one cs) (read_nodes other cs)
  unfolding read_nodes
  nodes-held one other h done st = (refl, refl)
  nodes-held one other h (stop n p) st = inl (refl, refl)
  nodes-held one other h (chunk t p b r) st =
      bind_held file inner_passes forest_passes (one p b) (other p b) _ _ (h p b st.0)
      (λ x e y. map-held file forest_passes forest_passes (λ l. node x.self x.below l) (read_nodes one r) (read_nodes other r) (nodes-held one other h r st.1) (λ l. with_next x l ∙ ap (λ (c : Bool). c && forest_passes l) y))
      (λ x f n e. by_got (read_nodes other r) _ e (λ l el e₁.
      ap forest_passes (sym (got_inj e₁)) ∙ with_next x l ∙ ap (λ (c : Bool). c && forest_passes l) n))

  node-held : (l brushes : ℕ) (above : Option ℕ) → HeldBody inner_passes (read_node Strict l brushes above) (read_node Lenient l brushes above)
  unfolding read_node read_below
  node-held zero brushes above p b at = inl (refl, refl)
  node-held (suc l) brushes above p b at =
      first-held file _ (named node_row (p + 8) b) _ _ (λ h e.
      let cs = inside NODE p h.place h.left in
      let st : Stands file cs = inside_at file NODE p h.place h.left (named-at file node_row (p + 8) b h at e).0 in
      bind_held file (λ (x : Found Kind). kind_passes x.value) inner_passes (read_kind Strict brushes (bone_limit above) cs) (read_kind Lenient brushes (bone_limit above) cs) _ _ (kind-held brushes (bone_limit above) cs st)
      (λ k ek y. first-held file inner_passes (read_animation no_anim k.rest) _ _ (λ m em.
      let d : Data = record { name = h.value.0; words = h.value.1; kind = k.value; keys = m.value.keys; anim = m.value.anim } in
      let one = read_node Strict l brushes (bone_limit_below above d) in
      let other = read_node Lenient l brushes (bone_limit_below above d) in
      map-held file forest_passes inner_passes (λ f. record { self = d; below = f }) (read_nodes one m.rest) (read_nodes other m.rest)
      (nodes-held one other (node-held l brushes (bone_limit_below above d)) m.rest (moves_at file k.rest no_anim m (kind_at file brushes (bone_limit above) cs k st ek) em)) (λ f. ap (λ (c : Bool). c && forest_passes f) y)))
      (λ k x n ex. by_got (read_animation no_anim k.rest) _ ex (λ m em e₁.
      by_got (read_nodes _ m.rest) _ e₁ (λ f ef e₂. ap inner_passes (sym (got_inj e₂)) ∙ ap (λ (c : Bool). c && forest_passes f) n))))

  root-held : (brushes : ℕ) → HeldBody forest_passes (read_root Strict brushes) (read_root Lenient brushes)
  unfolding read_root
  root-held brushes p b at =
      map-held file inner_passes forest_passes (λ x. node x.self x.below no_nodes) (read_node Strict levels brushes none p b) (read_node Lenient levels brushes none p b) (node-held levels brushes none p b at)
      (λ x. with_next x no_nodes ∙ and_true (inner_passes x))

  -- ---- the file

  body-held : (p : ℕ) (b : List ℕ) → At file p b → Held file scene_passes (read_body Strict p b) (read_body Lenient p b)
  unfolding read_body
  body-held p b at =
      first-held file _ (row file_head p b) _ _ (λ h e.
      let cs = inside BB3D 0 h.place h.left in
      first-held file _ (read_one TEXS [] read_textures cs) _ _ (λ t et.
      let st : Stands file t.rest = (one_at file (λ _. Unit {0}) TEXS [] tt read_textures (λ q c x i f. tt) cs t (inside_at file BB3D 0 h.place h.left (row-at file file_head p b h at e)) et).1 in
      bind_held file (λ (x : Found (ℕ × List Brush)). all brush_passes x.value.1) scene_passes
      (read_one BRUS (0, []) (read_brushes Strict (length t.value)) t.rest) (read_one BRUS (0, []) (read_brushes Lenient (length t.value)) t.rest) _ _
      (one-held (λ x. all brush_passes x.1) BRUS (0, []) refl (read_brushes Strict (length t.value)) (read_brushes Lenient (length t.value)) (brushes-held (length t.value)) t.rest st)
      (λ u eu y. then-held file (λ (x : Found Forest). forest_passes x.value) scene_passes
      (read_one NODE no_nodes (read_root Strict (length u.value.1)) u.rest) (read_one NODE no_nodes (read_root Lenient (length u.value.1)) u.rest) _
      (one-held forest_passes NODE no_nodes refl (read_root Strict (length u.value.1)) (read_root Lenient (length u.value.1)) (root-held (length u.value.1)) u.rest (one_at file (λ _. Unit {0}) BRUS (0, []) tt (read_brushes Lenient (length t.value)) (λ q c x i f. tt) t.rest u st eu).1)
      (λ n s es. ap scene_passes (sym (ended_got n.rest _ s es)) ∙ ap (λ (c : Bool). c && forest_passes n.value) y))
      (λ u s n es. by_got (read_one NODE no_nodes (read_root Lenient (length u.value.1)) u.rest) _ es (λ f ef e₁.
      ap scene_passes (sym (ended_got f.rest _ s e₁)) ∙ ap (λ (c : Bool). c && forest_passes f.value) n))))

-- the one law
pub parse-held : (s : List ℕ) → Held s (λ t. passes Strict (λ k. rows k t)) (parse Strict s) (parse Lenient s)
unfolding parse
parse-held s =
    first-held s _ (check (size_fits (length s)) 1 0) _ _ (λ _ e.
    first-held s _ (row header 0 s) _ _ (λ h eh.
    first-held s _ (check (eqb (number h 0) (code BB3D)) 2 0) _ _ (λ _ e₁.
    first-held s _ (check (eqb (number h 1) (length h.left)) 2 4) _ _ (λ _ e₂.
    held-as s scene_passes _ (read_body Strict h.place h.left) (read_body Lenient h.place h.left) (λ t et. scene-rows t) (body-held s h.place h.left (row-at s header 0 s h (record { after = []; stands = sym (append-nil s) }) eh))))))
