-- What the parser read of a body is what the body plainly holds: chunks of numbers, and a MESH.
use mathlib.Core.Path.{◌≡◌, refl, ap, ap₂, sym, subst, ◌∙◌}
use Prim.Native.Nat.{ℕ, ◌+◌, ◌*◌, ◌/◌, ◌<◌, ◌≤◌}
use native.Mathlib.Nat.{mul-div_cancel}
use native.Mathlib.Omega.{arith}
use mathlib.Core.List.{List, [], ◌∷◌}
use lib.ListN.{length, get_or, length-replicate}
use lib.Dec.{leb, leb→le}
use Rattle.wire.specs.Test.{if}
use Rattle.layout.specs.Chunks.{done, chunk}
use Rattle.layout.specs.Result.{accept}
use Rattle.layout.specs.Parts.{Step, words, words_of, items_of, judged, row, number, items}
use Rattle.layout.specs.Rules.{Rule, any, up_to, holds, refusal}
use Rattle.layout.proofs.ResultLaws.{by_got, by-check, bad_got, got_inj}
use Rattle.layout.proofs.StepLaws.{judged_got, length-words-of}
use Rattle.layout.proofs.ListLaws.{three-cells}
use Rattle.b3d_spec.specs.declared.Mode.TheVariants.{Lenient}
use Rattle.b3d_spec.specs.declared.Tag.TheVariants.{MESH, VRTS, TRIS}
use Rattle.b3d_spec.specs.Mask.{ones, vertex_mask, key_mask}
use Rattle.b3d_spec.specs.Nesting.{inside}
use Rattle.b3d_spec.specs.Parse.{read_one, Vertices, no_vertices, read_vertices, read_triangles, read_sets, read_mesh, read_bone, read_keys, filled, read_anim}
use Rattle.b3d_spec.specs.Rules.{vertex_words, key_words, mesh_head, vertices_head, vertex_row, triangles_head, triangle_row, weight_row, keys_head, key_row, anim_row}
use Rattle.b3d_spec.specs.Scene.{TriangleSet, Mesh, Keys}
use Rattle.b3d_spec.specs.Tags.{Chunks, split}
use Rattle.b3d_spec.proofs.Rows.MaskLaws.{vertex-words, key-words}
use Rattle.b3d_spec_chunk_places.proofs.MeshChunkLaws.{ByShape, shape_read}
use Rattle.b3d_spec_plain_rows.proofs.ItemLaws.{row_read, ItemsRead, items-read}
use Rattle.b3d_spec_plain_rows.specs.Plain.{whole, plain_keys, plain_weights, plain_anim, plain_vertices, plain_triangles, shape_of, sets_of, mesh_of, plain_mesh}

-- items of n words that fill their bytes
pub whole-read : (n : ℕ) (s : List ℕ) (l : List (List ℕ)) → 0 < n → ItemsRead n s l → whole n s ≡ l
unfolding whole
whole-read n s l pos r =
    let q : length s / (4 * n) ≡ length l = ap (λ (k : ℕ). k / (4 * n)) r.size ∙ mul-div_cancel (length l) (omega arith) in
    ap (λ (k : ℕ). items_of k n s) q ∙ sym r.is

-- ---- numbers in their ranges

pub first_low : {A : Type 0} (m p : ℕ) (rs : List Rule) (ws : List ℕ) (a b : A) → judged (up_to m ∷ rs) p ws a ≡ accept b → get_or ws 0 0 ≤ m
unfolding judged
first_low m p rs [] a b e = omega arith
first_low m p rs (w ∷ ws) a b e = by-check (leb w m) 6 p _ e (λ t _. leb→le w m t)

second-low : {A : Type 0} (r : Rule) (m p : ℕ) (rs : List Rule) (ws : List ℕ) (a b : A) → judged (r ∷ up_to m ∷ rs) p ws a ≡ accept b → get_or ws 1 0 ≤ m
unfolding judged
second-low r m p rs [] a b e = omega arith
second-low r m p rs (w ∷ ws) a b e = by-check (holds r w) (refusal r) p _ e (λ _ e₁. first_low m (p + 4) rs ws a b e₁)

third_low : {A : Type 0} (q r : Rule) (m p : ℕ) (rs : List Rule) (ws : List ℕ) (a b : A) → judged (q ∷ r ∷ up_to m ∷ rs) p ws a ≡ accept b → get_or ws 2 0 ≤ m
unfolding judged
third_low q r m p rs [] a b e = omega arith
third_low q r m p rs (w ∷ ws) a b e = by-check (holds q w) (refusal q) p _ e (λ _ e₁. second-low r m (p + 4) rs ws a b e₁)

-- of a row that was read
pub judged-row : (rs : List Rule) (p : ℕ) (s : List ℕ) (h : Step (List ℕ)) → row rs p s ≡ accept h → judged rs p h.value h ≡ accept h
unfolding row
judged-row rs p s h e =
    by_got (words p (length rs) p s) _ e (λ y ey e₁. let q = judged_got rs p y.value y h e₁ in subst (λ (z : Step (List ℕ)). judged rs p z.value z ≡ accept h) q e₁)

-- ---- KEYS

keys_made : (f p : ℕ) (s : List ℕ) (l : List (List ℕ)) → f ≤ 7 → items (row (key_row f)) p s ≡ accept l → whole (ones (key_mask f)) s ≡ l
unfolding key_words
keys_made f p s l h e =
    let w = key-words f h in
    whole-read (ones (key_mask f)) s l (omega arith) (rw (w, ← length-replicate (key_words f) any) (items-read (key_row f) p s l e))

abbrev keys_by : List ℕ → List ℕ → Keys
keys_by ws s = record { flags = get_or ws 0 0; items = whole (ones (key_mask (get_or ws 0 0))) s }

pub keys-plain : (p : ℕ) (b : List ℕ) (k : Keys) → read_keys p b ≡ accept k → plain_keys b ≡ k
unfolding read_keys plain_keys
keys-plain p b k e =
    by_got (row keys_head (p + 8) b) _ e (λ h eh e₁.
    by_got (items (row (key_row (number h 0))) h.place h.left) _ e₁ (λ l el e₂.
    let r = row_read keys_head (p + 8) b h eh in
    let f : number h 0 ≤ 7 = first_low 7 (p + 8) [] h.value h h (judged-row keys_head (p + 8) b h eh) in
    ap₂ keys_by (sym r.value) (sym r.left)
    ∙ ap (λ (x : List (List ℕ)). record { flags = number h 0; items = x }) (keys_made (number h 0) h.place h.left l f el)
    ∙ got_inj e₂))

-- ---- BONE and ANIM

pub bone-plain : (vertices p : ℕ) (b : List ℕ) (ws : List (List ℕ)) → read_bone vertices p b ≡ accept ws → plain_weights b ≡ ws
unfolding read_bone plain_weights
bone-plain vertices p b ws e = whole-read 2 b ws (omega arith) (items-read (weight_row vertices) (p + 8) b ws e)

three : (b : List ℕ) → 12 ≤ length b → plain_anim b ≡ words_of 3 b
unfolding plain_anim
three b h = three-cells (words_of 3 b) (length-words-of 3 b (omega arith))

pub anim-plain : (p : ℕ) (b ws : List ℕ) → read_anim p b ≡ accept ws → plain_anim b ≡ ws
unfolding read_anim filled
anim-plain p b ws e =
    by_got (row anim_row (p + 8) b) _ e (λ x ex e₁.
    let r = row_read anim_row (p + 8) b x ex in
    three b r.room ∙ sym r.value ∙ go x.value x.left e₁)
  where
    go : (vs l : List ℕ) → filled (p + 8) l vs ≡ accept ws → vs ≡ ws
    go vs [] h = got_inj h
    go vs (c ∷ l) h = bad_got h

-- ---- VRTS

shape_made : (f n z p : ℕ) (s : List ℕ) (l : List (List ℕ)) → f ≤ 3 → n ≤ 8 → z ≤ 4 → items (row (vertex_row Lenient f n z)) p s ≡ accept l → whole (ones (vertex_mask f n z)) s ≡ l
unfolding vertex_words
shape_made f n z p s l hf hn hz e =
    let w = vertex-words f n z hf hn hz in
    whole-read (ones (vertex_mask f n z)) s l (omega arith) (rw (w, ← length-replicate (vertex_words f n z) any) (items-read (vertex_row Lenient f n z) p s l e))

abbrev shape_by : List ℕ → List ℕ → Vertices
shape_by ws s = record { flags = get_or ws 0 0; sets = get_or ws 1 0; size = get_or ws 2 0; items = whole (ones (vertex_mask (get_or ws 0 0) (get_or ws 1 0) (get_or ws 2 0))) s }

pub vertices-plain : (p : ℕ) (b : List ℕ) (v : Vertices) → read_vertices Lenient p b ≡ accept v → plain_vertices b ≡ v
unfolding read_vertices plain_vertices
vertices-plain p b v e =
    by_got (row vertices_head (p + 8) b) _ e (λ h eh e₁.
    by_got (items (row (vertex_row Lenient (number h 0) (number h 1) (number h 2))) h.place h.left) _ e₁ (λ l el e₂.
    let r = row_read vertices_head (p + 8) b h eh in
    let j = judged-row vertices_head (p + 8) b h eh in
    let f : number h 0 ≤ 3 = first_low 3 (p + 8) _ h.value h h j in
    let n : number h 1 ≤ 8 = second-low _ 8 (p + 8) _ h.value h h j in
    let z : number h 2 ≤ 4 = third_low _ _ 4 (p + 8) _ h.value h h j in
    ap₂ shape_by (sym r.value) (sym r.left)
    ∙ ap (λ (x : List (List ℕ)). record { flags = number h 0; sets = number h 1; size = number h 2; items = x }) (shape_made (number h 0) (number h 1) (number h 2) h.place h.left l f n z el)
    ∙ got_inj e₂))

-- ---- TRIS

abbrev set_by : List ℕ → List ℕ → TriangleSet
set_by ws s = record { brush = get_or ws 0 0; triangles = whole 3 s }

pub triangles-plain : (brushes vertices p : ℕ) (b : List ℕ) (x : TriangleSet) → read_triangles brushes vertices p b ≡ accept x → plain_triangles b ≡ x
unfolding read_triangles plain_triangles
triangles-plain brushes vertices p b x e =
    by_got (row (triangles_head brushes) (p + 8) b) _ e (λ h eh e₁.
    by_got (items (row (triangle_row vertices)) h.place h.left) _ e₁ (λ l el e₂.
    let r = row_read (triangles_head brushes) (p + 8) b h eh in
    ap₂ set_by (sym r.value) (sym r.left)
    ∙ ap (λ (y : List (List ℕ)). record { brush = number h 0; triangles = y }) (whole-read 3 h.left l (omega arith) (items-read (triangle_row vertices) h.place h.left l el))
    ∙ got_inj e₂))

-- ---- MESH

abbrev Sets : Chunks → List TriangleSet → Type 0
Sets cs l = sets_of cs ≡ l

none-plain : Sets done []
unfolding sets_of
none-plain = refl

set_before : (brushes vertices p : ℕ) (b : List ℕ) (r : Chunks) (x : TriangleSet) (l : List TriangleSet) → read_triangles brushes vertices p b ≡ accept x → Sets r l → Sets (chunk TRIS p b r) (x ∷ l)
unfolding sets_of if
set_before brushes vertices p b r x l e more = ap₂ ◌∷◌ (triangles-plain brushes vertices p b x e) more

abbrev mesh_by : ℕ → Vertices → List TriangleSet → Mesh
mesh_by brush v l = record { brush = brush; flags = v.flags; sets = v.sets; size = v.size; vertices = v.items; triangle_sets = l }

module _ (brush : ℕ) where
  abbrev MeshShape : Chunks → Vertices → List TriangleSet → Type 0
  MeshShape cs v l = mesh_of brush cs ≡ mesh_by brush v l

  shape_before : (p : ℕ) (b : List ℕ) (r : Chunks) (v : Vertices) (l : List TriangleSet) → read_vertices Lenient p b ≡ accept v → Sets r l → MeshShape (chunk VRTS p b r) v l
  unfolding mesh_of shape_of sets_of if
  shape_before p b r v l e more = ap₂ (mesh_by brush) (vertices-plain p b v e) more

  plain : (brushes : ℕ) → ByShape Lenient brushes Sets MeshShape
  plain brushes = record { none = none-plain; sets = set_before brushes; shape = shape_before }

pub mesh_plain : (brushes p : ℕ) (b : List ℕ) (m : Mesh) → read_mesh Lenient brushes p b ≡ accept m → plain_mesh p b ≡ m
unfolding read_mesh inside plain_mesh
mesh_plain brushes p b m e =
    by_got (row (mesh_head brushes) (p + 8) b) _ e (λ h eh e₁.
    by_got (read_one VRTS no_vertices (read_vertices Lenient) (inside MESH p h.place h.left)) _ e₁ (λ v ev e₂.
    by_got (read_sets brushes (length v.value.items) v.rest) _ e₂ (λ l el e₃.
    let r = row_read (mesh_head brushes) (p + 8) b h eh in
    let q : h.place ≡ p + 12 = omega (arith, r.place) in
    ap₂ (λ (ws y : List ℕ). mesh_of (get_or ws 0 0) (split (p + 12) y)) (sym r.value) (sym r.left)
    ∙ ap (λ (k : ℕ). mesh_of (number h 0) (split k h.left)) (sym q)
    ∙ shape_read Lenient brushes Sets (MeshShape (number h 0)) (plain (number h 0) brushes) p (split h.place h.left) v ev l el ∙ got_inj e₃)))
