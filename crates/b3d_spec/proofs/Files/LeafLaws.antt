-- Back and fine for the chunks that hold items only, and for a MESH.
use mathlib.Core.Path.{◌≡◌, refl, ap, sym, ◌∙◌, subst}
use Prim.Native.Nat.{ℕ, ◌+◌, ◌-◌, ◌<◌, ◌≤◌}
use native.Mathlib.Omega.{arith}
use mathlib.Core.Bool.{true}
use mathlib.Core.Option.{Option, none, some}
use mathlib.Core.List.{List, [], ◌∷◌, ◌++◌, map}
use lib.ListN.{length, take, drop, get_or, length-replicate, take-append-drop, length-drop}
use lib.Seq.{take_at, drop_at}
use lib.Dec.{ltb, ltb→lt, nltb→le}
use Rattle.wire.specs.Bytes.{bytes, AllBytes}
use Rattle.wire.specs.Test.{if}
use Rattle.layout.specs.Chunks.{done, stop, chunk}
use Rattle.layout.specs.Result.{accept, reject}
use Rattle.layout.specs.Parts.{Step, row, named, items, words_of}
use Rattle.layout.specs.Rules.{Rule, any}
use Rattle.layout.specs.Write.{write_words, write_items, write_chunks as write_chunks_of}
use Rattle.layout.proofs.ChunkLaws.{length-chunk, lay, Of, split-fine}
use Rattle.layout.proofs.WellFormedLaws.{Fits}
use Rattle.layout.proofs.AllLaws.{All}
use Rattle.layout.proofs.ResultLaws.{by_got, bad_got, got_inj, by_test}
use Rattle.layout.proofs.PartLaws.{Back, Fine, Item, length-words, length-fits, row_back, row_fine, row-item, length-text, named_back, named-fine, items_back, items-fine}
use Rattle.layout.proofs.ListLaws.{map-id}
use Rattle.layout.proofs.StepLaws.{row_any, any-short}
use Rattle.b3d_spec.specs.declared.Mode.TheVariants.{Lenient}
use Rattle.b3d_spec.specs.Encode.{write_texture, write_brush, write_vertices, write_triangles, set_chunks, write_mesh, write_keys}
use Rattle.b3d_spec.specs.Names.{rename_texture, rename_brush, bare_name}
use Rattle.b3d_spec.specs.Nesting.{nesting, Reached, start, next, onward, order, inside}
use Rattle.b3d_spec.specs.Parse.{read_texture, read_textures, read_brush, read_brushes, read_one, Vertices, no_vertices, read_vertices, read_triangles, read_sets, read_mesh, read_bone, read_keys, filled, read_anim}
use Rattle.b3d_spec.specs.Rules.{slots, vertex_flags, sets, set_size, key_flags, brush_id, texture_row, brush_row, brush_ids, vertex_words, key_words, vertex_row, triangle_row, weight_row, key_row, anim_row, brushes_head, mesh_head, vertices_head, triangles_head, keys_head}
use Rattle.b3d_spec.specs.Scene.{Texture, Brush, TriangleSet, Mesh, Keys}
use Rattle.b3d_spec.specs.declared.Tag.{Tag}
use Rattle.b3d_spec.specs.declared.Tag.TheVariants.{MESH, VRTS, TRIS}
use Rattle.b3d_spec.specs.Tags.{tag_of, Chunks, split, Found, Chunk, write_chunk, write_chunks, code}
use Rattle.b3d_spec.proofs.WellFormedLaws.{FitTexture, FitBrush, FitTriangles, FitMesh, FitKeys}
use Rattle.b3d_spec.proofs.Files.NestingLaws.{mesh-keeps, inside_back, order-of}
use Rattle.b3d_spec.proofs.Files.TagCodeLaws.{by-tag}

-- ---- rows of one rule list

pub rows_back : (rs : List Rule) → 0 < length rs → (l : List (List ℕ)) → All (Fits rs) l → (p : ℕ) → items (row rs) p (write_items write_words l) ≡ accept l
rows_back rs n l h p =
    let x = items_back (row-item rs n) l h p in
    x.1 ∙ ap (λ (m : List (List ℕ)). accept m) (sym (map-id x.0) ∙ x.2 ∙ map-id l)

pub rows-fine : (rs : List Rule) → 0 < length rs → (p : ℕ) (s : List ℕ) (l : List (List ℕ)) → AllBytes s → items (row rs) p s ≡ accept l
    → All (Fits rs) l × (length (write_items write_words l) ≤ length s)
rows-fine rs n p s l h e = items-fine (row-item rs n) p s l h e

pub vertex-some : (f s z : ℕ) → 0 < length (vertex_row Lenient f s z)
unfolding vertex_words
vertex-some f s z = omega (arith, length-replicate (vertex_words f s z) any)

pub key-some : (f : ℕ) → 0 < length (key_row f)
unfolding key_words
key-some f = omega (arith, length-replicate (key_words f) any)

-- a head of one number, and of three
pub head-one : (r : Rule) (ws : List ℕ) → Fits (r ∷ []) ws → ws ≡ get_or ws 0 0 ∷ []
head-one r [] h = absurd h
head-one r (w ∷ []) h = refl
head-one r (w ∷ x ∷ ws) h = absurd h.2

pub head_three : (q r s : Rule) (ws : List ℕ) → Fits (q ∷ r ∷ s ∷ []) ws → ws ≡ get_or ws 0 0 ∷ get_or ws 1 0 ∷ get_or ws 2 0 ∷ []
head_three q r s [] h = absurd h
head_three q r s (w ∷ []) h = absurd h.2
head_three q r s (w ∷ x ∷ []) h = absurd h.2.2
head_three q r s (w ∷ x ∷ y ∷ []) h = refl
head_three q r s (w ∷ x ∷ y ∷ z ∷ ws) h = absurd h.2.2.2

-- ---- textures

texture_item : Item read_texture write_texture FitTexture (rename_texture bare_name)
unfolding read_texture
texture_item = record {
  some = λ t h r. omega (arith, length-text t.name.bytes (write_words t.words r), length-words t.words r);
  back = λ t h p r. let x = named_back texture_row t.name.bytes t.words h.0 h.1 p r in
      record { value = record { name = record { place = p; bytes = t.name.bytes }; words = t.words }; place = x.0; is = rw x.1; same = refl };
  fine = λ p s x h e. by_got (named texture_row p s) _ e (λ y ey e₁. let f = named-fine texture_row p s y h ey in
      subst (Fine FitTexture write_texture s) (got_inj e₁) (record { ok = f.ok; bytes = f.bytes; short = f.short }));
}

pub textures-back : (l : List Texture) → All FitTexture l → (p : ℕ)
    → (m : List Texture) × (read_textures p (write_items write_texture l) ≡ accept m) × (map (rename_texture bare_name) m ≡ map (rename_texture bare_name) l)
unfolding read_textures
textures-back l h p = items_back texture_item l h (p + 8)

pub textures-fine : (p : ℕ) (s : List ℕ) (l : List Texture) → AllBytes s → read_textures p s ≡ accept l → All FitTexture l × (length (write_items write_texture l) ≤ length s)
unfolding read_textures
textures-fine p s l h e = items-fine texture_item (p + 8) s l h e

-- ---- brushes

words_append : (ws vs r : List ℕ) → write_words (ws ++ vs) r ≡ write_words ws (write_words vs r)
words_append [] vs r = refl
words_append (w ∷ ws) vs r = ap (bytes w) (words_append ws vs r)

fits-append : (rs qs : List Rule) (ws vs : List ℕ) → Fits rs ws → Fits qs vs → Fits (rs ++ qs) (ws ++ vs)
fits-append [] qs [] vs h k = k
fits-append [] qs (w ∷ ws) vs h k = absurd h
fits-append (r ∷ rs) qs [] vs h k = absurd h
fits-append (r ∷ rs) qs (w ∷ ws) vs h k = (h.0, h.1, fits-append rs qs ws vs h.2 k)

fits-split : (rs qs : List Rule) (ws : List ℕ) → Fits (rs ++ qs) ws → Fits rs (take (length rs) ws) × Fits qs (drop (length rs) ws)
fits-split [] qs ws h = (tt, h)
fits-split (r ∷ rs) qs [] h = absurd h
fits-split (r ∷ rs) qs (w ∷ ws) h = let x = fits-split rs qs ws h.2 in ((h.0, h.1, x.0), x.1)

module _ (n textures : ℕ) where
  brush-back : (b : Brush) → FitBrush n textures b → (p : ℕ) (r : List ℕ) → Back (rename_brush bare_name) (read_brush Lenient n textures p (write_brush b r)) b r
  unfolding read_brush
  brush-back b h p r =
      let x = named_back (brush_row Lenient ++ brush_ids n textures) b.name.bytes (b.words ++ b.ids) h.0 (fits-append (brush_row Lenient) (brush_ids n textures) b.words b.ids h.1 h.2) p r in
      let k = length-fits (brush_row Lenient) b.words h.1 in
      record {
        value = record { name = record { place = p; bytes = b.name.bytes }; words = b.words; ids = b.ids };
        place = x.0;
        is = rw (← words_append b.words b.ids r, x.1, take_at b.words b.ids 7 k, drop_at b.words b.ids 7 k);
        same = refl;
      }

  brush-fine : (p : ℕ) (s : List ℕ) (x : Step Brush) → AllBytes s → read_brush Lenient n textures p s ≡ accept x → Fine (FitBrush n textures) write_brush s x
  unfolding read_brush
  brush-fine p s x h e =
      by_got (named (brush_row Lenient ++ brush_ids n textures) p s) _ e (λ y ey e₁. let f = named-fine (brush_row Lenient ++ brush_ids n textures) p s y h ey in
      let ws = y.value.1 in
      let k = fits-split (brush_row Lenient) (brush_ids n textures) ws f.ok.1 in
      let again : (r : List ℕ) → write_words (take 7 ws) (write_words (drop 7 ws) r) ≡ write_words ws r =
      (λ r. sym (words_append (take 7 ws) (drop 7 ws) r) ∙ ap (λ (v : List ℕ). write_words v r) (take-append-drop 7 ws)) in
      subst (Fine (FitBrush n textures) write_brush s) (got_inj e₁)
      (record { ok = (f.ok.0, k.0, k.1); bytes = f.bytes; short = λ r. rw (again r) (f.short r) }))

  brush-item : Item (read_brush Lenient n textures) write_brush (FitBrush n textures) (rename_brush bare_name)
  brush-item = record {
    some = λ b h r. omega (arith, length-text b.name.bytes (write_words b.words (write_words b.ids r)), length-words b.words (write_words b.ids r), length-words b.ids r);
    back = brush-back;
    fine = brush-fine;
  }

pub brushes-back : (n textures : ℕ) (l : List Brush) → Fits brushes_head (n ∷ []) → All (FitBrush n textures) l → (p : ℕ)
    → (m : List Brush) × (read_brushes Lenient textures p (write_words (n ∷ []) (write_items write_brush l)) ≡ accept (n, m)) × (map (rename_brush bare_name) m ≡ map (rename_brush bare_name) l)
unfolding read_brushes
brushes-back n textures l hn h p =
    let x = row_back brushes_head (n ∷ []) hn (p + 8) (write_items write_brush l) in
    let y = items_back (brush-item n textures) l h x.0 in
    (y.0, rw (x.1, y.1), y.2)

abbrev pub BrushesOK : ℕ → ℕ → ℕ × List Brush → Type 0
BrushesOK textures n x =
    Fits brushes_head (x.0 ∷ []) × All (FitBrush x.0 textures) x.1 × (length (write_words (x.0 ∷ []) (write_items write_brush x.1)) ≤ n)

pub brushes-fine : (textures p : ℕ) (s : List ℕ) (x : ℕ × List Brush) → AllBytes s → read_brushes Lenient textures p s ≡ accept x → BrushesOK textures (length s) x
unfolding read_brushes
brushes-fine textures p s x h e =
    by_got (row brushes_head (p + 8) s) _ e (λ y ey e₁. let f = row_fine brushes_head (p + 8) s y h ey in
    let n = get_or y.value 0 0 in
    let one = head-one slots y.value f.ok in
    by_got (items (read_brush Lenient n textures) y.place y.left) _ e₁ (λ l el e₂. let g = items-fine (brush-item n textures) y.place y.left l f.bytes el in
    let k = f.short (write_items write_brush l) in
    let k₁ = length-words y.value (write_items write_brush l) in
    let k₂ = ap (λ (v : List ℕ). length v) one in
    subst (BrushesOK textures (length s)) (got_inj e₂)
    (subst (Fits brushes_head) one f.ok, g.0, omega arith)))

-- ---- keys, weights, animation

pub keys-back : (k : Keys) → FitKeys k → (p : ℕ) → read_keys p (write_keys k) ≡ accept k
unfolding read_keys write_keys
keys-back k h p =
    let x = row_back keys_head (k.flags ∷ []) h.0 (p + 8) (write_items write_words k.items) in
    rw (x.1, rows_back (key_row k.flags) (key-some k.flags) k.items h.1 x.0)

abbrev KeysOK : ℕ → Keys → Type 0
KeysOK n k = FitKeys k × (length (write_keys k) ≤ n)

pub keys-fine : (p : ℕ) (s : List ℕ) (k : Keys) → AllBytes s → read_keys p s ≡ accept k → KeysOK (length s) k
unfolding read_keys write_keys
keys-fine p s k h e =
    by_got (row keys_head (p + 8) s) _ e (λ y ey e₁. let f = row_fine keys_head (p + 8) s y h ey in
    let n = get_or y.value 0 0 in
    let one = head-one key_flags y.value f.ok in
    by_got (items (row (key_row n)) y.place y.left) _ e₁ (λ l el e₂. let g = rows-fine (key_row n) (key-some n) y.place y.left l f.bytes el in
    let k₀ = f.short (write_items write_words l) in
    let k₁ = length-words y.value (write_items write_words l) in
    let k₂ = ap (λ (v : List ℕ). length v) one in
    subst (KeysOK (length s)) (got_inj e₂)
    ((subst (Fits keys_head) one f.ok, g.0), omega arith)))

pub bone-back : (n : ℕ) (l : List (List ℕ)) → All (Fits (weight_row n)) l → (p : ℕ) → read_bone n p (write_items write_words l) ≡ accept l
unfolding read_bone
bone-back n l h p = rows_back (weight_row n) (omega arith) l h (p + 8)

pub bone-fine : (n p : ℕ) (s : List ℕ) (l : List (List ℕ)) → AllBytes s → read_bone n p s ≡ accept l → All (Fits (weight_row n)) l × (length (write_items write_words l) ≤ length s)
unfolding read_bone
bone-fine n p s l h e = rows-fine (weight_row n) (omega arith) (p + 8) s l h e

pub anim-back : (ws : List ℕ) → Fits anim_row ws → (p : ℕ) → read_anim p (write_words ws []) ≡ accept ws
unfolding read_anim filled
anim-back ws h p = let x = row_back anim_row ws h (p + 8) [] in rw x.1

filled_got : (p : ℕ) (s ws vs : List ℕ) → filled p s ws ≡ accept vs → ws ≡ vs
unfolding filled
filled_got p [] ws vs e = got_inj e
filled_got p (c ∷ s) ws vs e = bad_got e

pub anim-fine : (p : ℕ) (s ws : List ℕ) → AllBytes s → read_anim p s ≡ accept ws → Fits anim_row ws × (length (write_words ws []) ≤ length s)
unfolding read_anim
anim-fine p s ws h e =
    by_got (row anim_row (p + 8) s) _ e (λ y ey e₁. let f = row_fine anim_row (p + 8) s y h ey in
    subst (λ (v : List ℕ). Fits anim_row v × (length (write_words v []) ≤ length s)) (filled_got (p + 8) y.left y.value ws e₁)
    (f.ok, omega (arith, f.short [])))

-- ---- a mesh

vertices-back : (brushes : ℕ) (m : Mesh) → FitMesh brushes m → (p : ℕ)
    → read_vertices Lenient p (write_vertices m) ≡ accept (record { flags = m.flags; sets = m.sets; size = m.size; items = m.vertices })
unfolding read_vertices write_vertices
vertices-back brushes m h p =
    let x = row_back vertices_head (m.flags ∷ m.sets ∷ m.size ∷ []) h.head (p + 8) (write_items write_words m.vertices) in
    rw (x.1, rows_back (vertex_row Lenient m.flags m.sets m.size) (vertex-some m.flags m.sets m.size) m.vertices h.vertices x.0)

record VerticesOK (n : ℕ) (v : Vertices) : Type 0 where
  head : Fits vertices_head (v.flags ∷ v.sets ∷ v.size ∷ [])
  all : All (Fits (vertex_row Lenient v.flags v.sets v.size)) v.items
  short : length (write_words (v.flags ∷ v.sets ∷ v.size ∷ []) (write_items write_words v.items)) ≤ n

vertices-fine : (p : ℕ) (s : List ℕ) (v : Vertices) → AllBytes s → read_vertices Lenient p s ≡ accept v → VerticesOK (length s) v
unfolding read_vertices
vertices-fine p s v h e =
    by_got (row vertices_head (p + 8) s) _ e (λ y ey e₁. let f = row_fine vertices_head (p + 8) s y h ey in
    let a = get_or y.value 0 0 in
    let b = get_or y.value 1 0 in
    let c = get_or y.value 2 0 in
    let three = head_three vertex_flags sets set_size y.value f.ok in
    by_got (items (row (vertex_row Lenient a b c)) y.place y.left) _ e₁ (λ l el e₂. let g = rows-fine (vertex_row Lenient a b c) (vertex-some a b c) y.place y.left l f.bytes el in
    let k₀ = f.short (write_items write_words l) in
    let k₁ = length-words y.value (write_items write_words l) in
    let k₂ = ap (λ (v : List ℕ). length v) three in
    subst (VerticesOK (length s)) (got_inj e₂)
    (record { head = subst (Fits vertices_head) three f.ok; all = g.0; short = omega arith })))

-- how far a mesh has come after its VRTS
abbrev vrts_read : Reached
vrts_read = record { turn = 1; spent = true }

-- the VRTS that a mesh begins with, among chunks of at most so many bytes
record VrtsFound (head size : ℕ) (x : Found Vertices) : Type 0 where
  body : List ℕ
  before : Chunks
  fine : VerticesOK (length body) x.value
  fits : 8 + length body ≤ size
  of : Of (size - (8 + length body)) before
  rest_is : order MESH head vrts_read before ≡ x.rest

vrts_found : (head size : ℕ) (cs : Chunks) (x : Found Vertices) → Of size cs → read_one VRTS no_vertices (read_vertices Lenient) (order MESH head start cs) ≡ accept x → VrtsFound head size x
unfolding read_one order onward next if
vrts_found head size done x h e = bad_got e
vrts_found head size (stop i p) x h e = bad_got e
vrts_found head size (chunk t p b r) x h e =
    let P : Tag → Type 0 = λ k. read_one VRTS no_vertices (read_vertices Lenient) (order MESH head start (chunk k p b r)) ≡ accept x → VrtsFound head size x in
    let vrts : P VRTS = λ e. by_got (read_vertices Lenient p b) _ e (λ v ev e₁.
    subst (VrtsFound head size) (got_inj e₁)
    (record { body = b; before = r; fine = vertices-fine p b v h.0 ev; fits = h.1; of = h.2; rest_is = refl })) in
    by-tag P (bad_got, bad_got, bad_got, bad_got, bad_got, vrts, bad_got, bad_got, bad_got, bad_got) t e

module _ (brushes n : ℕ) where
  triangles-back : (x : TriangleSet) → FitTriangles brushes n x → (p : ℕ) → read_triangles brushes n p (write_triangles x) ≡ accept x
  unfolding read_triangles write_triangles
  triangles-back x h p =
      let y = row_back (triangles_head brushes) (x.brush ∷ []) h.0 (p + 8) (write_items write_words x.triangles) in
      rw (y.1, rows_back (triangle_row n) (omega arith) x.triangles h.1 y.0)

  abbrev TrianglesOK : ℕ → TriangleSet → Type 0
  TrianglesOK size x = FitTriangles brushes n x × (length (write_triangles x) ≤ size)

  triangles-fine : (p : ℕ) (s : List ℕ) (x : TriangleSet) → AllBytes s → read_triangles brushes n p s ≡ accept x → TrianglesOK (length s) x
  unfolding read_triangles write_triangles
  triangles-fine p s x h e =
      by_got (row (mesh_head brushes) (p + 8) s) _ e (λ y ey e₁. let f = row_fine (mesh_head brushes) (p + 8) s y h ey in
      let one = head-one (brush_id brushes) y.value f.ok in
      by_got (items (row (triangle_row n)) y.place y.left) _ e₁ (λ l el e₂. let g = rows-fine (triangle_row n) (omega arith) y.place y.left l f.bytes el in
      let k₀ = f.short (write_items write_words l) in
      let k₁ = length-words y.value (write_items write_words l) in
      let k₂ = ap (λ (v : List ℕ). length v) one in
      subst (TrianglesOK (length s)) (got_inj e₂)
      ((subst (Fits (mesh_head brushes)) one f.ok, g.0), omega arith)))

  sets-back : (l : List TriangleSet) → All (FitTriangles brushes n) l → (p : ℕ) → read_sets brushes n (lay p (set_chunks l)) ≡ accept l
  unfolding read_sets
  sets-back [] h p = refl
  sets-back (x ∷ l) h p = rw (triangles-back x h.0 p, sets-back l h.1 (p + 8 + length (write_triangles x)))

  abbrev SetsOK : ℕ → List TriangleSet → Type 0
  SetsOK size l = All (FitTriangles brushes n) l × (length (write_chunks (set_chunks l)) ≤ size)

  sets-fine : (size : ℕ) (cs : Chunks) (l : List TriangleSet) → Of size cs → read_sets brushes n cs ≡ accept l → SetsOK size l
  unfolding read_sets write_chunks_of
  sets-fine size done l h e = subst (SetsOK size) (got_inj e) (tt, omega arith)
  sets-fine size (stop i p) l h e = bad_got e
  sets-fine size (chunk t p b r) l h e =
      by_got (read_triangles brushes n p b) _ e (λ x ex e₁. let f = triangles-fine p b x h.0 ex in
      by_got (read_sets brushes n r) _ e₁ (λ k ek e₂. let g = sets-fine (size - (8 + length b)) r k h.2 ek in
      subst (SetsOK size) (got_inj e₂)
      ((f.0, g.0), omega (arith, h.1, f.1, g.1, length-chunk code TRIS (write_triangles x) (write_chunks (set_chunks k))))))

  onward-some : (o : Option Reached) (t : Tag) (p : ℕ) (b : List ℕ) (go : Reached → Chunks) (l : List TriangleSet)
      → read_sets brushes n (onward o p (λ q. chunk t p b (go q))) ≡ accept l → 0 < length l
  unfolding read_sets onward
  onward-some none t p b go l e = bad_got e
  onward-some (some q) t p b go l e =
      by_got (read_triangles brushes n p b) _ e (λ x ex e₁.
      by_got (read_sets brushes n (go q)) _ e₁ (λ k ek e₂. subst (λ (m : List TriangleSet). 0 < length m) (got_inj e₂) (omega arith)))

  -- after a VRTS a mesh has one TRIS at least
  sets-some : (head : ℕ) (cs : Chunks) (l : List TriangleSet) → read_sets brushes n (order MESH head vrts_read cs) ≡ accept l → 0 < length l
  unfolding read_sets order if
  sets-some head done l e = bad_got e
  sets-some head (stop i p) l e = bad_got e
  sets-some head (chunk t p b r) l e = onward-some (next (nesting MESH) (nesting MESH) vrts_read t) t p b (λ q. order MESH head q r) l e

abbrev part_chunks : Mesh → List Chunk
part_chunks m = record { tag = VRTS; body = write_vertices m } ∷ set_chunks m.triangle_sets

module _ (brushes : ℕ) where
  pub mesh-back : (m : Mesh) → FitMesh brushes m → length (write_mesh m) < 4294967296 → (p : ℕ) → read_mesh Lenient brushes p (write_mesh m) ≡ accept m
  unfolding read_mesh write_mesh read_one if
  mesh-back m h n p =
      let x = row_back (mesh_head brushes) (m.brush ∷ []) h.brush (p + 8) (write_chunks (part_chunks m)) in
      rw (
        x.1,
        inside_back MESH p x.0 (part_chunks m) (mesh-keeps (write_vertices m) m.triangle_sets h.some_set) (omega arith),
        vertices-back brushes m h x.0,
        sets-back brushes (length m.vertices) m.triangle_sets h.triangles (x.0 + 8 + length (write_vertices m)),
      )

  abbrev MeshOK : ℕ → Mesh → Type 0
  MeshOK n m = FitMesh brushes m × (length (write_mesh m) ≤ n)

  pub mesh-fine : (p : ℕ) (s : List ℕ) (m : Mesh) → AllBytes s → read_mesh Lenient brushes p s ≡ accept m → MeshOK (length s) m
  unfolding read_mesh write_mesh write_chunks_of write_vertices inside
  mesh-fine p s m h e =
      by_got (row (mesh_head brushes) (p + 8) s) _ e (λ y ey e₁. let f = row_fine (mesh_head brushes) (p + 8) s y h ey in
      let one = head-one (brush_id brushes) y.value f.ok in
      let cs = split y.place y.left in
      by_got (read_one VRTS no_vertices (read_vertices Lenient) (order MESH p start cs)) _ e₁ (λ v ev e₂.
      let g = vrts_found p (length y.left) cs v (split-fine tag_of y.place y.left f.bytes) ev in
      let size = length y.left - (8 + length g.body) in
      let k = length v.value.items in
      by_got (read_sets brushes k v.rest) _ e₂ (λ l el e₃.
      let o : Of size v.rest = subst (Of size) g.rest_is (order-of MESH p vrts_read size g.before g.of) in
      let i = sets-fine brushes k size v.rest l o el in
      let j = sets-some brushes k p g.before l (subst (λ (z : Chunks). read_sets brushes k z ≡ accept l) (sym g.rest_is) el) in
      let w = write_words (v.value.flags ∷ v.value.sets ∷ v.value.size ∷ []) (write_items write_words v.value.items) in
      let cw = write_chunk VRTS w (write_chunks (set_chunks l)) in
      let k₀ = f.short cw in
      let k₁ = length-words y.value cw in
      let k₂ = ap (λ (u : List ℕ). length u) one in
      let k₃ = length-chunk code VRTS w (write_chunks (set_chunks l)) in
      subst (MeshOK (length s)) (got_inj e₃) (
        record {
          brush = subst (Fits (mesh_head brushes)) one f.ok;
          head = g.fine.head;
          vertices = g.fine.all;
          triangles = i.0;
          some_set = j;
        },
        omega (arith, g.fine.short, g.fits, i.1),
      ))))

-- ---- an ANIM

pub anim-whole : (p : ℕ) (b : List ℕ) → length b ≡ 12 → read_anim p b ≡ accept (words_of 3 b)
unfolding read_anim filled
anim-whole p b h = rw (row_any 3 (p + 8) b (omega arith)) (nothing (drop 12 b) (length-drop 12 b ∙ omega arith))
  where
    nothing : (r : List ℕ) → length r ≡ 0 → filled (p + 8) r (words_of 3 b) ≡ accept (words_of 3 b)
    nothing [] e = refl
    nothing (c ∷ r) e = absurd (omega arith)

pub anim-other : (p : ℕ) (b : List ℕ) → (length b ≡ 12 → ⊥) → read_anim p b ≡ reject 5 (p + 8)
unfolding read_anim filled
anim-other p b h =
    by_test (ltb (length b) 12)
    (λ t. let l = ltb→lt (length b) 12 t in rw (any-short 3 (p + 8) b (omega arith)))
    (λ t. let l = nltb→le (length b) 12 t in rw (row_any 3 (p + 8) b (omega arith)) (more (drop 12 b) (length-drop 12 b) l))
  where
    more : (r : List ℕ) → length r ≡ length b - 12 → 12 ≤ length b → filled (p + 8) r (words_of 3 b) ≡ reject 5 (p + 8)
    more [] e l = absurd (h (omega arith))
    more (c ∷ r) e l = refl
