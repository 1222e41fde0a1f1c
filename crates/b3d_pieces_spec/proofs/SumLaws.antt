-- The totals of what Parse reads, and that its readers of items say what is counted.
use mathlib.Core.Path.{◌≡◌, refl, ap, sym, ◌∙◌}
use Prim.Native.Nat.{ℕ, zero, suc, ◌+◌}
use mathlib.Core.List.{List, [], ◌∷◌}
use lib.ListN.{length, take, drop}
use Rattle.layout.specs.Result.{Result, accept, reject, ◌>>=◌}
use Rattle.layout.specs.Parts.{Step, number, words, judged, row, named, items_in, items}
use Rattle.layout.proofs.ResultLaws.{bind_cong}
use Rattle.b3d_spec.specs.declared.Tag.TheVariants.{TEXS, BRUS, NODE, MESH, VRTS, TRIS, BONE, KEYS, ANIM}
use Rattle.b3d_spec.specs.declared.Mode.TheVariants.{Strict}
use Rattle.b3d_spec.specs.Rules.{bone_limit, texture_row, brushes_head, vertices_head, triangles_head, keys_head}
use Rattle.b3d_spec.specs.Scene.{Brush, TriangleSet, Mesh, Kind, pivot, mesh, bone, Keys, Anim, no_anim, anim, Data, Forest, no_nodes, node}
use Rattle.b3d_spec.specs.Parse.{read_texture, read_textures, read_brush, read_brushes, Vertices, read_vertices, read_triangles, read_bone, read_keys}
use Rattle.b3d_pieces_spec.specs.declared.Totals.{Totals}
use Rattle.b3d_pieces_spec.specs.Bodies.{above, inner_row, none_kept, entered, closed}
use Rattle.b3d_pieces_spec.proofs.RunLaws.{kept_of}
use Rattle.b3d_pieces_spec.proofs.CountLaws.{count_items, leaf_out}

-- ---- totals

abbrev pub sets_totals : List TriangleSet → Totals → Totals
sets_totals [] g = g
sets_totals (x ∷ l) g = sets_totals l (closed TRIS (length x.triangles) none_kept 0 g)

abbrev pub mesh_totals : Mesh → Totals → Totals
mesh_totals m g = closed MESH 0 none_kept 0 (sets_totals m.triangle_sets (closed VRTS (length m.vertices) none_kept 0 g))

abbrev pub kind_totals : Kind → Totals → Totals
kind_totals pivot g = g
kind_totals (mesh m) g = mesh_totals m g
kind_totals (bone ws) g = closed BONE (length ws) none_kept 0 g

abbrev pub keys_totals : List Keys → Totals → Totals
keys_totals [] g = g
keys_totals (x ∷ l) g = keys_totals l (closed KEYS (length x.items) none_kept 0 g)

abbrev pub anim_totals : Anim → Totals → Totals
anim_totals no_anim g = g
anim_totals (anim ws) g = closed ANIM 0 none_kept 0 g

-- a node without its children
abbrev pub node_totals : Data → Totals → Totals
node_totals d g = anim_totals d.anim (keys_totals d.keys (kind_totals d.kind (entered g)))

abbrev pub forest_totals : Forest → Totals → Totals
forest_totals no_nodes g = g
forest_totals (node d f h) g = forest_totals h (closed NODE 0 none_kept g.below (forest_totals f (node_totals d g)))

-- ---- items of another form are as many

module _ {A B : Type 0} (item : ℕ → List ℕ → Result (Step A)) (f : A → B) where
  abbrev as_b : Step A → Result (Step B)
  as_b x = accept (record { value = f x.value; place = x.place; left = x.left })

  abbrev pub mapped : ℕ → List ℕ → Result (Step B)
  mapped p s = item p s >>= as_b

  len_cons : {C : Type 0} (o : Result (List C)) (v : C) → ((o >>= λ l. accept (v ∷ l)) >>= λ l. accept (length l)) ≡ ((o >>= λ l. accept (length l)) >>= λ n. accept (suc n))
  len_cons (accept l) v = refl
  len_cons (reject n p) v = refl

  mapped_step : (n : ℕ) → ((p : ℕ) (s : List ℕ) → (items_in n mapped p s >>= λ l. accept (length l)) ≡ (items_in n item p s >>= λ l. accept (length l)))
      → (o : Result (Step A))
      → (((o >>= as_b) >>= λ x. items_in n mapped x.place x.left >>= λ l. accept (x.value ∷ l)) >>= λ l. accept (length l))
      ≡ ((o >>= λ x. items_in n item x.place x.left >>= λ l. accept (x.value ∷ l)) >>= λ l. accept (length l))
  mapped_step n ih (accept x) =
      len_cons (items_in n mapped x.place x.left) (f x.value)
      ∙ ap (λ (o : Result ℕ). o >>= λ k. accept (suc k)) (ih x.place x.left)
      ∙ sym (len_cons (items_in n item x.place x.left) x.value)
  mapped_step n ih (reject k q) = refl

  mapped_in : (n p : ℕ) (s : List ℕ) → (items_in n mapped p s >>= λ l. accept (length l)) ≡ (items_in n item p s >>= λ l. accept (length l))
  unfolding items_in
  mapped_in zero p [] = refl
  mapped_in zero p (c ∷ s) = refl
  mapped_in (suc n) p [] = refl
  mapped_in (suc n) p (c ∷ s) = mapped_step n (mapped_in n) (item p (c ∷ s))

  pub mapped_items : (p : ℕ) (s : List ℕ) → (items mapped p s >>= λ l. accept (length l)) ≡ (items item p s >>= λ l. accept (length l))
  unfolding items
  mapped_items p s = mapped_in (length s) p s

-- ---- the chunks of items

-- a count, and what is made of it
bind_length : {A B : Type 0} (o : Result (List A)) (k : ℕ → B) → ((o >>= λ l. accept (length l)) >>= λ n. accept (k n)) ≡ (o >>= λ l. accept (k (length l)))
bind_length (accept l) k = refl
bind_length (reject n p) k = refl

-- fixed data, then items
module _ {A B C : Type 0} (I : A → Result (List B)) (M : A → List B → C) (K : C → Totals) (k : A → ℕ → Totals) (same : (h : A) (l : List B) → k h (length l) ≡ K (M h l)) where
  head_got : (h : A) (o : Result (List B)) → ((o >>= λ l. accept (length l)) >>= λ n. accept (k h n)) ≡ ((o >>= λ l. accept (M h l)) >>= λ x. accept (K x))
  head_got h (accept l) = ap accept (same h l)
  head_got h (reject n p) = refl

  pub head-out : (o : Result A) → (o >>= λ h. (I h >>= λ l. accept (length l)) >>= λ n. accept (k h n)) ≡ ((o >>= λ h. I h >>= λ l. accept (M h l)) >>= λ x. accept (K x))
  head-out (accept h) = head_got h (I h)
  head-out (reject n p) = refl

-- the totals with brushes of so many slots
abbrev pub brush_totals : ℕ × List Brush → Totals → Totals
brush_totals x g = closed BRUS (length x.1) (record { first = x.0; second = 0; third = 0 }) 0 g

module _ (g : Totals) (p : ℕ) (b : List ℕ) where
  pub texs_out : leaf_out TEXS g p b ≡ (read_textures p b >>= λ l. accept (closed TEXS (length l) none_kept 0 g))
  unfolding leaf_out count_items row words judged read_textures read_texture
  texs_out =
      ap (λ (o : Result ℕ). o >>= λ n. accept (closed TEXS n none_kept 0 g)) (sym (mapped_items (named texture_row) (λ x. record { name = x.0; words = x.1 }) (p + 8) b))
      ∙ bind_length (items read_texture (p + 8) b) (λ n. closed TEXS n none_kept 0 g)

  pub brus_out : leaf_out BRUS g p b ≡ (read_brushes Strict g.textures p b >>= λ x. accept (brush_totals x g))
  unfolding leaf_out count_items read_brushes read_brush
  brus_out =
      bind_cong (row brushes_head (p + 8) b) (λ h _.
      ap (λ (o : Result ℕ). o >>= λ n. accept (closed BRUS n (kept_of h.value) 0 g))
      (sym (mapped_items (named (inner_row BRUS (kept_of h.value) g)) (λ x. record { name = x.0; words = take 7 x.1; ids = drop 7 x.1 }) h.place h.left)))
      ∙ head-out (λ h. items (read_brush Strict (number h 0) g.textures) h.place h.left) (λ h l. (number h 0, l)) (λ x. brush_totals x g) (λ h n. closed BRUS n (kept_of h.value) 0 g) (λ h l. refl) (row brushes_head (p + 8) b)

  pub bone-out : leaf_out BONE g p b ≡ (read_bone (bone_limit (above g)) p b >>= λ l. accept (closed BONE (length l) none_kept 0 g))
  unfolding leaf_out count_items row words judged read_bone
  bone-out = bind_length (read_bone (bone_limit (above g)) p b) (λ n. closed BONE n none_kept 0 g)

  pub keys-out : leaf_out KEYS g p b ≡ (read_keys p b >>= λ x. accept (closed KEYS (length x.items) none_kept 0 g))
  unfolding leaf_out count_items read_keys
  keys-out =
      head-out (λ h. items (row (inner_row KEYS (kept_of h.value) g)) h.place h.left) (λ h l. record { flags = number h 0; items = l })
      (λ (x : Keys). closed KEYS (length x.items) none_kept 0 g) (λ h n. closed KEYS n (kept_of h.value) 0 g) (λ h l. refl) (row keys_head (p + 8) b)

  pub vrts_out : leaf_out VRTS g p b ≡ (read_vertices Strict p b >>= λ x. accept (closed VRTS (length x.items) none_kept 0 g))
  unfolding leaf_out count_items read_vertices
  vrts_out =
      head-out (λ h. items (row (inner_row VRTS (kept_of h.value) g)) h.place h.left) (λ h l. record { flags = number h 0; sets = number h 1; size = number h 2; items = l })
      (λ (x : Vertices). closed VRTS (length x.items) none_kept 0 g) (λ h n. closed VRTS n (kept_of h.value) 0 g) (λ h l. refl) (row vertices_head (p + 8) b)

  pub tris_out : leaf_out TRIS g p b ≡ (read_triangles g.brushes g.own p b >>= λ x. accept (closed TRIS (length x.triangles) none_kept 0 g))
  unfolding leaf_out count_items read_triangles
  tris_out =
      head-out (λ h. items (row (inner_row TRIS (kept_of h.value) g)) h.place h.left) (λ h l. record { brush = number h 0; triangles = l })
      (λ (x : TriangleSet). closed TRIS (length x.triangles) none_kept 0 g) (λ h n. closed TRIS n (kept_of h.value) 0 g) (λ h l. refl) (row (triangles_head g.brushes) (p + 8) b)
