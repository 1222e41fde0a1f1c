-- The bodies that hold no chunks, in a mode and in the lenient one; fixed data before chunks and items.
use mathlib.Core.Logic.{inl, inr}
use mathlib.Core.Path.{◌≡◌, refl, ap, sym, subst, ◌∙◌}
use Prim.Native.Nat.{ℕ, zero, suc, ◌+◌, ◌*◌, ◌<◌, ◌≤◌}
use native.Mathlib.Omega.{arith}
use mathlib.Core.Bool.{true, false}
use mathlib.Core.List.{List, [], ◌∷◌, ◌++◌, map}
use lib.ListN.{length, get_or}
use Rattle.wire.specs.Bytes.{word_at}
use Rattle.layout.specs.Result.{Result, accept, reject, ◌>>=◌}
use Rattle.layout.specs.Parts.{Step, words, row, number, named, items}
use Rattle.layout.specs.Rules.{Rule, any, up_to, exactly, names, names_or_none, unit, refusal}
use Rattle.layout.proofs.HeldLaws.{loose, words_count, WordsIn, words-in}
use Rattle.layout.proofs.ResultLaws.{by_got}
use Rattle.layout.proofs.PlaceLaws.{At}
use Rattle.layout.proofs.StepLaws.{judged_got}
use Rattle.b3d_spec.specs.declared.Mode.{Mode}
use Rattle.b3d_spec.specs.declared.Mode.TheVariants.{Strict, Lenient}
use Rattle.b3d_spec.specs.declared.Tag.{Tag}
use Rattle.b3d_spec.specs.declared.Tag.TheVariants.{TEXS, BRUS, VRTS, TRIS, BONE, KEYS, ANIM}
use Rattle.b3d_spec.specs.Parse.{brush_of, read_textures, read_brush, read_brushes, Vertices, read_vertices, read_triangles, read_bone, read_keys, read_anim}
use Rattle.b3d_spec.specs.Rules.{slots, vertex_flags, sets, set_size, when, vertex_words, brushes_head, brush_row, brush_ids, vertices_head, vertex_row}
use Rattle.b3d_spec.specs.Scene.{Brush}
use Rattle.b3d_spec.proofs.Files.BodyRefusalLaws as body
use Rattle.b3d_spec.proofs.Files.BodyRefusalLaws.{Any}
use Rattle.b3d_spec.proofs.Files.ModeLaws.{loose_vertex, loose_brush}
use Rattle.b3d_rule_refusal_places.specs.ByHeaders.{end_of, Begin}
use Rattle.b3d_rule_refusal_places.specs.GivenAtColours.{BrushTo, VertexTo}
use Rattle.b3d_rule_refusal_places.proofs.ColourPairLaws.{row-item, named-item, brush-same, brush-inside, brush_units, brush-long, vertex_units, vertex-long}
use Rattle.b3d_rule_refusal_places.proofs.ItemPairLaws.{Own, Pair, bind_pair, map_pair, pair_as, BadFrom, ItemPair, items_pair}
use Rattle.b3d_rule_refusal_places.proofs.FaultSearchLaws.{colour-later, colour-inside, brush-wide, vertex-wide, ColourOf}
use Rattle.b3d_rule_refusal_places.proofs.RowPairLaws.{is_unit, unit_at, false-true}
use Rattle.b3d_rule_refusal_places.proofs.ChunkFaultLaws.{Faults, Empty, Within, Says, says_none, Inner}

-- ---- 5 to 7

own_five : (last p : ℕ) → p ≤ last → Own last 5 p
own_five last p h = (omega arith, omega arith, inr (h, refl))

own_rule : (last : ℕ) (r : Rule) (p : ℕ) → p < last → Own last (refusal r) p
own_rule last any p h = (omega arith, omega arith, inl h)
own_rule last (up_to m) p h = (omega arith, omega arith, inl h)
own_rule last (exactly m) p h = (omega arith, omega arith, inl h)
own_rule last (names n) p h = (omega arith, omega arith, inl h)
own_rule last (names_or_none n) p h = (omega arith, omega arith, inl h)
own_rule last unit p h = (omega arith, omega arith, inl h)

pub own-says : (K : Faults) (last n p : ℕ) → Own last n p → Empty K → Says K last n p
own-says K last n p h e = says_none K last n p (λ x. omega (arith, h.0)) (λ x. omega (arith, h.1)) e h.2

pub name-own : (rs : List Rule) (last p : ℕ) (b : List ℕ) → p + length b ≤ last → body.Low (Own last) (λ x. x.place + length x.left ≤ last) (named rs p b)
name-own rs last p b h = body.named-low last (Own last) (own_five last) (own_rule last) rs p b h

-- ---- fixed data of numbers that no mode looks at otherwise

-- where it leaves off
pub record After {A : Type 0} (s : List ℕ) (last p : ℕ) (x : Step A) : Type 0 where
  pub place : x.place ≡ p
  pub ends : x.place + length x.left ≡ last
  pub stands : At s x.place x.left

-- the faults K are behind it, at t, and where there is one it is whole
pub head_pair : (s : List ℕ) (K : Faults) (last : ℕ) (rs : List Rule) → ((c : ℕ) → unit_at rs c ≡ true → ⊥) → map loose rs ≡ rs → (p t : ℕ) → p + 4 * length rs ≡ t → (b : List ℕ) → At s p b → p + length b ≡ last
    → ((i q m : ℕ) → K i q m → (t ≤ last) × (t ≤ m)) → Pair K last (After s last t) (row rs p b) (row rs p b)
head_pair s K last rs free same p t l b at e behind =
    by (row rs p b)
    (subst (λ (q : List Rule). ItemPair s (VertexTo (length rs) last) (length rs) 0 0 last p (row rs p b) (row q p b)) same (row-item s (length rs) 0 0 last rs refl (record { to = λ c x. absurd (free c x); from = λ i x. absurd (omega arith) }) p b at e))
  where
    by : (o : Result (Step (List ℕ))) → ItemPair s (VertexTo (length rs) last) (length rs) 0 0 last p o o → Pair K last (After s last t) o o
    by (accept x) h = (record { place = h.1.0 ∙ l; ends = h.2; stands = h.3 }, refl)
    by (reject i j) h = (
      record {
        given = λ c. elim c [ inl z ↦ absurd (omega (arith, h.0.0)) | inr z ↦ absurd (omega (arith, h.0.1)) ];
        first = λ k q m f. let w = behind k q m f in inr (inl (omega (arith, w.1, h.2 t (sym l, w.0))));
        soon = h.0.2;
      },
      inl refl,
    )

pub free_one : (r : Rule) → is_unit r ≡ false → (c : ℕ) → unit_at (r ∷ []) c ≡ true → ⊥
free_one r f zero e = false-true (sym f ∙ e)
free_one r f (suc c) e = false-true e

free_three : (r t u : Rule) → is_unit r ≡ false → is_unit t ≡ false → is_unit u ≡ false → (c : ℕ) → unit_at (r ∷ t ∷ u ∷ []) c ≡ true → ⊥
free_three r t u f g h zero e = false-true (sym f ∙ e)
free_three r t u f g h (suc zero) e = false-true (sym g ∙ e)
free_three r t u f g h (suc (suc c)) e = free_one u h c e

-- its numbers are those of the file
row_words : (s : List ℕ) (rs : List Rule) (p : ℕ) (b : List ℕ) (x : Step (List ℕ)) → At s p b → row rs p b ≡ accept x → (length x.value ≡ length rs) × WordsIn s p x.value
unfolding row
row_words s rs p b x at e =
    by_got (words p (length rs) p b) _ e (λ y ey e₁.
    subst (λ (z : Step (List ℕ)). (length z.value ≡ length rs) × WordsIn s p z.value) (judged_got rs p y.value y x e₁) (words_count p (length rs) p b y ey, words-in s p (length rs) p b y at ey))

first-number : (s : List ℕ) (p : ℕ) (ws : List ℕ) → 0 < length ws → WordsIn s p ws → get_or ws 0 0 ≡ word_at s p
first-number s p [] l h = absurd (omega arith)
first-number s p (w ∷ ws) l h = sym h.0

three-numbers : (s : List ℕ) (p : ℕ) (ws : List ℕ) → length ws ≡ 3 → WordsIn s p ws → (get_or ws 0 0 ≡ word_at s p) × (get_or ws 1 0 ≡ word_at s (p + 4)) × (get_or ws 2 0 ≡ word_at s (p + 8))
three-numbers s p [] l h = absurd (omega arith)
three-numbers s p (a ∷ []) l h = absurd (omega arith)
three-numbers s p (a ∷ b ∷ []) l h = absurd (omega arith)
three-numbers s p (a ∷ b ∷ c ∷ ws) l h = let e : p + 8 ≡ p + 4 + 4 = omega arith in (sym h.0, sym h.1.0, sym h.1.1.0 ∙ ap (word_at s) (sym e))

-- ---- readers of bodies

module _ (mode : Mode) (s : List ℕ) where
  -- what it gives has no faults inside, in both readings
  abbrev pub Reads : {A : Type 0} → Tag → (ℕ → List ℕ → Result A) → (ℕ → List ℕ → Result A) → Type 0
  Reads k one other =
      (q : ℕ) (b : List ℕ) → At s (q + 8) b → end_of s q ≡ q + 8 + length b → Pair (Inner mode s k q) (end_of s q) (λ _. Empty (Inner mode s k q)) (one q b) (other q b)

  leaf_pair : {A : Type 0} (K : Faults) (last : ℕ) (o : Result A) → Empty K → body.Low (Own last) Any o → Pair K last (λ _. Empty K) o o
  leaf_pair K last (accept a) e h = (e, refl)
  leaf_pair K last (reject n p) e h = (own-says K last n p h e, inl refl)

  -- one without colours
  leaf-reads : {A : Type 0} (k : Tag) (one : ℕ → List ℕ → Result A) → ((q : ℕ) → Empty (Inner mode s k q))
      → ((last q : ℕ) (b : List ℕ) → q + 8 + length b ≤ last → body.Low (Own last) Any (one q b)) → Reads k one one
  leaf-reads k one e h q b at size = leaf_pair (Inner mode s k q) (end_of s q) (one q b) (e q) (h (end_of s q) q b (omega arith))

-- no chunk inside and no colour
none_inside : (mode : Mode) (s : List ℕ) (k : Tag) → ((p q b : ℕ) → Begin s k p q b → ⊥) → ((h p : ℕ) → ColourOf s k h p → ⊥) → (q : ℕ) → Empty (Inner mode s k q)
none_inside Strict s k f g q n p m x = elim x [ inl y ↦ f _ _ _ y.1 | inr y ↦ g q p y.3 ]
none_inside Lenient s k f g q n p m x = elim x [ inl y ↦ f _ _ _ y.1 | inr y ↦ y ]

module _ (mode : Mode) (s : List ℕ) where
  pub textures-read : Reads mode s TEXS read_textures read_textures
  textures-read = leaf-reads mode s TEXS read_textures (none_inside mode s TEXS (λ p q b x. x) (λ h p x. x)) (λ last q b h. body.textures-low last (Own last) (own_five last) (own_rule last) q b h)

  pub triangles-read : (brushes n : ℕ) → Reads mode s TRIS (read_triangles brushes n) (read_triangles brushes n)
  triangles-read brushes n = leaf-reads mode s TRIS (read_triangles brushes n) (none_inside mode s TRIS (λ p q b x. x) (λ h p x. x)) (λ last q b h. body.triangles-low last (Own last) (own_five last) (own_rule last) brushes n q b h)

  pub bone-read : (n : ℕ) → Reads mode s BONE (read_bone n) (read_bone n)
  bone-read n = leaf-reads mode s BONE (read_bone n) (none_inside mode s BONE (λ p q b x. x) (λ h p x. x)) (λ last q b h. body.bone-low last (Own last) (own_five last) (own_rule last) n q b h)

  pub keys-read : Reads mode s KEYS read_keys read_keys
  keys-read = leaf-reads mode s KEYS read_keys (none_inside mode s KEYS (λ p q b x. x) (λ h p x. x)) (λ last q b h. body.keys-low last (Own last) (own_five last) (own_rule last) q b h)

  pub anim-read : Reads mode s ANIM read_anim read_anim
  anim-read = leaf-reads mode s ANIM read_anim (none_inside mode s ANIM (λ p q b x. x) (λ h p x. x)) (λ last q b h. body.anim-low last (Own last) (own_five last) (own_rule last) q b h)

-- ---- brushes

-- items whose value is made of what was read
map-item : {A B : Type 0} (s : List ℕ) (To : ℕ → ℕ → Type 0) (numbers before colours last q : ℕ) (f : A → B) (o o' : Result (Step A)) → ItemPair s To numbers before colours last q o o'
    → ItemPair s To numbers before colours last q (o >>= λ x. accept (record { value = f x.value; place = x.place; left = x.left })) (o' >>= λ x. accept (record { value = f x.value; place = x.place; left = x.left }))
map-item {A} {B} s To numbers before colours last q f (accept x) o' h =
    let g : Step A → Step B = λ y. record { value = f y.value; place = y.place; left = y.left } in
    (ap (λ (w : Result (Step A)). w >>= λ y. accept (g y)) h.0, h.1, h.2, h.3, h.4)
map-item {A} {B} s To numbers before colours last q f (reject n p) o' h =
    let g : Step A → Step B = λ y. record { value = f y.value; place = y.place; left = y.left } in
    (h.0, elim h.1 [ inl e ↦ inl (ap (λ (w : Result (Step A)). w >>= λ y. accept (g y)) e) | inr y ↦ inr y ], h.2, h.3)

module _ (s : List ℕ) where
  brush_pair : (n textures last q : ℕ) (b : List ℕ) → At s q b → q + length b ≡ last
      → ItemPair s (BrushTo s n last) (7 + n) 0 4 last q (read_brush Strict n textures q b) (read_brush Lenient n textures q b)
  unfolding read_brush
  brush_pair n textures last q b at e =
      let rs = brush_row Strict ++ brush_ids n textures in
      map-item s (BrushTo s n last) (7 + n) 0 4 last q brush_of (named rs q b) (named (brush_row Lenient ++ brush_ids n textures) q b)
      (subst (λ (l : List Rule). ItemPair s (BrushTo s n last) (7 + n) 0 4 last q (named rs q b) (named l q b)) (loose_brush n textures)
      (named-item s n 4 last rs (brush-long n textures) (brush_units n textures) q b at e))

  -- the colours of a BRUS, by its number of slots
  abbrev BrushBad : ℕ → ℕ → ℕ → Faults
  BrushBad n last q = BadFrom s (BrushTo s n last) (7 + n) 0 4 q

  brushes_strict : (textures : ℕ) → Reads Strict s BRUS (read_brushes Strict textures) (read_brushes Lenient textures)
  unfolding read_brushes
  brushes_strict textures q b at size =
      let last = end_of s q in
      let n = word_at s (q + 8) in
      let K = Inner Strict s BRUS q in
      let L = BrushBad n last (q + 12) in
      let out : Within L K = λ i p m x. inr x in
      let into : Within K L = λ i p m x. elim x [ inl y ↦ absurd y.1 | inr y ↦ y ] in
      pair_as L K last (λ _. Empty L) (λ _. Empty K) (read_brushes Strict textures q b) (read_brushes Lenient textures q b) out into (λ a e i p m x. e i p m (into i p m x))
      (bind_pair L last (After s last (q + 12)) (λ _. Empty L) (row brushes_head (q + 8) b) (row brushes_head (q + 8) b) _ _
      (head_pair s L last brushes_head (free_one slots refl) refl (q + 8) (q + 12) (omega arith) b at (sym size)
      (λ i p m x. (omega (arith, colour-inside (BrushTo s n last) (7 + n) 0 4 p last (brush-inside s n last) (q + 12) x.3), omega (arith, x.1, colour-later (BrushTo s n last) (7 + n) 0 4 p (brush-wide s n last) (q + 12) x.3)))) (λ x ex _ hx.
      let w = row_words s brushes_head (q + 8) b x at ex in
      let same : number x 0 ≡ n = first-number s (q + 8) x.value (omega (arith, w.0)) w.1 in
      let made : List Brush → ℕ × List Brush = λ l. (number x 0, l) in
      map_pair L last (Empty L) made (items (read_brush Strict (number x 0) textures) x.place x.left) (items (read_brush Lenient (number x 0) textures) x.place x.left)
      (subst (λ (k : ℕ). Pair L last (λ _. Empty L) (items (read_brush Strict k textures) x.place x.left) (items (read_brush Lenient k textures) x.place x.left)) (sym same)
      (subst (λ (j : ℕ). Pair (BrushBad n last j) last (λ _. Empty (BrushBad n last j)) (items (read_brush Strict n textures) x.place x.left) (items (read_brush Lenient n textures) x.place x.left)) hx.place
      (items_pair s (BrushTo s n last) (7 + n) 0 4 last (brush-wide s n last) (brush-inside s n last) (brush-same s n last) (read_brush Strict n textures) (read_brush Lenient n textures) (brush_pair n textures last) x.place x.left hx.stands hx.ends)))))

  pub brushes-read : (mode : Mode) (textures : ℕ) → Reads mode s BRUS (read_brushes mode textures) (read_brushes Lenient textures)
  brushes-read Strict textures = brushes_strict textures
  brushes-read Lenient textures =
      leaf-reads Lenient s BRUS (read_brushes Lenient textures) (λ q n p m x. elim x [ inl y ↦ y.1 | inr y ↦ y ]) (λ last q b h. body.brushes-low last (Own last) (own_five last) (own_rule last) Lenient textures q b h)

  -- ---- vertices

  abbrev VertexBad : ℕ → ℕ → ℕ → ℕ → ℕ → Faults
  VertexBad f z y last q = BadFrom s (VertexTo (vertex_words f z y) last) (vertex_words f z y) (3 + when 1 f 3) (when 2 f 4) q

  vertex-inside : (f z y last q e : ℕ) → VertexTo (vertex_words f z y) last q e → (q < e) × (e ≤ last)
  unfolding vertex_words
  vertex-inside f z y last q e h = (omega (arith, h.0), h.1)

  vertex_pair : (f z y last q : ℕ) (b : List ℕ) → At s q b → q + length b ≡ last
      → ItemPair s (VertexTo (vertex_words f z y) last) (vertex_words f z y) (3 + when 1 f 3) (when 2 f 4) last q (row (vertex_row Strict f z y) q b) (row (vertex_row Lenient f z y) q b)
  vertex_pair f z y last q b at e =
      subst (λ (l : List Rule). ItemPair s (VertexTo (vertex_words f z y) last) (vertex_words f z y) (3 + when 1 f 3) (when 2 f 4) last q (row (vertex_row Strict f z y) q b) (row l q b)) (loose_vertex f z y)
      (row-item s (vertex_words f z y) (3 + when 1 f 3) (when 2 f 4) last (vertex_row Strict f z y) (vertex-long f z y) (vertex_units f z y) q b at e)

  -- vertices of these flags, sets and size
  abbrev Vertexes : ℕ → ℕ → ℕ → ℕ → ℕ → List ℕ → Type 0
  Vertexes f z y last q b = Pair (VertexBad f z y last q) last (λ _. Empty (VertexBad f z y last q)) (items (row (vertex_row Strict f z y)) q b) (items (row (vertex_row Lenient f z y)) q b)

  vertices-all : (f z y last q : ℕ) (b : List ℕ) → At s q b → q + length b ≡ last → Vertexes f z y last q b
  vertices-all f z y last q b at e =
      items_pair s (VertexTo (vertex_words f z y) last) (vertex_words f z y) (3 + when 1 f 3) (when 2 f 4) last (vertex-wide (vertex_words f z y) last) (vertex-inside f z y last) (λ q e d g h. omega (arith, g.0, h.0))
      (row (vertex_row Strict f z y)) (row (vertex_row Lenient f z y)) (vertex_pair f z y last) q b at e

  -- the same numbers, said otherwise
  moved : (f z y f' z' y' last q q' : ℕ) (b : List ℕ) → f ≡ f' → z ≡ z' → y ≡ y' → q' ≡ q → Vertexes f z y last q' b
      → Pair (VertexBad f z y last q) last (λ _. Empty (VertexBad f z y last q)) (items (row (vertex_row Strict f' z' y')) q' b) (items (row (vertex_row Lenient f' z' y')) q' b)
  moved f z y f' z' y' last q q' b ef ez ey eq h =
      subst (λ (i : ℕ). Pair (VertexBad f z y last q) last (λ _. Empty (VertexBad f z y last q)) (items (row (vertex_row Strict i z' y')) q' b) (items (row (vertex_row Lenient i z' y')) q' b)) ef
      (subst (λ (i : ℕ). Pair (VertexBad f z y last q) last (λ _. Empty (VertexBad f z y last q)) (items (row (vertex_row Strict f i y')) q' b) (items (row (vertex_row Lenient f i y')) q' b)) ez
      (subst (λ (i : ℕ). Pair (VertexBad f z y last q) last (λ _. Empty (VertexBad f z y last q)) (items (row (vertex_row Strict f z i)) q' b) (items (row (vertex_row Lenient f z i)) q' b)) ey
      (subst (λ (i : ℕ). Pair (VertexBad f z y last i) last (λ _. Empty (VertexBad f z y last i)) (items (row (vertex_row Strict f z y)) q' b) (items (row (vertex_row Lenient f z y)) q' b)) eq h)))

  vertices_strict : Reads Strict s VRTS (read_vertices Strict) (read_vertices Lenient)
  unfolding read_vertices
  vertices_strict q b at size =
      let last = end_of s q in
      let f = word_at s (q + 8) in
      let z = word_at s (q + 12) in
      let y = word_at s (q + 16) in
      let K = Inner Strict s VRTS q in
      let L = VertexBad f z y last (q + 20) in
      let out : Within L K = λ i p m x. inr x in
      let into : Within K L = λ i p m x. elim x [ inl w ↦ absurd w.1 | inr w ↦ w ] in
      pair_as L K last (λ _. Empty L) (λ _. Empty K) (read_vertices Strict q b) (read_vertices Lenient q b) out into (λ a e i p m x. e i p m (into i p m x))
      (bind_pair L last (After s last (q + 20)) (λ _. Empty L) (row vertices_head (q + 8) b) (row vertices_head (q + 8) b) _ _
      (head_pair s L last vertices_head (free_three vertex_flags sets set_size refl refl refl) refl (q + 8) (q + 20) (omega arith) b at (sym size)
      (λ i p m x. (omega (arith, colour-inside (VertexTo (vertex_words f z y) last) (vertex_words f z y) _ _ p last (vertex-inside f z y last) (q + 20) x.3), omega (arith, x.1, colour-later (VertexTo (vertex_words f z y) last) (vertex_words f z y) _ _ p (vertex-wide (vertex_words f z y) last) (q + 20) x.3)))) (λ x ex _ hx.
      let w = row_words s vertices_head (q + 8) b x at ex in
      let n = three-numbers s (q + 8) x.value w.0 w.1 in
      let e₁ : q + 8 + 4 ≡ q + 12 = omega arith in
      let e₂ : q + 8 + 8 ≡ q + 16 = omega arith in
      let n₁ : z ≡ number x 1 = sym (n.1 ∙ ap (word_at s) e₁) in
      let n₂ : y ≡ number x 2 = sym (n.2 ∙ ap (word_at s) e₂) in
      let made : List (List ℕ) → Vertices = λ l. record { flags = number x 0; sets = number x 1; size = number x 2; items = l } in
      map_pair L last (Empty L) made (items (row (vertex_row Strict (number x 0) (number x 1) (number x 2))) x.place x.left) (items (row (vertex_row Lenient (number x 0) (number x 1) (number x 2))) x.place x.left)
      (moved f z y (number x 0) (number x 1) (number x 2) last (q + 20) x.place x.left (sym n.0) n₁ n₂ hx.place (vertices-all f z y last x.place x.left hx.stands hx.ends))))

  pub vertices-read : (mode : Mode) → Reads mode s VRTS (read_vertices mode) (read_vertices Lenient)
  vertices-read Strict = vertices_strict
  vertices-read Lenient =
      leaf-reads Lenient s VRTS (read_vertices Lenient) (λ q n p m x. elim x [ inl y ↦ y.1 | inr y ↦ y ]) (λ last q b h. body.vertices-low last (Own last) (own_five last) (own_rule last) Lenient q b h)
