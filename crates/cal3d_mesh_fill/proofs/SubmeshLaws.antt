-- One submesh: its counts, its row, and the rows of what it holds.
use Prim.Native.Nat.{ℕ, ◌+◌, ◌*◌}
use native.Mathlib.Omega.{arith}
use mathlib.Core.Path.{◌≡◌, refl, ap, sym, ◌∙◌}
use mathlib.Core.List.{List, [], ◌∷◌, ◌++◌, append-nil, append_assoc}
use lib.ListN.{length, length-append}
use lib.Seq.{sets}
use Rattle.wire.specs.Bytes.{word_at}
use Rattle.layout.specs.Rows.{joined}
use Rattle.shared_table_words.specs.Words.{words_at}
use Rattle.shared_table_words.proofs.CopyLaws.{length-words}
use Rattle.cal3d_spec.specs.Meshes.{Vertex, Submesh}
use Rattle.cal3d_spec.specs.Tables.{submesh_rows, vertex_rows, vertices_of}
use Rattle.cal3d_mesh_plain_spec.specs.declared.Shape.{Shape}
use Rattle.cal3d_mesh_plain_spec.specs.Plain.{word_rows, shape_at, vertices_at, vertices_end, submesh_at, submesh_end}
use Rattle.cal3d_mesh_plain_spec.specs.Rows.{map_rows, influence_rows, spring_rows, face_rows}
use Rattle.cal3d_mesh_vertex_rows.proofs.VertexLaws.{cells-behind}

-- ---- its counts

pub shape_read : (s : List ℕ) (at a b c d v f g m : ℕ) → a ≡ word_at s (at + 4) → v ≡ a → b ≡ word_at s (at + 8) → f ≡ b → c ≡ word_at s (at + 16) → g ≡ c → d ≡ word_at s (at + 20) → m ≡ d
    → record { vertices = v; faces = f; springs = g; maps = m } ≡ shape_at s at
unfolding shape_at
shape_read s at a b c d v f g m ea ev eb ef ec eg ed em = rw (ev, ea, ef, eb, eg, ec, em, ed)

-- what stands behind its numbers, by its counts
module _ (s : List ℕ) (p : ℕ) (x : Shape) (e : x ≡ shape_at s p) where
  pub its_vertices : (submesh_at s p).vertices ≡ vertices_at s x x.vertices (p + 24)
  unfolding submesh_at
  its_vertices = ap (λ (z : Shape). vertices_at s z z.vertices (p + 24)) (sym e)

  pub its_springs : (submesh_at s p).springs ≡ word_rows 4 s x.springs (vertices_end s x x.vertices (p + 24))
  unfolding submesh_at
  its_springs = ap (λ (z : Shape). word_rows 4 s z.springs (vertices_end s z z.vertices (p + 24))) (sym e)

  pub its_faces : (submesh_at s p).faces ≡ word_rows 3 s x.faces (vertices_end s x x.vertices (p + 24) + 16 * x.springs)
  unfolding submesh_at
  its_faces = ap (λ (z : Shape). word_rows 3 s z.faces (vertices_end s z z.vertices (p + 24) + 16 * z.springs)) (sym e)

  pub its_end : submesh_end s p ≡ vertices_end s x x.vertices (p + 24) + 16 * x.springs + 12 * x.faces
  unfolding submesh_end
  its_end = ap (λ (z : Shape). vertices_end s z z.vertices (p + 24) + 16 * z.springs + 12 * z.faces) (sym e)

-- ---- its row

row_is : (s : List ℕ) (v g f p : ℕ) → joined (submesh_rows v g f (submesh_at s p ∷ [])) ≡ words_at 6 s p ++ (v ∷ g ∷ f ∷ [])
unfolding joined submesh_rows submesh_at
row_is s v g f p = append-nil (words_at 6 s p ++ (v ∷ g ∷ f ∷ []))

pub row_long : (s : List ℕ) (v g f p : ℕ) → length (joined (submesh_rows v g f (submesh_at s p ∷ []))) ≡ 9
row_long s v g f p = ap length (row_is s v g f p) ∙ length-append (words_at 6 s p) (v ∷ g ∷ f ∷ []) ∙ omega (arith, length-words 6 s p)

pub submesh_put : (s : List ℕ) (v g f p base : ℕ) (out one new : List ℕ) → one ≡ sets out base (words_at 6 s p) → new ≡ sets one (base + 6) (v ∷ g ∷ f ∷ [])
    → new ≡ sets out base (joined (submesh_rows v g f (submesh_at s p ∷ [])))
submesh_put s v g f p base out one new e h = cells-behind s p 6 base (v ∷ g ∷ f ∷ []) out one new e h ∙ ap (λ (z : List ℕ). sets out base z) (sym (row_is s v g f p))

-- ---- rows of a submesh, and of those behind it

module _ (y : Submesh) (l : List Submesh) where
  pub submesh_first : (v g f : ℕ)
      → joined (submesh_rows v g f (y ∷ l)) ≡ joined (submesh_rows v g f (y ∷ [])) ++ joined (submesh_rows (v + length y.vertices) (g + length y.springs) (f + length y.faces) l)
  unfolding submesh_rows joined
  submesh_first v g f =
      ap (λ (r : List ℕ). r ++ joined (submesh_rows (v + length y.vertices) (g + length y.springs) (f + length y.faces) l)) (sym (append-nil (y.numbers ++ (v ∷ g ∷ f ∷ []))))

  pub vertices-first : vertices_of (y ∷ l) ≡ y.vertices ++ vertices_of l
  unfolding vertices_of joined
  vertices-first = refl

  pub springs-first : spring_rows (y ∷ l) ≡ y.springs ++ spring_rows l
  unfolding spring_rows joined
  springs-first = refl

  pub faces-first : face_rows (y ∷ l) ≡ y.faces ++ face_rows l
  unfolding face_rows joined
  faces-first = refl

-- ---- rows of vertices, and of those behind them

pub maps-append : (xs ys : List Vertex) → map_rows (xs ++ ys) ≡ map_rows xs ++ map_rows ys
unfolding map_rows joined
maps-append [] ys = refl
maps-append (x ∷ xs) ys = ap (λ (r : List (List ℕ)). x.maps ++ r) (maps-append xs ys) ∙ sym (append_assoc x.maps (map_rows xs) (map_rows ys))

pub influences-append : (xs ys : List Vertex) → influence_rows (xs ++ ys) ≡ influence_rows xs ++ influence_rows ys
unfolding influence_rows joined
influences-append [] ys = refl
influences-append (x ∷ xs) ys = ap (λ (r : List (List ℕ)). x.influences ++ r) (influences-append xs ys) ∙ sym (append_assoc x.influences (influence_rows xs) (influence_rows ys))

-- a vertex more before them
later : (m i a b m₁ i₁ : ℕ) (ys : List Vertex) → m + a ≡ m₁ → i + b ≡ i₁ → vertex_rows m₁ i₁ ys ≡ vertex_rows (m + a) (i + b) ys
later m i a b m₁ i₁ ys e f = rw (e, f)

pub vertices-append : (m i : ℕ) (xs ys : List Vertex) → vertex_rows m i (xs ++ ys) ≡ vertex_rows m i xs ++ vertex_rows (m + length (map_rows xs)) (i + length (influence_rows xs)) ys
unfolding vertex_rows map_rows influence_rows joined
vertices-append m i [] ys = later m i 0 0 m i ys (omega arith) (omega arith)
vertices-append m i (x ∷ xs) ys =
    let a = length-append x.maps (map_rows xs) in
    let b = length-append x.influences (influence_rows xs) in
    let c = vertices-append (m + length x.maps) (i + length x.influences) xs ys in
    let d = later m i (length (x.maps ++ map_rows xs)) (length (x.influences ++ influence_rows xs)) (m + length x.maps + length (map_rows xs)) (i + length x.influences + length (influence_rows xs)) ys (omega arith) (omega arith) in
    ap (λ (r : List (List ℕ)). (x.numbers ++ (length x.influences ∷ x.cloth ∷ m ∷ i ∷ [])) ∷ r) (c ∙ ap (λ (r : List (List ℕ)). vertex_rows (m + length x.maps) (i + length x.influences) xs ++ r) d)
