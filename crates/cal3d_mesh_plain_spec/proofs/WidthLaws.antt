-- Each table of a mesh by its file's bytes has rows of one width.
use Prim.Native.Nat.{ℕ, zero, suc, ◌+◌, ◌*◌}
use native.Mathlib.Omega.{arith}
use native.Mathlib.Nat.{mul-suc, mul-zero}
use mathlib.Core.Path.{◌≡◌, refl, ap, sym, ◌∙◌}
use mathlib.Core.List.{List, [], ◌∷◌, map}
use lib.ListN.{length, length-append}
use Rattle.wire.specs.Test.{if}
use Rattle.layout.specs.Lists.{All}
use Rattle.layout.specs.Rows.{joined}
use Rattle.layout.proofs.AllLaws.{all_map, all_append, all_of_map}
use Rattle.shared_table_words.specs.Words.{words_at}
use Rattle.shared_table_words.proofs.CopyLaws.{length-words, words_more}
use Rattle.cal3d_spec.specs.Meshes.{Vertex, Submesh}
use Rattle.cal3d_spec.specs.Tables.{mesh_tables, mesh_file_width, submesh_rows, vertex_rows, vertices_of, mesh_rows}
use Rattle.cal3d_mesh_plain_spec.specs.declared.Shape.{Shape}
use Rattle.cal3d_mesh_plain_spec.specs.Plain.{entries_at, word_rows, vertex_at, vertices_at, submesh_at, submeshes_at, plain_mesh}
use Rattle.cal3d_mesh_plain_spec.specs.Rows.{map_rows, influence_rows}
use Rattle.cal3d_mesh_plain_spec.proofs.EntryLaws.{all-entries, entries-length}

-- ---- rows of one width

abbrev pub Wide : ℕ → List (List ℕ) → Type 0
Wide w l = All (λ (r : List ℕ). length r ≡ w) l

pub wide-length : (w : ℕ) (l : List (List ℕ)) → Wide w l → length (joined l) ≡ w * length l
unfolding joined
wide-length w [] h = sym (mul-zero w)
wide-length w (r ∷ l) h =
    let m = mul-suc w (length l) in
    let n = wide-length w l h.1 in
    length-append r (joined l) ∙ omega (arith, h.0)

all-joined : {A : Type 0} (P : A → Type 0) (ls : List (List A)) → All (All P) ls → All P (joined ls)
unfolding joined
all-joined P [] h = tt
all-joined P (l ∷ ls) h = all_append P l (joined ls) h.0 (all-joined P ls h.1)

module _ (w : ℕ) (s : List ℕ) where
  pub rows-wide : (n p : ℕ) → Wide w (word_rows w s n p)
  unfolding word_rows
  rows-wide n p = all-entries (λ (r : List ℕ). length r ≡ w) (words_at w s) (λ q. q + 4 * w) (λ q. length-words w s q) n p

  pub rows-length : (n p : ℕ) → length (word_rows w s n p) ≡ n
  unfolding word_rows
  rows-length n p = entries-length (words_at w s) (λ q. q + 4 * w) n p

  -- rows one after the other are the words that stand there
  pub rows-joined : (n p : ℕ) → joined (word_rows w s n p) ≡ words_at (w * n) s p
  unfolding word_rows entries_at joined words_at
  rows-joined zero p = rw (mul-zero w)
  rows-joined (suc n) p =
      let e : w * suc n ≡ w + w * n = omega (arith, mul-suc w n) in
      rw (e, rows-joined n (p + 4 * w)) (sym (words_more w (w * n) s p))

  pub rows_words : (n p : ℕ) → length (joined (word_rows w s n p)) ≡ w * n
  rows_words n p = ap length (rows-joined n p) ∙ length-words (w * n) s p

-- ---- vertices

pub record WideVertex (x : Vertex) : Type 0 where
  pub numbers : length x.numbers ≡ 8
  pub maps : Wide 2 x.maps
  pub influences : Wide 2 x.influences

vertex-wide : (s : List ℕ) (springs maps p : ℕ) → WideVertex (vertex_at s springs maps p)
unfolding vertex_at
vertex-wide s springs maps p = record { numbers = length-words 8 s p; maps = rows-wide 2 s maps (p + 32); influences = rows-wide 2 s _ _ }

pub vertices-wide : (s : List ℕ) (x : Shape) (n p : ℕ) → All WideVertex (vertices_at s x n p)
unfolding vertices_at
vertices-wide s x n p = all-entries WideVertex (vertex_at s x.springs x.maps) _ (vertex-wide s x.springs x.maps) n p

pub maps-wide : (l : List Vertex) → All WideVertex l → Wide 2 (map_rows l)
unfolding map_rows
maps-wide l h = all-joined _ (map (λ (x : Vertex). x.maps) l) (all_of_map (Wide 2) (λ (x : Vertex). x.maps) l (all_map WideVertex (λ x. Wide 2 x.maps) (λ x w. w.maps) l h))

pub influences-wide : (l : List Vertex) → All WideVertex l → Wide 2 (influence_rows l)
unfolding influence_rows
influences-wide l h = all-joined _ (map (λ (x : Vertex). x.influences) l) (all_of_map (Wide 2) (λ (x : Vertex). x.influences) l (all_map WideVertex (λ x. Wide 2 x.influences) (λ x w. w.influences) l h))

pub vertex-rows-wide : (m i : ℕ) (l : List Vertex) → All WideVertex l → Wide 12 (vertex_rows m i l)
unfolding vertex_rows
vertex-rows-wide m i [] h = tt
vertex-rows-wide m i (x ∷ l) h =
    (length-append x.numbers (length x.influences ∷ x.cloth ∷ m ∷ i ∷ []) ∙ omega (arith, h.0.numbers), vertex-rows-wide (m + length x.maps) (i + length x.influences) l h.1)

pub vertex-rows-length : (m i : ℕ) (l : List Vertex) → length (vertex_rows m i l) ≡ length l
unfolding vertex_rows
vertex-rows-length m i [] = refl
vertex-rows-length m i (x ∷ l) = ap suc (vertex-rows-length (m + length x.maps) (i + length x.influences) l)

-- ---- submeshes

record WideSubmesh (x : Submesh) : Type 0 where
  numbers : length x.numbers ≡ 6
  vertices : All WideVertex x.vertices
  springs : Wide 4 x.springs
  faces : Wide 3 x.faces

submesh_wide : (s : List ℕ) (p : ℕ) → WideSubmesh (submesh_at s p)
unfolding submesh_at
submesh_wide s p = record { numbers = length-words 6 s p; vertices = vertices-wide s _ _ _; springs = rows-wide 4 s _ _; faces = rows-wide 3 s _ _ }

submeshes-wide : (s : List ℕ) (n p : ℕ) → All WideSubmesh (submeshes_at s n p)
unfolding submeshes_at
submeshes-wide s n p = all-entries WideSubmesh (submesh_at s) _ (submesh_wide s) n p

submesh_rows-wide : (v g f : ℕ) (l : List Submesh) → All WideSubmesh l → Wide 9 (submesh_rows v g f l)
unfolding submesh_rows
submesh_rows-wide v g f [] h = tt
submesh_rows-wide v g f (x ∷ l) h =
    (length-append x.numbers (v ∷ g ∷ f ∷ []) ∙ omega (arith, h.0.numbers), submesh_rows-wide (v + length x.vertices) (g + length x.springs) (f + length x.faces) l h.1)

of-submeshes : {B : Type 0} (P : B → Type 0) (part : Submesh → List B) → ((x : Submesh) → WideSubmesh x → All P (part x)) → (l : List Submesh) → All WideSubmesh l → All P (joined (map part l))
of-submeshes P part f l h = all-joined P (map part l) (all_of_map (All P) part l (all_map WideSubmesh (λ x. All P (part x)) f l h))

-- ---- the six tables

pub tables-wide : (s : List ℕ) → All (λ (k : ℕ). length (joined (mesh_rows k (plain_mesh s))) ≡ mesh_file_width k * length (mesh_rows k (plain_mesh s))) mesh_tables
unfolding mesh_rows mesh_file_width if plain_mesh vertices_of map_rows influence_rows
tables-wide s =
    let l = submeshes_at s _ 12 in
    let h = submeshes-wide s _ 12 in
    let v = of-submeshes WideVertex (λ x. x.vertices) (λ x w. w.vertices) l h in
    let springs = wide-length 4 _ (of-submeshes (λ (r : List ℕ). length r ≡ 4) (λ x. x.springs) (λ x w. w.springs) l h) in
    let faces = wide-length 3 _ (of-submeshes (λ (r : List ℕ). length r ≡ 3) (λ x. x.faces) (λ x w. w.faces) l h) in
    (wide-length 9 _ (submesh_rows-wide 0 0 0 l h), (wide-length 12 _ (vertex-rows-wide 0 0 _ v), (wide-length 2 _ (maps-wide (vertices_of l) v), (wide-length 2 _ (influences-wide (vertices_of l) v), (springs, (faces, tt))))))
