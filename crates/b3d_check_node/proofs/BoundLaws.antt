-- Where a node is sound, the counts after it are among those of the tables.
use mathlib.Core.Path.{◌≡◌, sym, ◌∙◌, subst}
use Prim.Native.Nat.{ℕ, ◌+◌, ◌-◌, ◌≤◌, ◌<◌}
use native.Mathlib.Omega.{arith}
use mathlib.Core.Bool.{Bool, false, not, ◌&&◌}
use mathlib.Core.List.{List, [], ◌∷◌}
use lib.ListN.{length, take, drop, get_or, length-drop}
use lib.Dec.{T, leb, ltb, eqb, leb→le, ltb→lt}
use borrow.Author.Tests.{not-false}
use mir.Facts.{and_yes}
use Rattle.wire.specs.Test.{if}
use Rattle.layout.specs.WellFormed.{all}
use Rattle.layout.specs.Rules.{holds}
use Rattle.b3d_spec.specs.Mask.{vertex_mask}
use Rattle.b3d_spec.specs.Rebuild.{Rows, owned_by}
use Rattle.b3d_spec.specs.Rules.{vertex_flags, sets, set_size, brush_id, weight_row}
use Rattle.b3d_spec.specs.declared.Counts.{Counts}
use Rattle.b3d_spec.proofs.Rows.RowListLaws.{cut-length, mine_length}
use Rattle.b3d_check_spec.specs.CellCounts.{end_of, mesh_counts, weight_counts, kind_counts, node_counts, cell_counts}
use Rattle.b3d_check_spec.specs.Check.{keeps, clean, rows_valid, groups_valid, name_valid, set_valid, key_list_valid, mesh_valid, kind_valid, node_valid}
use Rattle.b3d_check_spec.proofs.Check.TestLaws.{if-both}
use Rattle.b3d_check_node_counts.specs.Parts.{part_rows, Below}
use Rattle.b3d_check_node_counts.proofs.AfterLaws.{kind-keeps}

-- the rows of the tables 4 to 10 are as many as a counts
pub record Sized (R : Rows) (a : Counts) : Type 0 where
  pub meshes : length (R 4) ≡ a.meshes
  pub vertices : length (R 5) ≡ a.vertices
  pub sets : length (R 6) ≡ a.sets
  pub triangles : length (R 7) ≡ a.triangles
  pub weights : length (R 8) ≡ a.weights
  pub lists : length (R 9) ≡ a.lists
  pub keys : length (R 10) ≡ a.keys

pub part-sized : (a : Counts) (t₄ t₅ t₆ t₇ t₈ t₉ t₁₀ : List ℕ) → Sized (part_rows a t₄ t₅ t₆ t₇ t₈ t₉ t₁₀) a
unfolding part_rows if
part-sized a t₄ t₅ t₆ t₇ t₈ t₉ t₁₀ =
    record {
      meshes = cut-length 9 a.meshes t₄;
      vertices = cut-length 42 a.vertices t₅;
      sets = cut-length 4 a.sets t₆;
      triangles = cut-length 3 a.triangles t₇;
      weights = cut-length 2 a.weights t₈;
      lists = cut-length 4 a.lists t₉;
      keys = cut-length 11 a.keys t₁₀;
    }

-- ---- runs

runs_bound : (f : List ℕ → List (List ℕ) → Bool) (r : ℕ) (xs is : List (List ℕ)) → T (groups_valid f r xs is) → end_of r xs ≤ r + length is
unfolding groups_valid end_of
runs_bound f r [] is t = omega arith
runs_bound f r (x ∷ xs) is t =
    let c = get_or x 3 0 in
    let u = (and_yes (eqb (get_or x 2 0) r) _ t).1 in
    let l : c ≤ length is = leb→le c (length is) (and_yes (leb c (length is)) _ u).0 in
    let v = (and_yes (f x (take c is)) _ (and_yes (leb c (length is)) _ u).1).1 in
    omega (arith, runs_bound f (r + c) xs (drop c is) v, length-drop c is)

-- ---- what a sound mesh row says of the rows that are its own

pub record MeshSays (brushes : ℕ) (n : Counts) (x : List ℕ) (vs ss ts : List (List ℕ)) : Type 0 where
  pub vertices : get_or x 6 0 ≤ length vs
  pub sets : get_or x 8 0 ≤ length ss
  pub runs : T (groups_valid (set_valid brushes (get_or x 6 0) n.meshes) n.triangles (take (get_or x 8 0) ss) ts)

pub mesh-says : (brushes : ℕ) (n : Counts) (x : List ℕ) (vs ss ts : List (List ℕ)) → T (mesh_valid brushes n x vs ss ts) → MeshSays brushes n x vs ss ts
unfolding mesh_valid rows_valid
mesh-says brushes n x vs ss ts t =
    let ok = clean (vertex_mask (get_or x 2 0) (get_or x 3 0) (get_or x 4 0)) in
    let t₁ = (and_yes (eqb (get_or x 0 0) n.nodes) _ t).1 in
    let t₂ = (and_yes (holds (brush_id brushes) (get_or x 1 0)) _ t₁).1 in
    let t₃ = (and_yes (holds vertex_flags (get_or x 2 0)) _ t₂).1 in
    let t₄ = (and_yes (holds sets (get_or x 3 0)) _ t₃).1 in
    let t₅ = (and_yes (holds set_size (get_or x 4 0)) _ t₄).1 in
    let t₆ = (and_yes (eqb (get_or x 5 0) n.vertices) _ t₅).1 in
    let t₇ = and_yes (leb (get_or x 6 0) (length vs) && all ok (take (get_or x 6 0) vs)) _ t₆ in
    let t₈ = (and_yes (ltb 0 (get_or x 8 0)) _ (and_yes (eqb (get_or x 7 0) n.sets) _ t₇.1).1).1 in
    let u = and_yes (leb (get_or x 8 0) (length ss)) _ t₈ in
    record {
      vertices = leb→le (get_or x 6 0) (length vs) (and_yes (leb (get_or x 6 0) (length vs)) _ t₇.0).0;
      sets = leb→le (get_or x 8 0) (length ss) u.0;
      runs = u.1;
    }

-- ---- kinds

module _ (brushes bones : ℕ) (R : Rows) (n a : Counts) (s : Sized R a) (h : Below n a) where
  left : (k m c : ℕ) → length (R k) ≡ c → m ≤ c → length (drop m (R k)) ≡ c - m
  left k m c e l = omega (arith, length-drop m (R k))

  mesh_bound : (x : List ℕ) → T (ltb 0 (length (drop n.meshes (R 4))))
      → T (mesh_valid brushes n x (drop n.vertices (R 5)) (drop n.sets (R 6)) (drop n.triangles (R 7))) → Below (mesh_counts x (drop n.sets (R 6)) n) a
  unfolding mesh_counts
  mesh_bound x o t =
      let vs = drop n.vertices (R 5) in
      let ss = drop n.sets (R 6) in
      let ts = drop n.triangles (R 7) in
      let m = mesh-says brushes n x vs ss ts t in
      let lm = ltb→lt 0 (length (drop n.meshes (R 4))) o in
      let lt = runs_bound (set_valid brushes (get_or x 6 0) n.meshes) n.triangles (take (get_or x 8 0) ss) ts m.runs in
      let em = left 4 n.meshes a.meshes s.meshes h.meshes in
      let ev = left 5 n.vertices a.vertices s.vertices h.vertices in
      let es = left 6 n.sets a.sets s.sets h.sets in
      let et = left 7 n.triangles a.triangles s.triangles h.triangles in
      record {
        nodes = h.nodes;
        meshes = omega (arith, h.meshes);
        vertices = omega (arith, h.vertices, m.vertices);
        sets = omega (arith, h.sets, m.sets);
        triangles = omega (arith, h.triangles);
        weights = h.weights;
        lists = h.lists;
        keys = h.keys;
      }

  bone_bound : (c : ℕ) → T (rows_valid (keeps (weight_row bones)) c (drop n.weights (R 8))) → Below (weight_counts c n) a
  unfolding rows_valid weight_counts
  bone_bound c t =
      let l = leb→le c (length (drop n.weights (R 8))) (and_yes (leb c (length (drop n.weights (R 8)))) _ t).0 in
      let e = left 8 n.weights a.weights s.weights h.weights in
      record {
        nodes = h.nodes;
        meshes = h.meshes;
        vertices = h.vertices;
        sets = h.sets;
        triangles = h.triangles;
        weights = omega (arith, h.weights);
        lists = h.lists;
        keys = h.keys;
      }

  kind_bound : (y : List ℕ) → T (kind_valid brushes bones R n y) → Below (kind_counts R n y) a
  unfolding kind_valid kind_counts
  kind_bound y =
      let ok : Bool → Counts → Type 0 = λ b m. T b → Below m a in
      let first = drop n.meshes (R 4) in
      if-both ok (eqb (get_or y 0 0) 1) _ _ _ _
      (λ e t. let u = and_yes (ltb 0 (length first)) _ (and_yes (eqb (get_or y 2 0) 1) _ (and_yes (eqb (get_or y 1 0) n.meshes) _ t).1).1 in mesh_bound (get_or first 0 []) u.0 u.1)
      (λ e. if-both ok (eqb (get_or y 0 0) 2) _ _ _ _ (λ f t. bone_bound (get_or y 2 0) (and_yes (eqb (get_or y 1 0) n.weights) _ t).1) (λ f t. h))

  -- ---- nodes

  node-bound : (ns x : List ℕ) → n.nodes < a.nodes → T (node_valid ns brushes bones R x n) → Below (cell_counts R x n) a
  unfolding node_valid cell_counts node_counts
  node-bound ns x o t =
      let y = drop 13 x in
      let ls = owned_by n.nodes (drop n.lists (R 9)) in
      let ks = drop n.keys (R 10) in
      let u = and_yes (kind_valid brushes bones R n y) _ (and_yes (name_valid ns x) _ t).1 in
      let r = runs_bound key_list_valid n.keys ls ks (and_yes (groups_valid key_list_valid n.keys ls ks) _ u.1).0 in
      let m = mine_length n.nodes (drop n.lists (R 9)) in
      let b = kind_bound y u.0 in
      let k = kind-keeps R n y in
      let el = left 9 n.lists a.lists s.lists h.lists in
      let ek = left 10 n.keys a.keys s.keys h.keys in
      record {
        nodes = omega (arith, k.nodes);
        meshes = b.meshes;
        vertices = b.vertices;
        sets = b.sets;
        triangles = b.triangles;
        weights = b.weights;
        lists = omega (arith, h.lists);
        keys = omega (arith, h.keys);
      }

-- as code has it: the counts need the tables 4, 6 and 9 alone
pub after-below : (ns : List ℕ) (brushes bones : ℕ) (n a : Counts) (t₃ t₄ t₅ t₆ t₇ t₈ t₉ t₁₀ x : List ℕ) → Below n a → n.nodes < a.nodes → (r : Bool)
    → r ≡ node_valid ns brushes bones (part_rows a t₄ t₅ t₆ t₇ t₈ t₉ t₁₀) x n → not r ≡ false → Below (cell_counts (part_rows a t₄ [] t₆ [] [] t₉ []) x n) a
unfolding cell_counts kind_counts part_rows if
after-below ns brushes bones n a t₃ t₄ t₅ t₆ t₇ t₈ t₉ t₁₀ x h o r e f =
    node-bound brushes bones (part_rows a t₄ t₅ t₆ t₇ t₈ t₉ t₁₀) n a (part-sized a t₄ t₅ t₆ t₇ t₈ t₉ t₁₀) h ns x o (subst T (sym (sym e ∙ not-false r f)) tt)
