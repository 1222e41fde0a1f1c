-- Each weight of an accepted file names a vertex of the nearest node above with an ANIM, or of the root.
use mathlib.Core.Logic.{inl, inr}
use mathlib.Core.Path.{◌≡◌, refl, ap, sym, subst, ◌∙◌}
use Prim.Native.Nat.{ℕ, zero, suc, ◌+◌, ◌-◌, ◌≤◌, ◌<◌}
use native.Mathlib.Omega.{arith}
use mathlib.Core.Option.{Option, none, some}
use mathlib.Core.List.{List, [], ◌∷◌, ◌++◌, append_assoc, append-nil}
use lib.ListN.{length, drop, get_or, length-drop, get_or-append}
use lib.Seq.{get_or-drop, drop-drop, drop-append_seam}
use lib.Dec.{ltb, leb, ltb→lt, leb→le, nleb→lt, nltb→le}
use Rattle.wire.specs.Bytes.{AllBytes}
use Rattle.wire.specs.Test.{if}
use Rattle.layout.specs.Result.{accept}
use Rattle.layout.specs.Fitting.{Fits}
use Rattle.layout.specs.Rules.{NONE}
use Rattle.layout.specs.Rows.{name_cells}
use Rattle.layout.proofs.AllLaws.{All, all_map, all-zip}
use Rattle.layout.proofs.ResultLaws.{by_test}
use Rattle.b3d_spec.specs.declared.Counts.{Counts}
use Rattle.b3d_spec.specs.declared.Mode.{Mode}
use Rattle.b3d_spec.specs.Answers.{judge}
use Rattle.b3d_spec.specs.Rebuild.{Rows, From}
use Rattle.b3d_spec.specs.Rules.{weight_row, own_vertices, bone_limit, animated, bone_limit_from, bone_limit_below, levels, row_limit}
use Rattle.b3d_spec.specs.Scene.{Kind, pivot, mesh, bone, Anim, no_anim, anim, Data, Forest, no_nodes, node, Scene}
use Rattle.b3d_spec.specs.Tables.{start, reached, node_tables, tables, meshes_of, weights_of, kind_cells, anim_cells, node_row, mesh_row, mesh_rows, own_rows, nodes_in, with_node, with_forest, forest_rows, rows}
use Rattle.b3d_spec.proofs.AnswerLaws.{judge_got}
use Rattle.b3d_spec.proofs.WellFormedLaws.{FitData, FitKind, FitNodes}
use Rattle.b3d_spec.proofs.Laws.{fine}
use Rattle.b3d_spec.proofs.Rows.CountLaws.{Rise, rises}
use Rattle.b3d_spec.proofs.Rows.NodeRowLaws.{nodes-step, steps}
use Rattle.b3d_spec.proofs.Rows.RowPartLaws.{cell_past, kind-wide}
use Rattle.b3d_spec.proofs.Rows.TreeLaws.{from-after}
use Rattle.b3d_spec.proofs.Rows.WordCountLaws.{any-words}
use Rattle.b3d_spec_demands.specs.Branches.{parent_of}
use Rattle.b3d_spec_demands.specs.Bones.{kind_of, first_of, count_of, anim_of, Nearest, itself, above, mesh_vertices, weight_id, WeightOf, WeightNearest, BonesNearest}

-- ---- the way up leads to one node

module _ (xs : List (List ℕ)) (c d : ℕ) where
  pub nearest-one : (j : ℕ) → Nearest xs c j → Nearest xs d j → c ≡ d
  nearest-one j (itself _ e h) (itself _ f k) = omega arith
  nearest-one j (itself _ e h) (above _ a n k) = elim h [ inl x ↦ absurd (omega arith) | inr x ↦ absurd (n x) ]
  nearest-one j (above _ a n h) (itself _ f k) = elim k [ inl x ↦ absurd (omega arith) | inr x ↦ absurd (n x) ]
  nearest-one j (above _ a n h) (above _ b m k) = nearest-one (parent_of xs j) h k

-- ---- the cells of a node's row

module _ (b v : ℕ) (d : Data) (p below : ℕ) (n : Counts) (h : FitData b v d) where
  abbrev rest : List ℕ
  rest = anim_cells d.anim ++ (below ∷ [])

  abbrev row : List ℕ
  row = node_row d p below n

  parent_cell : get_or row 2 0 ≡ p
  unfolding node_row name_cells
  parent_cell = refl

  kind_cell : get_or row 13 0 ≡ get_or (kind_cells d.kind n ++ rest) 0 0
  unfolding node_row name_cells
  kind_cell = cell_past d.words (kind_cells d.kind n ++ rest) 10 0 (any-words 10 d.words h.words)

  first_cell : get_or row 14 0 ≡ get_or (kind_cells d.kind n ++ rest) 1 0
  unfolding node_row name_cells
  first_cell = cell_past d.words (kind_cells d.kind n ++ rest) 10 1 (any-words 10 d.words h.words)

  count_cell : get_or row 15 0 ≡ get_or (kind_cells d.kind n ++ rest) 2 0
  unfolding node_row name_cells
  count_cell = cell_past d.words (kind_cells d.kind n ++ rest) 10 2 (any-words 10 d.words h.words)

  anim_cell : get_or row 16 0 ≡ get_or rest 0 0
  unfolding node_row name_cells
  anim_cell = cell_past d.words (kind_cells d.kind n ++ rest) 10 3 (any-words 10 d.words h.words) ∙ cell_past (kind_cells d.kind n) rest 3 0 (kind-wide d.kind n)

-- ---- rows where they stand

-- the first row from place i on
head_at : (xs l : List (List ℕ)) (i : ℕ) (x : List ℕ) → drop i xs ≡ x ∷ l → get_or xs i [] ≡ x
head_at xs l i x e = let z : i ≡ i + 0 = omega arith in ap (λ (j : ℕ). get_or xs j []) z ∙ sym (get_or-drop i xs 0 []) ∙ ap (λ (y : List (List ℕ)). get_or y 0 []) e

-- there is one
head_in : (xs l : List (List ℕ)) (i : ℕ) (x : List ℕ) → drop i xs ≡ x ∷ l → i < length xs
head_in xs l i x e = let z = ap length e in omega (arith, length-drop i xs, z)

-- row j of the rows from place i on
nth_at : (xs a l : List (List ℕ)) (i j : ℕ) → drop i xs ≡ a ++ l → j < length a → get_or xs (i + j) [] ≡ get_or a j []
nth_at xs a l i j e h = sym (get_or-drop i xs j []) ∙ ap (λ (y : List (List ℕ)). get_or y j []) e ∙ get_or-append a l [] j h

fits_at : (v : ℕ) (ws : List (List ℕ)) → All (Fits (weight_row v)) ws → (j : ℕ) → j < length ws → get_or (get_or ws j []) 0 0 < v
fits_at v [] h j l = absurd (omega arith)
fits_at v ([] ∷ ws) h zero l = absurd h.0
fits_at v ((w ∷ x) ∷ ws) h zero l = ltb→lt w v h.0.1
fits_at v (w ∷ ws) h (suc j) l = fits_at v ws h.1 j (omega arith)

weights-step : (d : Data) (p below : ℕ) (n : Counts) → (with_node d n).weights ≡ n.weights + length (weights_of d.kind)
unfolding node_tables reached own_rows if
weights-step d p below n = (steps d p below n).1.1.1.1.1.0

-- ---- nodes, with the rows R in which theirs stand

module _ (R : Rows) (few : length (R 3) ≤ row_limit) where
  -- what the nodes below row p are told of bones is what the way up from p finds
  abbrev Upward : Option ℕ → ℕ → Type 0
  Upward none p = p ≡ NONE
  Upward (some v) p = (p ≡ NONE → ⊥) × ((c : ℕ) × Nearest (R 3) c p × (v ≡ mesh_vertices R c))

  abbrev Claim : ℕ → Type 0
  Claim r = kind_of (R 3) r ≡ 2 → (i : ℕ) → i < count_of (R 3) r → WeightNearest R r i

  -- a node at row n .nodes
  module _ (b v : ℕ) (d : Data) (p below : ℕ) (n : Counts) (S : Rows) (h : FitData b v d) (f : All (From R n (λ k. own_rows k d p below n ++ S k)) node_tables) where
    abbrev r : ℕ
    r = n.nodes

    row_is : get_or (R 3) r [] ≡ node_row d p below n
    unfolding node_tables reached own_rows if
    row_is = head_at (R 3) (S 3) r (node_row d p below n) f.0

    row_in : r < length (R 3)
    unfolding node_tables reached own_rows if
    row_in = head_in (R 3) (S 3) r (node_row d p below n) f.0

    abbrev cell : ℕ → List ℕ → ℕ
    cell i x = get_or x i 0

    parent_is : parent_of (R 3) r ≡ p
    parent_is = ap (cell 2) row_is ∙ parent_cell b v d p below n h

    anim_is : (a : Anim) → d.anim ≡ a → anim_of (R 3) r ≡ get_or (anim_cells a ++ (below ∷ [])) 0 0
    anim_is a e = ap (cell 16) row_is ∙ anim_cell b v d p below n h ∙ ap (λ (x : Anim). get_or (anim_cells x ++ (below ∷ [])) 0 0) e

    abbrev kinds_of : Kind → List ℕ
    kinds_of k = kind_cells k n ++ (anim_cells d.anim ++ (below ∷ []))

    module _ (k : Kind) (e : d.kind ≡ k) where
      kind-is : kind_of (R 3) r ≡ get_or (kinds_of k) 0 0
      kind-is = ap (cell 13) row_is ∙ kind_cell b v d p below n h ∙ ap (λ (x : Kind). get_or (kinds_of x) 0 0) e

      first_is : first_of (R 3) r ≡ get_or (kinds_of k) 1 0
      first_is = ap (cell 14) row_is ∙ first_cell b v d p below n h ∙ ap (λ (x : Kind). get_or (kinds_of x) 1 0) e

      count_is : count_of (R 3) r ≡ get_or (kinds_of k) 2 0
      count_is = ap (cell 15) row_is ∙ count_cell b v d p below n h ∙ ap (λ (x : Kind). get_or (kinds_of x) 2 0) e

      meshes-at : drop n.meshes (R 4) ≡ mesh_rows 4 (meshes_of k) n ++ S 4
      unfolding node_tables reached own_rows if
      meshes-at = f.1.0 ∙ ap (λ (x : Kind). mesh_rows 4 (meshes_of x) n ++ S 4) e

      weights-at : drop n.weights (R 8) ≡ weights_of k ++ S 8
      unfolding node_tables reached own_rows if
      weights-at = f.1.1.1.1.1.0 ∙ ap (λ (x : Kind). weights_of x ++ S 8) e

    -- the vertices of its own mesh
    own-by : (k : Kind) → d.kind ≡ k → mesh_vertices R r ≡ own_vertices k
    unfolding mesh_vertices kind_cells meshes_of mesh_rows mesh_row if
    own-by pivot e = let q : kind_of (R 3) r ≡ 0 = kind-is pivot e in rw q
    own-by (mesh m) e =
        let q : kind_of (R 3) r ≡ 1 = kind-is (mesh m) e in
        let g : first_of (R 3) r ≡ n.meshes = first_is (mesh m) e in
        let z : get_or (R 4) n.meshes [] ≡ mesh_row m n = head_at (R 4) (S 4) n.meshes (mesh_row m n) (meshes-at (mesh m) e) in
        rw (q, g, z)
    own-by (bone ws) e = let q : kind_of (R 3) r ≡ 2 = kind-is (bone ws) e in rw q

    not_none : r ≡ NONE → ⊥
    not_none e = omega (arith, row_in)

    -- what it tells the nodes below it
    down : (o : Option ℕ) → Upward o p → (a : Anim) → d.anim ≡ a → Upward (bone_limit_from o (animated a) (own_vertices d.kind)) r
    unfolding anim_cells
    down none u a e = (not_none, (r, itself r refl (inr (parent_is ∙ u)), sym (own-by d.kind refl)))
    down (some w) u (anim ws) e = (not_none, (r, itself r refl (inl (anim_is (anim ws) e)), sym (own-by d.kind refl)))
    down (some w) u no_anim e =
        (not_none, (u.1.0, above r (anim_is no_anim e) (λ z. u.0 (sym parent_is ∙ z)) (subst (Nearest (R 3) u.1.0) (sym parent_is) u.1.1), u.1.2))

    -- its own bone
    claim_by : (k : Kind) → d.kind ≡ k → FitKind b v k → kind_of (R 3) r ≡ 2 → (i : ℕ) → i < count_of (R 3) r → weight_id R r i < v
    unfolding kind_cells weights_of
    claim_by pivot e g two i l = let q : kind_of (R 3) r ≡ 0 = kind-is pivot e in absurd (omega arith)
    claim_by (mesh m) e g two i l = let q : kind_of (R 3) r ≡ 1 = kind-is (mesh m) e in absurd (omega arith)
    claim_by (bone ws) e g two i l =
        let c : count_of (R 3) r ≡ length ws = count_is (bone ws) e in
        let s : first_of (R 3) r ≡ n.weights = first_is (bone ws) e in
        let z : get_or (R 8) (n.weights + i) [] ≡ get_or ws i [] = nth_at (R 8) ws (S 8) n.weights i (weights-at (bone ws) e) (omega arith) in
        rw (s, z) (fits_at v ws g i (omega arith))

    -- its own weights
    owned_by : (k : Kind) → d.kind ≡ k → (w : ℕ) → n.weights ≤ w → w < n.weights + length (weights_of k) → WeightOf (R 3) w
    unfolding kind_cells weights_of
    owned_by pivot e w lo hi = absurd (omega arith)
    owned_by (mesh m) e w lo hi = absurd (omega arith)
    owned_by (bone ws) e w lo hi =
        let c : count_of (R 3) r ≡ length ws = count_is (bone ws) e in
        let s : first_of (R 3) r ≡ n.weights = first_is (bone ws) e in
        record { by = r; number = w - n.weights; row = row_in; kind = kind-is (bone ws) e; few = omega arith; is = omega arith }

    claim : (o : Option ℕ) → v ≡ bone_limit o → Upward o p → Claim r
    claim none e u two i l = let x = claim_by d.kind refl h.kind two i l in absurd (omega arith)
    claim (some w) e u two i l =
        let x = claim_by d.kind refl h.kind two i l in
        let c = u.1.0 in
        let up = subst (Nearest (R 3) c) (sym parent_is) u.1.1 in
        record { of = c; nearest = up; only = λ j k. nearest-one (R 3) j c (parent_of (R 3) r) k up; names = omega (arith, u.1.2) }

  -- what stands behind a forest
  from-forest : (t : Forest) (p : ℕ) (n : Counts) (S : Rows) → All (From R n (λ k. forest_rows k t p n ++ S k)) node_tables → All (From R (with_forest t n) S) node_tables
  from-forest t p n S f =
      all-zip (From R n (λ k. forest_rows k t p n ++ S k)) (Rise t p n) (From R (with_forest t n) S)
      (λ k e s. rw (s, ← drop-drop (length (forest_rows k t p n)) (reached k n) (R k), e) (drop-append_seam (forest_rows k t p n) (S k))) node_tables f (rises t p n)

  split_rows : (d : Data) (ch sib : Forest) (p : ℕ) (n : Counts) (S : Rows) → All (From R n (λ k. forest_rows k (node d ch sib) p n ++ S k)) node_tables
      → All (From R n (λ k. own_rows k d p (nodes_in ch) n ++ (forest_rows k ch n.nodes (with_node d n) ++ (forest_rows k sib p (with_forest ch (with_node d n)) ++ S k)))) node_tables
  unfolding forest_rows
  split_rows d ch sib p n S f =
      let m = with_node d n in
      all_map _ _
      (λ k e.
      let a = own_rows k d p (nodes_in ch) n in
      let x = forest_rows k ch n.nodes m in
      let y = forest_rows k sib p (with_forest ch m) in
      e ∙ append_assoc a (x ++ y) (S k) ∙ ap (λ (l : List (List ℕ)). a ++ l) (append_assoc x y (S k))) node_tables f

  forest_claims : (l b : ℕ) (o : Option ℕ) (t : Forest) (p : ℕ) (n : Counts) (S : Rows) → FitNodes l b o t → All (From R n (λ k. forest_rows k t p n ++ S k)) node_tables → Upward o p
      → (r : ℕ) → n.nodes ≤ r → r < (with_forest t n).nodes → Claim r
  unfolding with_forest
  forest_claims l b o no_nodes p n S g f u r lo hi = absurd (omega arith)
  forest_claims zero b o (node d ch sib) p n S g f u r lo hi = absurd g
  forest_claims (suc l) b o (node d ch sib) p n S g f u r lo hi =
      let m = with_node d n in
      let q = with_forest ch m in
      let es : m.nodes ≡ suc n.nodes = nodes-step d n in
      let rest : Rows = λ k. forest_rows k sib p q ++ S k in
      let all = split_rows d ch sib p n S f in
      let inner = from-after R n d p (nodes_in ch) (λ k. forest_rows k ch n.nodes m ++ rest k) all in
      let v = bone_limit o in
      by_test (leb m.nodes r)
      (λ y. by_test (ltb r q.nodes)
      (λ z. forest_claims l b (bone_limit_below o d) ch n.nodes m rest g.1 inner (down b v d p (nodes_in ch) n (λ k. forest_rows k ch n.nodes m ++ rest k) g.0 all o u d.anim refl) r (leb→le m.nodes r y) (ltb→lt r q.nodes z))
      (λ z. forest_claims (suc l) b o sib p q S g.2 (from-forest ch n.nodes m rest inner) u r (nltb→le r q.nodes z) hi))
      (λ y. let e : n.nodes ≡ r = omega (arith, nleb→lt m.nodes r y) in
      subst Claim e (claim b v d p (nodes_in ch) n (λ k. forest_rows k ch n.nodes m ++ rest k) g.0 all o refl u))

  forest_owners : (l b : ℕ) (o : Option ℕ) (t : Forest) (p : ℕ) (n : Counts) (S : Rows) → FitNodes l b o t → All (From R n (λ k. forest_rows k t p n ++ S k)) node_tables
      → (w : ℕ) → n.weights ≤ w → w < (with_forest t n).weights → WeightOf (R 3) w
  unfolding with_forest
  forest_owners l b o no_nodes p n S g f w lo hi = absurd (omega arith)
  forest_owners zero b o (node d ch sib) p n S g f w lo hi = absurd g
  forest_owners (suc l) b o (node d ch sib) p n S g f w lo hi =
      let m = with_node d n in
      let q = with_forest ch m in
      let rest : Rows = λ k. forest_rows k sib p q ++ S k in
      let all = split_rows d ch sib p n S f in
      let inner = from-after R n d p (nodes_in ch) (λ k. forest_rows k ch n.nodes m ++ rest k) all in
      let es : m.weights ≡ n.weights + length (weights_of d.kind) = weights-step d p (nodes_in ch) n in
      by_test (leb m.weights w)
      (λ y. by_test (ltb w q.weights)
      (λ z. forest_owners l b (bone_limit_below o d) ch n.nodes m rest g.1 inner w (leb→le m.weights w y) (ltb→lt w q.weights z))
      (λ z. forest_owners (suc l) b o sib p q S g.2 (from-forest ch n.nodes m rest inner) w (nltb→le w q.weights z) hi))
      (λ y. owned_by b (bone_limit o) d p (nodes_in ch) n (λ k. forest_rows k ch n.nodes m ++ rest k) g.0 all d.kind refl w lo (omega (arith, nleb→lt m.weights w y)))

-- ---- the tables of a file

module _ (mode : Mode) (s : List ℕ) (bytes : AllBytes s) (t : Scene) (e : judge mode s ≡ accept t) where
  few_nodes : length (rows 3 t) ≤ row_limit
  unfolding tables node_tables
  few_nodes = (judge_got mode s t e).1.1.1.0

  fitting : FitNodes levels (length t.brushes) none t.nodes
  fitting = (fine mode s t bytes (judge_got mode s t e).0).0.nodes

  standing : All (From (λ k. rows k t) start (λ k. forest_rows k t.nodes NONE start ++ [])) node_tables
  unfolding node_tables rows if start reached
  standing =
      let whole : (k : ℕ) → forest_rows k t.nodes NONE start ≡ forest_rows k t.nodes NONE start ++ [] = λ k. sym (append-nil (forest_rows k t.nodes NONE start)) in
      (whole 3, (whole 4, (whole 5, (whole 6, (whole 7, (whole 8, (whole 9, (whole 10, tt))))))))

  all_claims : (r : ℕ) → r < length (rows 3 t) → Claim (λ k. rows k t) few_nodes r
  unfolding node_tables rows if start reached
  all_claims r h = forest_claims (λ k. rows k t) few_nodes levels (length t.brushes) none t.nodes NONE start (λ k. []) fitting standing refl r (omega arith) (omega (arith, (rises t.nodes NONE start).0))

  all_owners : (w : ℕ) → w < length (rows 8 t) → WeightOf (rows 3 t) w
  unfolding node_tables rows if start reached
  all_owners w h = forest_owners (λ k. rows k t) few_nodes levels (length t.brushes) none t.nodes NONE start (λ k. []) fitting standing w (omega arith) (omega (arith, (rises t.nodes NONE start).1.1.1.1.1.0))

pub bones-nearest : (mode : Mode) (s : List ℕ) → AllBytes s → BonesNearest mode s
bones-nearest mode s bytes = record { bones = all_claims mode s bytes; each = all_owners mode s bytes }
