-- What the tests on a mesh and on a node's key lists say: the rows are those of the part that comes from them, and the part fits.
use mathlib.Core.Path.{◌≡◌, refl, ap, sym, ◌∙◌, subst}
use Prim.Native.Nat.{ℕ, ◌<◌}
use native.Mathlib.Omega.{arith}
use mathlib.Core.List.{List, [], ◌∷◌, map}
use lib.ListN.{length, take, get_or, length-map}
use Rattle.layout.proofs.WellFormedLaws.{Fits}
use Rattle.layout.proofs.AllLaws.{All}
use Rattle.layout.proofs.TestLaws.{Tests, both, via, lt-is, eq_is}
use Rattle.b3d_spec.specs.Mask.{padded, present_words, vertex_mask, key_mask}
use Rattle.b3d_spec.specs.Rebuild.{sets_from, mesh_from}
use Rattle.b3d_spec.specs.Rules.{vertex_flags, sets, set_size, key_flags, brush_id, vertices_head, triangle_row}
use Rattle.b3d_spec.specs.Tables.{mesh_row, vertex_rows, set_rows, triangle_rows}
use Rattle.b3d_spec.specs.declared.Counts.{Counts}
use Rattle.b3d_spec.proofs.WellFormedLaws.{FitTriangles, FitMesh, FitKeys}
use Rattle.b3d_spec.proofs.Rows.RowPartLaws.{sets-length}
use Rattle.b3d_check_spec.specs.Check.{rows_valid, groups_valid, set_valid, mesh_valid, key_list_valid}
use Rattle.b3d_check_spec.proofs.Check.TestLaws.{all-on}
use Rattle.b3d_check_spec.proofs.Check.RowLaws.{Begins, begins-take, take_begins, all_take, take-is, Full, cell_word, cells, cells_are, keeps-is, one_is}
use Rattle.b3d_check_spec.proofs.Check.MaskLaws.{masked_is, vertex-wide, key-wide, vertices-fit, keys-fit}
use Rattle.b3d_check_spec.proofs.Check.GroupLaws.{RunsAre, runs_length, runs_is, sets_run, sets_law, lists_run, lists_law}

pub lists-is : (i k : ℕ) (xs ks : List (List ℕ)) → All (λ x. Full 4 x × (get_or x 0 0 ≡ i)) xs → All (Full 11) ks → Tests (groups_valid key_list_valid k xs ks) (RunsAre lists_run FitKeys i k xs ks)
unfolding key_list_valid
lists-is i k =
    runs_is lists_run lists_law FitKeys i 11 (λ x. Full 4 x × (get_or x 0 0 ≡ i)) key_list_valid (λ x f. f.0.0)
    (λ x l f w. via (λ h. (f.1, (h.0, keys-fit (get_or x 1 0) l w h.0), h.1)) (λ h. (h.1.0, h.2))
    (both (one_is key_flags (get_or x 1 0) (cell_word 4 1 x f.0 (omega arith))) (masked_is (key_mask (get_or x 1 0)) 11 (key-wide (get_or x 1 0)) l w)))
    k

sets_are : (b v i r : ℕ) (xs ts : List (List ℕ)) → All (Full 4) xs → All (Full 3) ts → Tests (groups_valid (set_valid b v i) r xs ts) (RunsAre sets_run (FitTriangles b v) i r xs ts)
unfolding set_valid
sets_are b v i r =
    runs_is sets_run sets_law (FitTriangles b v) i 3 (Full 4) (set_valid b v i) (λ x f. f.0)
    (λ x l f w. via (λ h. (h.0, h.1, refl)) (λ h. (h.0, h.1))
    (both (eq_is (get_or x 0 0) i) (both (one_is (brush_id b) (get_or x 1 0) (cell_word 4 1 x f (omega arith))) (all-on (Full 3) (keeps-is (triangle_row v)) l w))))
    r

abbrev pub MeshIs : ℕ → Counts → List ℕ → List (List ℕ) → List (List ℕ) → List (List ℕ) → Type 0
MeshIs b n x vs ss ts =
    let m = mesh_from x vs ss ts in
    (mesh_row m n ≡ x) × FitMesh b m × Begins (vertex_rows m) vs × Begins (set_rows n.meshes n.triangles m.triangle_sets) ss × Begins (triangle_rows m.triangle_sets) ts

nine_cells : (a b c d e f g h i : ℕ) (x : List ℕ) → length x ≡ 9 → get_or x 0 0 ≡ a → get_or x 1 0 ≡ b → get_or x 2 0 ≡ c → get_or x 3 0 ≡ d → get_or x 4 0 ≡ e
    → get_or x 5 0 ≡ f → get_or x 6 0 ≡ g → get_or x 7 0 ≡ h → get_or x 8 0 ≡ i → (a ∷ b ∷ c ∷ d ∷ e ∷ f ∷ g ∷ h ∷ i ∷ []) ≡ x
unfolding cells
nine_cells a b c d e f g h i x w e₀ e₁ e₂ e₃ e₄ e₅ e₆ e₇ e₈ = cc (cells_are x 9 w)

pub mesh-is : (b : ℕ) (n : Counts) (x : List ℕ) (vs ss ts : List (List ℕ)) → Full 9 x → All (Full 42) vs → All (Full 4) ss → All (Full 3) ts
    → Tests (mesh_valid b n x vs ss ts) (MeshIs b n x vs ss ts)
unfolding mesh_valid rows_valid mesh_from mesh_row vertex_rows
mesh-is b n x vs ss ts w wv ws wt =
    let f = get_or x 2 0 in
    let s = get_or x 3 0 in
    let z = get_or x 4 0 in
    let c = get_or x 6 0 in
    let k = get_or x 8 0 in
    let mask = vertex_mask f s z in
    let vx = take c vs in
    let wx = all_take (Full 42) c vs wv in
    let mv = map (present_words mask) vx in
    let lv : length mv ≡ length vx = length-map vx (present_words mask) in
    let sx = take k ss in
    let S = sets_from sx ts in
    let l_s : length S ≡ length sx = runs_length sets_run sets_law sx ts in
    let word : (j : ℕ) → j < 9 → _ = λ j. cell_word 9 j x w in
    via
    (λ h.
    let (e₀, (h₁, (h₂, (h₃, (h₄, (e₅, ((lc, hv), (e₇, (h₈, (lk, hs)))))))))) = h in
    let head : Fits vertices_head (f ∷ s ∷ z ∷ []) = (h₂.0, h₂.1, (h₃.0, h₃.1, h₄)) in
    let l : length S ≡ k = l_s ∙ lk in
    let m : length mv ≡ c = lv ∙ lc in (
      nine_cells n.nodes (get_or x 1 0) f s z n.vertices (length mv) n.sets (length S) x w.0 e₀ refl refl refl refl e₅ (sym m) e₇ (sym l),
      record {
        brush = h₁;
        head = head;
        vertices = vertices-fit f s z vx wx head;
        triangles = subst (λ (j : ℕ). All (FitTriangles b j) S) (sym m) hs.1;
        some_set = subst (λ (j : ℕ). 0 < j) (sym l) h₈;
      },
      take_begins c (map (padded mask) mv) vs hv,
      take_begins k (set_rows n.meshes n.triangles S) ss hs.0,
      hs.2,
    ))
    (λ h.
    let cell : (j : ℕ) → get_or (mesh_row (mesh_from x vs ss ts) n) j 0 ≡ get_or x j 0 = λ j. ap (λ (y : List ℕ). get_or y j 0) h.0 in
    let g = h.1 in
    let m : length mv ≡ c = cell 6 in
    let l : length S ≡ k = cell 8 in
    let q = g.head in
    let ev = begins-take (map (padded mask) mv) vs c (length-map mv (padded mask) ∙ m) h.2 in
    let es = begins-take (set_rows n.meshes n.triangles S) ss k (sets-length n.meshes n.triangles S ∙ l) h.3 in
    let ft = subst (λ (j : ℕ). All (FitTriangles b j) S) m g.triangles in
    let some = subst (λ (j : ℕ). 0 < j) l g.some_set in
    (sym (cell 0), (g.brush, ((q.0, q.1, tt), ((q.2.0, q.2.1, tt), (q.2.2, (sym (cell 5), ((sym lv ∙ m, ev), (sym (cell 7), (some, (sym l_s ∙ l, (es, ft, h.4))))))))))))
    (both (eq_is (get_or x 0 0) n.nodes) (both (one_is (brush_id b) (get_or x 1 0) (word 1 (omega arith)))
    (both (one_is vertex_flags f (word 2 (omega arith))) (both (one_is sets s (word 3 (omega arith))) (both (one_is set_size z (word 4 (omega arith)))
    (both (eq_is (get_or x 5 0) n.vertices) (both (both (take-is c vs) (masked_is mask 42 (vertex-wide f s z) vx wx))
    (both (eq_is (get_or x 7 0) n.sets) (both (lt-is 0 k) (both (take-is k ss)
    (sets_are b c n.meshes n.triangles sx ts (all_take (Full 4) k ss ws) wt)))))))))))
