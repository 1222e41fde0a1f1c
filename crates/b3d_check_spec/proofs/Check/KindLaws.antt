-- What the tests on a node's name, kind and animation say.
use mathlib.Core.Path.{◌≡◌, refl, ap, sym, ◌∙◌, subst}
use Prim.Native.Nat.{ℕ, ◌+◌, ◌≤◌, ◌<◌}
use native.Mathlib.Omega.{arith}
use mathlib.Core.Bool.{Bool, ◌&&◌}
use mathlib.Core.List.{List, [], ◌∷◌}
use lib.ListN.{length, take, drop, get_or, length-take, length-drop}
use lib.Seq.{get_or-take}
use lib.Dec.{ltb, eqb, eqb→eq}
use Rattle.wire.specs.Bytes.{AllBytes}
use Rattle.wire.specs.Test.{if}
use Rattle.wire.proofs.WordLaws.{take-bytes, drop-bytes}
use Rattle.layout.specs.Parts.{Name}
use Rattle.layout.proofs.WellFormedLaws.{FitText}
use Rattle.layout.proofs.AllLaws.{All, all_map}
use Rattle.layout.proofs.TestLaws.{Tests, both, via, le_is, lt-is, eq_is, all-is}
use Rattle.b3d_spec.specs.Rebuild.{name_from, mesh_from, anim_from, Rows, kind_from}
use Rattle.b3d_spec.specs.Rules.{weight_row}
use Rattle.b3d_spec.specs.Scene.{Kind, pivot, mesh, bone, Anim}
use Rattle.b3d_spec.specs.Tables.{meshes_of, weights_of, kind_cells, anim_cells, mesh_row, mesh_rows}
use Rattle.b3d_spec.specs.declared.Counts.{Counts}
use Rattle.b3d_spec.proofs.WellFormedLaws.{FitKind, FitAnim}
use Rattle.b3d_spec.proofs.Rows.RowPartLaws.{Stands}
use Rattle.b3d_check_spec.specs.Check.{rows_valid, name_valid, mesh_valid, kind_valid, anim_valid, keeps}
use Rattle.b3d_check_spec.proofs.Check.TestLaws.{yes-if, then, all-on, if-both, same-is}
use Rattle.b3d_check_spec.proofs.Check.RowLaws.{Begins, take_begins, all_take, all_drop, take-is, Full, full-drop, cells, cells-take, cells-front, keeps-is, any-fits}
use Rattle.b3d_check_spec.proofs.Check.MeshLaws.{mesh-is}

-- ---- names

-- the name fits, stands in ns, and is as long as its row says
abbrev pub NameIs : List ℕ → List ℕ → Name → Type 0
NameIs ns x nm = FitText nm.bytes × Stands ns nm × (length nm.bytes ≡ get_or x 1 0)

text-fits : (bs : List ℕ) → All (λ (b : ℕ). 0 < b) bs → AllBytes bs → FitText bs
text-fits [] h w = tt
text-fits (b ∷ bs) h w = ((h.0, w.0), text-fits bs h.1 w.1)

pub name_is : (ns x : List ℕ) → AllBytes ns → Tests (name_valid ns x) (NameIs ns x (name_from ns x))
unfolding name_valid name_from
name_is ns x wn =
    let p = get_or x 0 0 in
    let c = get_or x 1 0 in
    let bs = take c (drop p ns) in
    let ld = length-drop p ns in
    let lt = length-take c (drop p ns) in
    via
    (λ h.
    let le : p + c ≤ length ns = h.0 in
    let l : length bs ≡ c = omega arith in
    (text-fits bs h.1 (take-bytes c (drop p ns) (drop-bytes p ns wn)), (subst (λ (k : ℕ). p + k ≤ length ns) (sym l) le, ap (λ (k : ℕ). take k (drop p ns)) l), l))
    (λ h. (subst (λ (k : ℕ). p + k ≤ length ns) h.2 h.1.0, all_map (λ b. (0 < b) × (b < 256)) (λ b. 0 < b) (λ b k. k.0) bs h.0))
    (both (le_is (p + c) (length ns)) (all-is (λ b. lt-is 0 b) bs))

-- ---- kinds

-- the rows of tables 4 to 10 are whole, and their cells words
pub record Whole (R : Rows) : Type 0 where
  pub meshes : All (Full 9) (R 4)
  pub vertices : All (Full 42) (R 5)
  pub sets : All (Full 4) (R 6)
  pub triangles : All (Full 3) (R 7)
  pub weights : All (Full 2) (R 8)
  pub lists : All (Full 4) (R 9)
  pub keys : All (Full 11) (R 10)

-- kind, first and count in y are those of k, which fits, and tables 4 to 8 go on with its rows
abbrev pub KindIs : ℕ → ℕ → Rows → Counts → List ℕ → Kind → Type 0
KindIs b c R n y k =
    (kind_cells k n ≡ take 3 y)
    × FitKind b c k
    × Begins (mesh_rows 4 (meshes_of k) n) (drop n.meshes (R 4))
    × Begins (mesh_rows 5 (meshes_of k) n) (drop n.vertices (R 5))
    × Begins (mesh_rows 6 (meshes_of k) n) (drop n.sets (R 6))
    × Begins (mesh_rows 7 (meshes_of k) n) (drop n.triangles (R 7))
    × Begins (weights_of k) (drop n.weights (R 8))

three-to : (a b c : ℕ) (y : List ℕ) → 3 ≤ length y → get_or y 0 0 ≡ a → get_or y 1 0 ≡ b → get_or y 2 0 ≡ c → (a ∷ b ∷ c ∷ []) ≡ take 3 y
unfolding cells
three-to a b c y w e₀ e₁ e₂ = cc (cells-take y 3 w)

pub three-from : (l y : List ℕ) → l ≡ take 3 y → (j : ℕ) → j < 3 → get_or y j 0 ≡ get_or l j 0
three-from l y e j h = sym (get_or-take 3 y j 0 h) ∙ ap (λ (z : List ℕ). get_or z j 0) (sym e)

-- a list begins with a just where it has a first and that is a
first_to : (a : List ℕ) (l : List (List ℕ)) → 0 < length l → a ≡ get_or l 0 [] → Begins (a ∷ []) l
first_to a [] h e = absurd (omega arith)
first_to a (x ∷ l) h e = (e, tt)

pub first-from : (a : List ℕ) (l : List (List ℕ)) → Begins (a ∷ []) l → (0 < length l) × (a ≡ get_or l 0 [])
first-from a [] h = absurd h
first-from a (x ∷ l) h = (omega arith, h.0)

all_first : (P : List ℕ → Type 0) (l : List (List ℕ)) → 0 < length l → All P l → P (get_or l 0 [])
all_first P [] h k = absurd (omega arith)
all_first P (x ∷ l) h k = k.0

module _ (b c : ℕ) (R : Rows) (n : Counts) (y : List ℕ) (whole : Whole R) (wide : length y ≡ 8) where
  abbrev l : List (List ℕ)
  l = drop n.meshes (R 4)

  mesh-kind : get_or y 0 0 ≡ 1
      → Tests (eqb (get_or y 1 0) n.meshes && (eqb (get_or y 2 0) 1 && (ltb 0 (length l)
      && mesh_valid b n (get_or l 0 []) (drop n.vertices (R 5)) (drop n.sets (R 6)) (drop n.triangles (R 7)))))
      (KindIs b c R n y (mesh (mesh_from (get_or l 0 []) (drop n.vertices (R 5)) (drop n.sets (R 6)) (drop n.triangles (R 7)))))
  unfolding kind_cells mesh_rows meshes_of weights_of if
  mesh-kind e =
      let x = get_or l 0 [] in
      let vs = drop n.vertices (R 5) in
      let ss = drop n.sets (R 6) in
      let ts = drop n.triangles (R 7) in
      let m = mesh_from x vs ss ts in
      via
      (λ h.
      let i = h.1.1.1 in
      (three-to 1 n.meshes 1 y (omega arith) e h.0 h.1.0, i.1, first_to (mesh_row m n) l h.1.1.0 i.0, i.2, i.3, i.4, tt))
      (λ h.
      let t = three-from (1 ∷ n.meshes ∷ 1 ∷ []) y h.0 in
      let o = first-from (mesh_row m n) l h.2 in
      (t 1 (omega arith), (t 2 (omega arith), (o.0, (o.1, h.1, h.3, h.4, h.5)))))
      (both (eq_is (get_or y 1 0) n.meshes) (both (eq_is (get_or y 2 0) 1) (then (lt-is 0 (length l)) (λ h.
      mesh-is b n x vs ss ts (all_first (Full 9) l h (all_drop (Full 9) n.meshes (R 4) whole.meshes)) (all_drop (Full 42) n.vertices (R 5) whole.vertices)
      (all_drop (Full 4) n.sets (R 6) whole.sets) (all_drop (Full 3) n.triangles (R 7) whole.triangles)))))

  bone-kind : get_or y 0 0 ≡ 2
      → Tests (eqb (get_or y 1 0) n.weights && rows_valid (keeps (weight_row c)) (get_or y 2 0) (drop n.weights (R 8)))
      (KindIs b c R n y (bone (take (get_or y 2 0) (drop n.weights (R 8)))))
  unfolding kind_cells mesh_rows meshes_of weights_of rows_valid
  bone-kind e =
      let r = drop n.weights (R 8) in
      let k = get_or y 2 0 in
      let ws = take k r in
      via
      (λ h. (three-to 2 n.weights (length ws) y (omega arith) e h.0 (sym h.1.0), h.1.1, tt, tt, tt, tt, take_begins k ws r refl))
      (λ h.
      let t = three-from (2 ∷ n.weights ∷ length ws ∷ []) y h.0 in
      (t 1 (omega arith), (sym (t 2 (omega arith)), h.1)))
      (both (eq_is (get_or y 1 0) n.weights) (both (take-is k r) (all-on (Full 2) (keeps-is (weight_row c)) ws (all_take (Full 2) k r (all_drop (Full 2) n.weights (R 8) whole.weights)))))

  pivot-kind : Tests (eqb (get_or y 0 0) 0 && (eqb (get_or y 1 0) 0 && eqb (get_or y 2 0) 0)) (KindIs b c R n y pivot)
  unfolding kind_cells mesh_rows meshes_of weights_of
  pivot-kind =
      via
      (λ h. (three-to 0 0 0 y (omega arith) h.0 h.1.0 h.1.1, tt, tt, tt, tt, tt, tt))
      (λ h.
      let t = three-from (0 ∷ 0 ∷ 0 ∷ []) y h.0 in
      (t 0 (omega arith), (t 1 (omega arith), t 2 (omega arith))))
      (both (eq_is (get_or y 0 0) 0) (both (eq_is (get_or y 1 0) 0) (eq_is (get_or y 2 0) 0)))

  pub kind-is : Tests (kind_valid b c R n y) (KindIs b c R n y (kind_from R n (get_or y 0 0) (get_or y 2 0)))
  unfolding kind_valid kind_from
  kind-is =
      let is : Bool → Kind → Type 0 = λ a k. Tests a (KindIs b c R n y k) in
      if-both is (eqb (get_or y 0 0) 1) _ _ _ _ (λ h. mesh-kind (eqb→eq (get_or y 0 0) 1 h))
      (λ h. if-both is (eqb (get_or y 0 0) 2) _ _ _ _ (λ k. bone-kind (eqb→eq (get_or y 0 0) 2 k)) (λ k. pivot-kind))

-- ---- animation

abbrev pub AnimIs : List ℕ → Anim → Type 0
AnimIs z a = (anim_cells a ≡ z) × FitAnim a

pub anim_is : (z : List ℕ) → Full 4 z → Tests (anim_valid z) (AnimIs z (anim_from z))
unfolding anim_valid anim_from anim_cells cells
anim_is z w =
    if-both (λ a k. Tests a (AnimIs z k)) (eqb (get_or z 0 0) 1) _ _ _ _
    (λ h. yes-if (ap (λ (k : ℕ). k ∷ drop 1 z) (sym (eqb→eq (get_or z 0 0) 1 h)) ∙ cells-front z 1 (omega arith), any-fits 3 (drop 1 z) (full-drop 1 3 z w)))
    (λ h. via (λ k. (k, tt)) (λ k. k.0) (same-is 0 4 z w.0))
