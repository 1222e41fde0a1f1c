-- What the tests on all node rows say: the rows are those of the nodes that come from them, each fits, and none is left.
use mathlib.Core.Path.{◌≡◌, ap, sym, ◌∙◌, subst}
use Prim.Native.Nat.{ℕ, suc, ◌+◌, ◌<◌}
use native.Mathlib.Omega.{arith}
use mathlib.Core.Bool.{◌&&◌}
use mathlib.Core.Logic.{◌↔◌}
use mathlib.Core.Option.{some}
use mathlib.Core.List.{List, [], ◌∷◌, ◌++◌}
use lib.ListN.{length, drop, get_or, length-drop, drop_of_length-le}
use lib.Seq.{drop-drop}
use lib.Dec.{leb, ltb}
use Rattle.wire.specs.Bytes.{AllBytes}
use Rattle.wire.specs.Test.{if}
use Rattle.layout.proofs.AllLaws.{All, all_map, all-zip}
use Rattle.layout.proofs.TestLaws.{Tests, both, via, no-is, le_is, lt-is, eq_is, all-is}
use Rattle.b3d_spec.specs.Rebuild.{Rows, data_from, Placed, walk}
use Rattle.b3d_spec.specs.Rules.{bone_limit, bone_limit_below, levels}
use Rattle.b3d_spec.specs.Scene.{Data}
use Rattle.b3d_spec.specs.Tables.{start, reached, node_row, own_rows, with_node, part_tables, node_tables, node_width}
use Rattle.b3d_spec.specs.declared.Counts.{Counts}
use Rattle.b3d_spec.proofs.WellFormedLaws.{FitData}
use Rattle.b3d_spec.proofs.Rows.NodeRowLaws.{Step, steps, nodes-step, From}
use Rattle.b3d_spec.proofs.Rows.RowPartLaws.{Stands}
use Rattle.b3d_spec.proofs.Rows.TreeLaws.{flat_rows, from-after}
use Rattle.b3d_check_spec.specs.CellCounts.{cell_counts, cell_bone_limit}
use Rattle.b3d_check_spec.specs.Check.{node_valid, spent, Level, up_to, bone_limit_of, all_end, end_from, nodes_valid}
use Rattle.b3d_check_spec.proofs.Check.TestLaws.{then}
use Rattle.b3d_check_spec.proofs.Check.RowLaws.{Begins, begins-is, is-begins, Full}
use Rattle.b3d_check_spec.proofs.Check.KindLaws.{Whole}
use Rattle.b3d_check_spec.proofs.Check.NodeLaws.{OwnBegins, NodeIs, node-is}
use Rattle.b3d_check_spec.proofs.Check.CountLaws.{cell-counts, cell_bones}

-- ---- before any row, and when no row is left

pub at-start : (R S : Rows) → All (From R start S) node_tables ↔ All (λ k. R k ≡ S k) node_tables
unfolding node_tables reached start if
at-start R S = (λ h. h, λ h. h)

spent-is : (R : Rows) (n : Counts) → Tests (spent R n) (All (λ k. drop (reached k n) (R k) ≡ []) part_tables)
unfolding spent
spent-is R n = all-is (λ k. none_left (R k) (reached k n)) part_tables
  where
    none_left : (l : List (List ℕ)) (m : ℕ) → Tests (leb (length l) m) (drop m l ≡ [])
    none_left l m = via (λ h. drop_of_length-le l h) (λ e. let z : length (drop m l) ≡ 0 = ap length e in omega (arith, length-drop m l)) (le_is (length l) m)

-- ---- a node and then others

-- a node that fits, its weights naming at most c vertices, with its name in ns
abbrev pub FitsIn : List ℕ → ℕ → ℕ → Data → Type 0
FitsIn ns b c d = FitData b c d × Stands ns d.name

module _ (R : Rows) (n : Counts) (d : Data) (p below : ℕ) (S : Rows) where
  walk-to : All (OwnBegins R n d p below) node_tables → All (From R (with_node d n) S) node_tables → All (From R n (λ k. own_rows k d p below n ++ S k)) node_tables
  walk-to b f =
      all-zip (OwnBegins R n d p below) (λ k. Step d p below n k × From R (with_node d n) S k) (From R n (λ k. own_rows k d p below n ++ S k))
      (λ k a g.
      let own = own_rows k d p below n in
      begins-is own (drop (reached k n) (R k)) a
      ∙ ap (λ (l : List (List ℕ)). own ++ l) (drop-drop (length own) (reached k n) (R k) ∙ ap (λ (j : ℕ). drop j (R k)) (sym g.0) ∙ g.1))
      node_tables b (all-zip (Step d p below n) (From R (with_node d n) S) _ (λ k x y. (x, y)) node_tables (steps d p below n) f)

  walk_from : All (From R n (λ k. own_rows k d p below n ++ S k)) node_tables → All (OwnBegins R n d p below) node_tables
  walk_from f = all_map (From R n (λ k. own_rows k d p below n ++ S k)) (OwnBegins R n d p below) (λ k e. subst (Begins (own_rows k d p below n)) (sym e) (is-begins (own_rows k d p below n) (S k))) node_tables f

-- the node's row is the next of the node rows
module _ (ns : List ℕ) (b c : ℕ) (R : Rows) (x : List ℕ) (xs : List (List ℕ)) (n : Counts) (d : Data) (next : drop n.nodes (R 3) ≡ x ∷ xs) where
  pub after : drop (with_node d n).nodes (R 3) ≡ xs
  after =
      let s : (with_node d n).nodes ≡ n.nodes + 1 = omega (arith, nodes-step d n) in
      ap (λ (k : ℕ). drop k (R 3)) s ∙ sym (drop-drop 1 n.nodes (R 3)) ∙ ap (λ (l : List (List ℕ)). drop 1 l) next

  module _ (S : Rows) where
    -- with the rows after it, table by table
    abbrev pub NextIs : Type 0
    NextIs = FitsIn ns b c d × All (From R n (λ k. own_rows k d (get_or x 2 0) (get_or x 20 0) n ++ S k)) node_tables

    pub next-to : NodeIs ns b c R x n d → All (From R (with_node d n) S) node_tables → NextIs
    unfolding node_tables reached own_rows if
    next-to h f = ((h.1, h.2), walk-to R n d (get_or x 2 0) (get_or x 20 0) S (subst (Begins (node_row d (get_or x 2 0) (get_or x 20 0) n ∷ [])) (sym next) (h.0, tt), h.3) f)

    pub next-from : NextIs → NodeIs ns b c R x n d × All (From R (with_node d n) S) node_tables
    unfolding node_tables reached own_rows if
    next-from h =
        let o = walk_from R n d (get_or x 2 0) (get_or x 20 0) S h.1 in
        (((subst (Begins (node_row d (get_or x 2 0) (get_or x 20 0) n ∷ [])) next o.0).0, h.0.0, h.0.1, o.1), from-after R n d (get_or x 2 0) (get_or x 20 0) S h.1)

-- ---- all nodes

-- what a node says of bones to those below, where it was told so many vertices
abbrev pub said : ℕ → Data → ℕ
said told d = bone_limit (bone_limit_below (some told) d)

-- node d, number i, with its end below the first of a path: it is not too deep, it fits what is said there of bones, and so do the nodes after it
abbrev pub ToldAt : ℕ → Data → ℕ → ℕ → (List Level → Type 0) → List Level → Type 0
ToldAt b d i end rest [] = ⊥
ToldAt b d i end rest (q ∷ qs) = (suc (length qs) < levels) × (FitData b q.bones d × rest (record { node = i; end = end; bones = said q.bones d } ∷ q ∷ qs))

-- all nodes of a path end at row i
abbrev pub EndAt : ℕ → List Level → Type 0
EndAt i path = All (λ (q : Level). q.end ≡ i) path

-- nodes from number i on: each has its parent on the path
abbrev pub Told : ℕ → List Level → ℕ → List Placed → Type 0
Told b path i [] = EndAt i path
Told b path i (x ∷ fs) = ToldAt b x.item i (i + 1 + x.below) (λ p. Told b p (suc i) fs) (up_to i x.parent path)

-- the name of each is in ns
abbrev pub NamedIn : List ℕ → List Placed → Type 0
NamedIn ns fs = All (λ (x : Placed). Stands ns x.item.name) fs

abbrev pub WalkIs : List ℕ → ℕ → Rows → List Level → Counts → List Placed → Type 0
WalkIs ns b R path n fs = Told b path n.nodes fs × (NamedIn ns fs × All (From R n (flat_rows fs n)) node_tables)

module _ (ns : List ℕ) (b : ℕ) (R : Rows) (bytes : AllBytes ns) (whole : Whole R) where
  -- a node below the first of q, and those after it
  walk_step : (x : List ℕ) (xs : List (List ℕ)) (n : Counts) → Full node_width x → drop n.nodes (R 3) ≡ x ∷ xs
      → ((path : List Level) (m : Counts) → drop m.nodes (R 3) ≡ xs → Tests (nodes_valid ns b R path xs m) (WalkIs ns b R path m (walk ns R xs m)))
      → (q : List Level)
      → Tests (ltb 0 (length q) && (ltb (length q) levels && (node_valid ns b (bone_limit_of q) R x n
      && nodes_valid ns b R (record { node = n.nodes; end = end_from n.nodes x; bones = cell_bone_limit (bone_limit_of q) R x n } ∷ q) xs (cell_counts R x n))))
      (ToldAt b (data_from ns R x n) n.nodes (end_from n.nodes x) (λ p. Told b p (suc n.nodes) (walk ns R xs (with_node (data_from ns R x n) n))) q
      × (NamedIn ns (record { parent = get_or x 2 0; below = get_or x 20 0; item = data_from ns R x n } ∷ walk ns R xs (with_node (data_from ns R x n) n))
      × All (From R n (flat_rows (record { parent = get_or x 2 0; below = get_or x 20 0; item = data_from ns R x n } ∷ walk ns R xs (with_node (data_from ns R x n) n)) n)) node_tables))
  unfolding flat_rows bone_limit_of
  walk_step x xs n w e rest [] = via (λ h. absurd h) (λ h. absurd h.0) no-is
  walk_step x xs n w e rest (r ∷ rs) =
      let c = r.bones in
      let d = data_from ns R x n in
      let m = with_node d n in
      let fs = walk ns R xs m in
      let k = suc (length rs) in
      let path : ℕ → List Level = λ v. record { node = n.nodes; end = end_from n.nodes x; bones = v } ∷ r ∷ rs in
      via
      (λ h.
      let t = h.1.1 in
      let z = next-to ns b c R x xs n d e (flat_rows fs m) t.0 t.1.1.1 in
      ((h.1.0, (z.0.0, subst (λ (i : ℕ). Told b (path (said c d)) i fs) (nodes-step d n) t.1.0)), ((z.0.1, t.1.1.0), z.1)))
      (λ h.
      let z = next-from ns b c R x xs n d e (flat_rows fs m) ((h.0.1.0, h.1.0.0), h.1.1) in
      (omega arith, (h.0.0, (z.0, (subst (λ (i : ℕ). Told b (path (said c d)) i fs) (sym (nodes-step d n)) h.0.1.1, (h.1.0.1, z.1))))))
      (both (lt-is 0 k) (both (lt-is k levels) (then (node-is ns b c R x n w bytes whole) (λ h.
      subst (λ (v : ℕ). Tests (nodes_valid ns b R (path v) xs (cell_counts R x n)) (WalkIs ns b R (path (said c d)) m fs)) (ap bone_limit (cell_bones ns b c R x n h c))
      (subst (λ (j : Counts). Tests (nodes_valid ns b R (path (said c d)) xs j) (WalkIs ns b R (path (said c d)) m fs)) (cell-counts ns b c R x n h)
      (rest (path (said c d)) m (after ns b c R x xs n d e)))))))

  pub walk_is : (xs : List (List ℕ)) (path : List Level) (n : Counts) → All (Full node_width) xs → drop n.nodes (R 3) ≡ xs → Tests (nodes_valid ns b R path xs n) (WalkIs ns b R path n (walk ns R xs n))
  unfolding nodes_valid all_end walk flat_rows node_tables reached if
  walk_is [] path n w e = via (λ h. (h.0, (tt, (e, h.1)))) (λ h. (h.0, h.1.1.1)) (both (all-is (λ (q : Level). eq_is q.end n.nodes) path) (spent-is R n))
  walk_is (x ∷ xs) path n w e = walk_step x xs n w.0 e (λ p m g. walk_is xs p m w.1 g) (up_to n.nodes (get_or x 2 0) path)
