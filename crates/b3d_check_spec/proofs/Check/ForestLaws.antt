-- What the tests on all nodes say: the tree that is put together fits, and its rows are all the rows.
use mathlib.Core.Path.{◌≡◌, refl, ap, sym, ◌∙◌, subst}
use Prim.Native.Nat.{ℕ}
use native.Mathlib.Omega.{arith}
use mathlib.Core.Option.{none}
use mathlib.Core.List.{List, [], ◌∷◌, append-nil}
use lib.ListN.{drop, get_or}
use Rattle.wire.specs.Bytes.{AllBytes}
use Rattle.layout.specs.Parts.{Name}
use Rattle.layout.specs.Rules.{NONE}
use Rattle.layout.proofs.AllLaws.{All, all_map, cons_head, cons_tail}
use Rattle.layout.proofs.TestLaws.{Tests, both, via, eq_is}
use Rattle.b3d_spec.specs.Rebuild.{Rows, data_from, Placed, walk, off, groups, tree, node_names}
use Rattle.b3d_spec.specs.Rules.{bone_limit, bone_limit_below, levels}
use Rattle.b3d_spec.specs.Scene.{Data, Forest, no_nodes, node}
use Rattle.b3d_spec.specs.Tables.{start, with_node, with_forest, forest_rows, node_tables, node_width, nodes_in}
use Rattle.b3d_spec.specs.declared.Counts.{Counts}
use Rattle.b3d_spec.proofs.WellFormedLaws.{FitNodes, OneRoot}
use Rattle.b3d_spec.proofs.Rows.NodeRowLaws.{nodes-step, From}
use Rattle.b3d_spec.proofs.Rows.RebuildLaws.{names-rest, flat-known}
use Rattle.b3d_spec.proofs.Rows.RowPartLaws.{Stands}
use Rattle.b3d_spec.proofs.Rows.TreeLaws.{flat, flat_rows, flat_rows_append, none_over, walk-back}
use Rattle.b3d_check_spec.specs.CellCounts.{cell_counts}
use Rattle.b3d_check_spec.specs.Check.{Level, all_end, end_from, nodes_valid, tree_valid}
use Rattle.b3d_check_spec.proofs.Check.TestLaws.{then}
use Rattle.b3d_check_spec.proofs.Check.RowLaws.{Full}
use Rattle.b3d_check_spec.proofs.Check.KindLaws.{Whole}
use Rattle.b3d_check_spec.proofs.Check.NodeLaws.{NodeIs, node-is}
use Rattle.b3d_check_spec.proofs.Check.CountLaws.{cell-counts, root-bones}
use Rattle.b3d_check_spec.proofs.Check.WalkLaws.{at-start, next-to, next-from, after, Told, NamedIn, WalkIs, walk_is}
use Rattle.b3d_check_spec.proofs.Check.ParentLaws.{children-flat, children-right, children-to, children-from}

-- ---- the names of a forest, and of its nodes one by one

module _ (ns : List ℕ) where
  flat-names : (t : Forest) (p : ℕ) (n : Counts) (r : List Name) (fs : List Placed) → NamedIn ns (flat p n t fs)
      → (All (Stands ns) r → All (Stands ns) (node_names t r)) × NamedIn ns fs
  unfolding flat node_names
  flat-names no_nodes p n r fs h = (λ s. s, h)
  flat-names (node d ch sib) p n r fs h =
      let m = with_node d n in
      let q = with_forest ch m in
      let x = flat-names ch n.nodes m (node_names sib r) (flat p q sib fs) h.1 in
      let y = flat-names sib p q r fs x.1 in
      (λ s. (h.0, x.0 (y.0 s)), y.1)

  names-flat : (t : Forest) (p : ℕ) (n : Counts) (r : List Name) (fs : List Placed) → All (Stands ns) (node_names t r) → NamedIn ns fs → NamedIn ns (flat p n t fs)
  unfolding flat node_names
  names-flat no_nodes p n r fs s h = h
  names-flat (node d ch sib) p n r fs s h =
      let m = with_node d n in
      let q = with_forest ch m in
      (s.0, names-flat ch n.nodes m (node_names sib r) (flat p q sib fs) s.1 (names-flat sib p q r fs (names-rest (Stands ns) ch (node_names sib r) s.1) h))

-- ---- the tree

abbrev pub TreeIs : List ℕ → ℕ → Rows → Forest → Type 0
TreeIs ns b R t = FitNodes levels b none t × OneRoot t × All (Stands ns) (node_names t []) × All (λ k. forest_rows k t NONE start ≡ R k) node_tables

-- the rows of the tree are those of its nodes one by one
flat-all : (k : ℕ) (t : Forest) → flat_rows (flat NONE start t []) start k ≡ forest_rows k t NONE start
unfolding flat_rows
flat-all k t = flat_rows_append k NONE start t [] ∙ append-nil (forest_rows k t NONE start)

start-to : (R : Rows) (t : Forest) → All (From R start (flat_rows (flat NONE start t []) start)) node_tables → All (λ k. forest_rows k t NONE start ≡ R k) node_tables
start-to R t h = all_map (λ k. R k ≡ flat_rows (flat NONE start t []) start k) _ (λ k e. sym (e ∙ flat-all k t)) node_tables ((at-start R _).0 h)

start-from : (R : Rows) (t : Forest) → All (λ k. forest_rows k t NONE start ≡ R k) node_tables → All (From R start (flat_rows (flat NONE start t []) start)) node_tables
start-from R t h = (at-start R _).1 (all_map (λ k. forest_rows k t NONE start ≡ R k) _ (λ k e. sym (flat-all k t ∙ e)) node_tables h)

node-rows : (R S : Rows) → All (λ k. R k ≡ S k) node_tables → R 3 ≡ S 3
unfolding node_tables
node-rows R S h = h.0

first_rows : (R : Rows) (xs : List (List ℕ)) → R 3 ≡ xs → drop start.nodes (R 3) ≡ xs
unfolding start
first_rows R xs e = e

module _ (ns : List ℕ) (b : ℕ) (R : Rows) (x : List ℕ) (xs : List (List ℕ)) (d : Data) (fs : List Placed) (next : R 3 ≡ x ∷ xs) where
  abbrev p : ℕ
  p = get_or x 2 0

  -- how many nodes it says are below it
  abbrev many : ℕ
  many = get_or x 20 0

  -- what the root says of bones
  abbrev below : ℕ
  below = bone_limit (bone_limit_below none d)

  abbrev ch : Forest
  ch = (off 0 (groups 1 fs)).took

  abbrev Root : Type 0
  Root = (p ≡ NONE) × (NodeIs ns b (bone_limit none) R x start d × WalkIs ns b R (record { node = 0; end = end_from 0 x; bones = below } ∷ []) (with_node d start) fs)

  one-node : (with_node d start).nodes ≡ 1
  unfolding start
  one-node = nodes-step d start

  -- the root and what is flat below it
  flat-to : p ≡ NONE → many ≡ nodes_in ch → fs ≡ flat 0 (with_node d start) ch [] → record { parent = p; below = many; item = d } ∷ fs ≡ flat NONE start (node d ch no_nodes) []
  unfolding flat start
  flat-to e c f = λ i. record { parent = e i; below = c i; item = d } ∷ f i

  flat-from : record { parent = p; below = many; item = d } ∷ fs ≡ flat NONE start (node d ch no_nodes) [] → (p ≡ NONE) × (many ≡ nodes_in ch) × (fs ≡ flat 0 (with_node d start) ch [])
  unfolding flat start
  flat-from e = (ap (λ (y : Placed). y.parent) (cons_head e), ap (λ (y : Placed). y.below) (cons_head e), cons_tail e)

  root-to : Root → TreeIs ns b R (node d ch no_nodes)
  unfolding node_names flat_rows
  root-to h =
      let m = with_node d start in
      let wk = h.1.1 in
      let kids = children-to b (end_from 0 x) below fs (subst (λ (i : ℕ). Told b (record { node = 0; end = end_from 0 x; bones = below } ∷ []) i fs) one-node wk.0) in
      let fl : flat 0 m ch [] ≡ fs = children-flat fs m one-node kids.1 kids.3 in
      let names = flat-names ns ch 0 m [] [] (subst (NamedIn ns) (sym fl) wk.1.0) in
      let nx = next-to ns b (bone_limit none) R x xs start d (first_rows R (x ∷ xs) next) (flat_rows fs m) h.1.0 wk.1.1 in
      let parts = subst (λ (l : List Placed). All (From R start (flat_rows l start)) node_tables) (flat-to h.0 (omega (arith, kids.2)) (sym fl)) nx.1 in
      ((nx.0.0, kids.0, tt), tt, (nx.0.1, names.0 tt), start-to R (node d ch no_nodes) parts)

  root-from : walk ns R (x ∷ xs) start ≡ record { parent = p; below = many; item = d } ∷ fs → TreeIs ns b R (node d ch no_nodes) → Root
  unfolding node_names flat_rows
  root-from w h =
      let t = node d ch no_nodes in
      let m = with_node d start in
      let fr = start-from R t h.3 in
      let back = walk-back ns b R (flat NONE start t []) start (flat-known ns levels b none t NONE start [] [] h.0 h.2 tt) fr in
      let e = sym w ∙ ap (λ (l : List (List ℕ)). walk ns R l start) (sym next ∙ node-rows R _ ((at-start R _).0 fr)) ∙ back in
      let (ep, em, ef) = flat-from e in
      let parts = subst (λ (l : List Placed). All (From R start (flat_rows l start)) node_tables) (sym e) fr in
      let nx = next-from ns b (bone_limit none) R x xs start d (first_rows R (x ∷ xs) next) (flat_rows fs m) ((h.0.0, h.2.0), parts) in
      let names = subst (NamedIn ns) (sym ef) (names-flat ns ch 0 m [] [] h.2.1 tt) in
      let over = ap (λ (l : List Placed). (off 0 (groups 1 l)).left) ef ∙ none_over m ch one-node in
      let told = children-from b (end_from 0 x) below fs (h.0.1, over, omega (arith, em), children-right fs m one-node over (sym ef)) in
      (ep, (nx.0, (subst (λ (i : ℕ). Told b (record { node = 0; end = end_from 0 x; bones = below } ∷ []) i fs) (sym one-node) told, (names, nx.1))))

pub tree_is : (ns : List ℕ) (b : ℕ) (R : Rows) (xs : List (List ℕ)) → AllBytes ns → Whole R → All (Full node_width) xs → R 3 ≡ xs → Tests (tree_valid ns b R xs) (TreeIs ns b R (tree (walk ns R xs start)))
unfolding tree_valid nodes_valid all_end tree walk node_names flat flat_rows
tree_is ns b R [] bytes whole w e = via (λ h. (tt, tt, tt, start-to R no_nodes h.1.1)) (λ h. (tt, (tt, start-from R no_nodes h.3))) (walk_is ns b R bytes whole [] [] start tt (first_rows R [] e))
tree_is ns b R (x ∷ xs) bytes whole w e =
    let d = data_from ns R x start in
    let m = with_node d start in
    let v = bone_limit (bone_limit_below none d) in
    let fs = walk ns R xs m in
    let path : ℕ → List Level = λ k. record { node = 0; end = end_from 0 x; bones = k } ∷ [] in
    via (root-to ns b R x xs d fs e) (root-from ns b R x xs d fs e refl)
    (both (eq_is (get_or x 2 0) NONE) (then (node-is ns b (bone_limit none) R x start w.0 bytes whole) (λ h.
    subst (λ (k : ℕ). Tests (nodes_valid ns b R (path k) xs (cell_counts R x start)) (WalkIs ns b R (path v) m fs)) (ap bone_limit (root-bones ns b (bone_limit none) R x h))
    (subst (λ (q : Counts). Tests (nodes_valid ns b R (path v) xs q) (WalkIs ns b R (path v) m fs)) (cell-counts ns b (bone_limit none) R x start h)
    (walk_is ns b R bytes whole xs (path v) m w.1 (after ns b (bone_limit none) R x xs start d (first_rows R (x ∷ xs) e)))))))
