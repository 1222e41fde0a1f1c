-- Nodes in file order with their parents: the tree comes back from the parents, the nodes from the rows.
use mathlib.Core.Path.{◌≡◌, refl, ap, sym, ◌∙◌, subst}
use mathlib.Core.Logic.{◌≢◌}
use Prim.Native.Nat.{ℕ, suc, ◌≤◌, ◌<◌}
use native.Mathlib.Omega.{arith}
use mathlib.Core.List.{List, [], ◌∷◌, ◌++◌, append_assoc}
use lib.ListN.{length, get_or}
use lib.Seq.{drop-append_seam, drop-drop}
use lib.Dec.{eqb, eqb_refl}
use mir.Facts.{no_eqb}
use Rattle.wire.specs.Test.{if}
use Rattle.layout.specs.Rules.{NONE}
use Rattle.layout.proofs.AllLaws.{All, all-zip}
use Rattle.layout.proofs.ResultLaws.{if_yes, if_no}
use Rattle.layout.specs.Rows.{name_cells}
use Rattle.b3d_spec.specs.Rebuild.{Rows, data_from, Placed, walk, Group, Off, off, groups, tree}
use Rattle.b3d_spec.specs.Scene.{Keys, Data, Forest, no_nodes, node}
use Rattle.b3d_spec.specs.Tables.{start, reached, node_tables, node_row, list_rows, own_rows, with_node, with_forest, forest_rows, nodes_in}
use Rattle.b3d_spec.specs.declared.Counts.{Counts}
use Rattle.b3d_spec.proofs.WellFormedLaws.{FitData}
use Rattle.b3d_spec.proofs.Rows.NodeRowLaws.{Step, steps, nodes-step, From, data_back}
use Rattle.b3d_spec.proofs.Rows.RowPartLaws.{Stands, Others, below_cell}

-- the nodes of a forest under p, when n rows came before, and then others
unfoldable pub flat : ℕ → Counts → Forest → List Placed → List Placed
flat p n no_nodes r = r
flat p n (node d ch sib) r =
    let m = with_node d n in
    record { parent = p; below = nodes_in ch; item = d } ∷ flat n.nodes m ch (flat p (with_forest ch m) sib r)

-- table k's rows of such nodes
unfoldable pub flat_rows : List Placed → Counts → Rows
flat_rows [] n k = []
flat_rows (x ∷ r) n k = own_rows k x.item x.parent x.below n ++ flat_rows r (with_node x.item n) k

pub flat_rows_append : (k p : ℕ) (n : Counts) (t : Forest) (r : List Placed) → flat_rows (flat p n t r) n k ≡ forest_rows k t p n ++ flat_rows r (with_forest t n) k
unfolding flat flat_rows forest_rows with_forest
flat_rows_append k p n no_nodes r = refl
flat_rows_append k p n (node d ch sib) r =
    let m = with_node d n in
    let a = forest_rows k ch n.nodes m in
    let b = forest_rows k sib p (with_forest ch m) in
    let z = flat_rows r (with_forest sib (with_forest ch m)) k in
    let e : a ++ flat_rows (flat p (with_forest ch m) sib r) (with_forest ch m) k ≡ (a ++ b) ++ z =
    ap (λ (l : List (List ℕ)). a ++ l) (flat_rows_append k p (with_forest ch m) sib r) ∙ sym (append_assoc a b z) in
    ap (λ (l : List (List ℕ)). own_rows k d p (nodes_in ch) n ++ l) (flat_rows_append k n.nodes m ch (flat p (with_forest ch m) sib r) ∙ e)
    ∙ sym (append_assoc (own_rows k d p (nodes_in ch) n) (a ++ b) z)

-- ---- parents against a forest

put : ℕ → Forest → List Group → List Group
put p no_nodes gs = gs
put p (node d ch sib) gs = record { of = p; nodes = node d ch sib } ∷ gs

abbrev Below : ℕ → List Group → Type 0
Below p [] = Unit {0}
Below p (g ∷ gs) = g.of < p

off-below : (p : ℕ) (gs : List Group) → Below p gs → off p gs ≡ record { took = no_nodes; left = gs }
unfolding off
off-below p [] h = refl
off-below p (g ∷ gs) h =
    let d : g.of ≢ p = omega arith in
    if_no (eqb g.of p) (record { took = g.nodes; left = gs }) _ (no_eqb d)

off-put : (p : ℕ) (t : Forest) (gs : List Group) → Below p gs → off p (put p t gs) ≡ record { took = t; left = gs }
unfolding put off
off-put p no_nodes gs h = off-below p gs h
off-put p (node d ch sib) gs h = if_yes (eqb p p) _ (record { took = no_nodes; left = record { of = p; nodes = node d ch sib } ∷ gs }) (eqb_refl p)

below_put : (p i : ℕ) (t : Forest) (gs : List Group) → p < i → Below p gs → Below i (put p t gs)
unfolding put
below_put p i no_nodes [] le h = tt
below_put p i no_nodes (g ∷ gs) le h = omega arith
below_put p i (node d ch sib) gs le h = le

pub nodes_rise : (t : Forest) (n : Counts) → n.nodes ≤ (with_forest t n).nodes
unfolding with_forest
nodes_rise no_nodes n = omega arith
nodes_rise (node d ch sib) n =
    let m = with_node d n in
    omega (arith, nodes-step d n, nodes_rise ch m, nodes_rise sib (with_forest ch m))

groups-flat : (p : ℕ) (n : Counts) (t : Forest) (r : List Placed) → p < n.nodes → Below p (groups (with_forest t n).nodes r)
    → groups n.nodes (flat p n t r) ≡ put p t (groups (with_forest t n).nodes r)
unfolding groups flat put with_forest
groups-flat p n no_nodes r le h = refl
groups-flat p n (node d ch sib) r le h =
    let m = with_node d n in
    let q = with_forest ch m in
    let z = groups (with_forest sib q).nodes r in
    let es : m.nodes ≡ suc n.nodes = nodes-step d n in
    let ri : m.nodes ≤ q.nodes = nodes_rise ch m in
    let eu : groups q.nodes (flat p q sib r) ≡ put p sib z = groups-flat p q sib r (omega arith) h in
    let b : Below n.nodes (put p sib z) = below_put p n.nodes sib z le h in
    let et : groups m.nodes (flat n.nodes m ch (flat p q sib r)) ≡ put n.nodes ch (groups q.nodes (flat p q sib r)) =
    groups-flat n.nodes m ch (flat p q sib r) (omega arith) (subst (Below n.nodes) (sym eu) b) in
    let ef : groups (suc n.nodes) (flat n.nodes m ch (flat p q sib r)) ≡ put n.nodes ch (put p sib z) =
    ap (λ (i : ℕ). groups i (flat n.nodes m ch (flat p q sib r))) (sym es) ∙ et ∙ ap (put n.nodes ch) eu in
    rw (ef, off-put n.nodes ch (put p sib z) b, off-put p sib z h)

root-groups : (m : Counts) (ch : Forest) → 0 < m.nodes → groups m.nodes (flat 0 m ch []) ≡ put 0 ch []
unfolding groups
root-groups m ch le = groups-flat 0 m ch [] le tt

pub tree-flat : (d : Data) (ch : Forest) → tree (flat NONE start (node d ch no_nodes) []) ≡ node d ch no_nodes
unfolding tree flat start
tree-flat d ch =
    let m = with_node d start in
    let es : m.nodes ≡ 1 = nodes-step d start in
    let e : groups 1 (flat 0 m ch []) ≡ put 0 ch [] = ap (λ (i : ℕ). groups i (flat 0 m ch [])) (sym es) ∙ root-groups m ch (omega arith) in
    ap (λ (f : Forest). node d f no_nodes) (ap (λ (g : List Group). (off 0 g).took) e ∙ ap (λ (o : Off). o.took) (off-put 0 ch [] tt))

-- nothing is left over
pub none_over : (m : Counts) (ch : Forest) → m.nodes ≡ 1 → (off 0 (groups 1 (flat 0 m ch []))).left ≡ []
none_over m ch es =
    let e : groups 1 (flat 0 m ch []) ≡ put 0 ch [] = ap (λ (i : ℕ). groups i (flat 0 m ch [])) (sym es) ∙ root-groups m ch (omega arith) in
    ap (λ (g : List Group). (off 0 g).left) e ∙ ap (λ (o : Off). o.left) (off-put 0 ch [] tt)

-- ---- nodes against rows

-- what follows a node in table k, where From says what stands there
pub from-after : (R : Rows) (n : Counts) (d : Data) (p below : ℕ) (S : Rows) → All (From R n (λ k. own_rows k d p below n ++ S k)) node_tables → All (From R (with_node d n) S) node_tables
from-after R n d p below S f =
    all-zip (From R n (λ k. own_rows k d p below n ++ S k)) (Step d p below n) (From R (with_node d n) S)
    (λ k e s.
    rw (s, ← drop-drop (length (own_rows k d p below n)) (reached k n) (R k), e) (drop-append_seam (own_rows k d p below n) (S k)))
    node_tables f (steps d p below n)

others-list : (i j k : ℕ) (xs : List Keys) (rs : List (List ℕ)) → i < j → Others i rs → Others i (list_rows j k xs ++ rs)
unfolding list_rows
others-list i j k [] rs le h = h
others-list i j k (x ∷ xs) rs le h = omega arith

-- key lists of later nodes are not those of node i
pub others-later : (i : ℕ) (fs : List Placed) (n : Counts) → i < n.nodes → Others i (flat_rows fs n 9)
unfolding flat_rows own_rows if
others-later i [] n le = tt
others-later i (x ∷ fs) n le =
    let m = with_node x.item n in
    let es : m.nodes ≡ suc n.nodes = nodes-step x.item n in
    others-list i n.nodes n.keys x.item.keys (flat_rows fs m 9) le (others-later i fs m (omega arith))

-- a node that fits, with its name in ns
abbrev pub Known : List ℕ → ℕ → Placed → Type 0
Known ns b x = (c : ℕ) × (FitData b c x.item × Stands ns x.item.name)

parent_cell : (d : Data) (p below : ℕ) (n : Counts) → get_or (node_row d p below n) 2 0 ≡ p
unfolding node_row name_cells
parent_cell d p below n = refl

walk-node : (ns : List ℕ) (b : ℕ) (R : Rows) (x : Placed) (fs : List Placed) (n : Counts) → Known ns b x
    → All (From R n (λ k. own_rows k x.item x.parent x.below n ++ flat_rows fs (with_node x.item n) k)) node_tables
    → walk ns R (flat_rows fs (with_node x.item n) 3) (with_node x.item n) ≡ fs
    → walk ns R (own_rows 3 x.item x.parent x.below n ++ flat_rows fs (with_node x.item n) 3) n ≡ x ∷ fs
unfolding walk own_rows if
walk-node ns b R x fs n h f ih =
    let d = x.item in
    let m = with_node d n in
    let es : m.nodes ≡ suc n.nodes = nodes-step d n in
    let ed : data_from ns R (node_row d x.parent x.below n) n ≡ d = data_back ns b h.0 R (flat_rows fs m) n d x.parent x.below h.1.0 h.1.1 f (others-later n.nodes fs m (omega arith)) in
    rw (ed, ih, parent_cell d x.parent x.below n, below_cell b h.0 d x.parent x.below n h.1.0)

pub walk-back : (ns : List ℕ) (b : ℕ) (R : Rows) (fs : List Placed) (n : Counts) → All (Known ns b) fs → All (From R n (flat_rows fs n)) node_tables
    → walk ns R (flat_rows fs n 3) n ≡ fs
unfolding walk flat_rows
walk-back ns b R [] n h f = refl
walk-back ns b R (x ∷ fs) n h f = walk-node ns b R x fs n h.0 f (walk-back ns b R fs (with_node x.item n) h.1 (from-after R n x.item x.parent x.below (flat_rows fs (with_node x.item n)) f))
