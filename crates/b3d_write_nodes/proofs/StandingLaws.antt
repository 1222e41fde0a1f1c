-- Nodes that stand in tables: the first of them, those below it, those after it, and that no count passes the rows that are there.
use mathlib.Core.Path.{◌≡◌, ap, ◌∙◌, subst}
use Prim.Native.Nat.{ℕ, zero, suc, ◌+◌, ◌-◌, ◌≤◌}
use native.Mathlib.Omega.{arith}
use mathlib.Core.Option.{Option}
use mathlib.Core.List.{List, [], ◌++◌}
use lib.ListN.{length, drop, length-append, length-drop}
use Rattle.layout.specs.Parts.{Name}
use Rattle.layout.proofs.AllLaws.{All, all-zip}
use Rattle.b3d_spec.specs.declared.Counts.{Counts}
use Rattle.b3d_spec.specs.Rebuild.{Rows, node_names}
use Rattle.b3d_spec.specs.Rules.{bone_limit_below, bone_limit}
use Rattle.b3d_spec.specs.Scene.{Data, Forest, no_nodes, node}
use Rattle.b3d_spec.specs.Tables.{reached, own_rows, with_node, with_forest, forest_rows, node_tables, nodes_in}
use Rattle.b3d_spec.proofs.WellFormedLaws.{FitData, FitNodes}
use Rattle.b3d_spec.proofs.Rows.NodeRowLaws.{From, steps, nodes-step}
use Rattle.b3d_spec.proofs.Rows.RebuildLaws.{names-rest}
use Rattle.b3d_spec.proofs.Rows.RowPartLaws.{Stands}
use Rattle.b3d_spec.proofs.Rows.TreeLaws.{nodes_rise, from-after}
use Rattle.b3d_spec.proofs.Rows.CountLaws.{rises}
use Rattle.b3d_check_spec.proofs.BelowLaws.{Here, after_own, here-own, here-children, here-siblings}
use Rattle.b3d_write_nodes.specs.Walk.{There, Stand, First, NodePlaced}

-- ---- names and rules

names-before : (P : Name → Type 0) (t : Forest) (r u : List Name) → All P (node_names t r) → All P u → All P (node_names t u)
unfolding node_names
names-before P no_nodes r u h k = k
names-before P (node d ch sib) r u h k =
    (h.0, names-before P ch (node_names sib r) (node_names sib u) h.1 (names-before P sib r u (names-rest P ch (node_names sib r) h.1) k))

one_more : (l : ℕ) (b : ℕ) (above : Option ℕ) (d : Data) (f g : Forest) → FitNodes l b above (node d f g) → l ≡ suc (l - 1)
one_more zero b above d f g h = absurd h
one_more (suc l) b above d f g h = omega arith

fit_level : (l b : ℕ) (above : Option ℕ) (d : Data) (f g : Forest) → FitNodes l b above (node d f g) → FitNodes (suc (l - 1)) b above (node d f g)
fit_level l b above d f g h = subst (λ (m : ℕ). FitNodes m b above (node d f g)) (one_more l b above d f g h) h

fit-alone : (l b : ℕ) (above : Option ℕ) (d : Data) (f g : Forest) → FitNodes l b above (node d f g) → FitNodes l b above (node d f no_nodes)
fit-alone zero b above d f g h = h
fit-alone (suc l) b above d f g h = (h.0, h.1, tt)

fit-others : (l b : ℕ) (above : Option ℕ) (d : Data) (f g : Forest) → FitNodes l b above (node d f g) → FitNodes l b above g
fit-others zero b above d f g h = absurd h
fit-others (suc l) b above d f g h = h.2

-- ---- counts

-- where rows a stand after n rows, as many more rows are there
more-there : (x y t : ℕ) (a b c : List (List ℕ)) → x ≤ t → length c ≡ t - x → c ≡ a ++ b → y ≡ x + length a → y ≤ t
more-there x y t a b c h l e s = let q = ap length e ∙ length-append a b in omega arith

there-after : (R : Rows) (n m : Counts) (A B : Rows) → There R n → All (From R n (λ k. A k ++ B k)) node_tables → All (λ k. reached k m ≡ reached k n + length (A k)) node_tables → There R m
there-after R n m A B h f s =
    all-zip (λ k. reached k n ≤ length (R k)) (λ k. (drop (reached k n) (R k) ≡ A k ++ B k) × (reached k m ≡ reached k n + length (A k))) _
    (λ k a c. more-there (reached k n) (reached k m) (length (R k)) (A k) (B k) (drop (reached k n) (R k)) a (length-drop (reached k n) (R k)) c.0 c.1) node_tables h
    (all-zip (From R n (λ k. A k ++ B k)) (λ k. reached k m ≡ reached k n + length (A k)) _ (λ k a c. (a, c)) node_tables f s)

-- ---- the first node, those after it, those below it

module _ (ns : List ℕ) (R : Rows) (l b : ℕ) (above : Option ℕ) (d : Data) (ch sib : Forest) (p : ℕ) (n : Counts) (S : Rows) where
  -- the counts after the first node, and after those below it
  module _ (h : Here R (node d ch sib) p n S) (t : There R n) where
    there-own : There R (with_node d n)
    there-own = there-after R n (with_node d n) (λ k. own_rows k d p (nodes_in ch) n) (after_own d ch sib p n S) t (here-own R d ch sib p n S h) (steps d p (nodes_in ch) n)

    there-below : There R (with_forest ch (with_node d n))
    there-below =
        there-after R (with_node d n) (with_forest ch (with_node d n)) (λ k. forest_rows k ch n.nodes (with_node d n)) (λ k. forest_rows k sib p (with_forest ch (with_node d n)) ++ S k) there-own
        (from-after R n d p (nodes_in ch) (after_own d ch sib p n S) (here-own R d ch sib p n S h)) (rises ch n.nodes (with_node d n))

  pub stand-first : Stand ns R l b above (node d ch sib) p n S → First ns R l b above d ch sib p n S
  unfolding node_names
  stand-first h = record {
    here = h.here;
    there = h.there;
    below = here-children R d ch sib p n S h.here h.low;
    fits = fit-alone l b above d ch sib h.fits;
    names = (h.names.0, names-before (Stands ns) ch (node_names sib []) [] h.names.1 tt);
  }

  pub stand-others : Stand ns R l b above (node d ch sib) p n S → Stand ns R l b above sib p (with_forest ch (with_node d n)) S
  unfolding node_names
  stand-others h =
      let e : (with_node d n).nodes ≡ suc n.nodes = nodes-step d n in
      let r : (with_node d n).nodes ≤ (with_forest ch (with_node d n)).nodes = nodes_rise ch (with_node d n) in
      record {
        here = here-siblings R d ch sib p n S h.here;
        low = omega (arith, h.low);
        there = there-below h.here h.there;
        fits = fit-others l b above d ch sib h.fits;
        names = names-rest (Stands ns) ch (node_names sib []) h.names.1;
      }

  -- the first of them as a node that stands there
  abbrev pub first-placed : Stand ns R l b above (node d ch sib) p n S → NodePlaced ns R l n
  first-placed h = record { brushes = b; above = above; own = d; children = ch; siblings = sib; parent = p; after = S; stand = stand-first h }

-- ---- a node that stands there

module _ (ns : List ℕ) (R : Rows) (l : ℕ) (n : Counts) (x : NodePlaced ns R l n) where
  pub placed-levels : 1 ≤ l
  placed-levels = let e = one_more l x.brushes x.above x.own x.children no_nodes x.stand.fits in omega arith

  pub placed-there : There R (with_node x.own n)
  placed-there = there-own ns R l x.brushes x.above x.own x.children x.siblings x.parent n x.after x.stand.here x.stand.there

  -- the rows after those below it
  abbrev pub later : Rows
  later k = forest_rows k x.siblings x.parent (with_forest x.children (with_node x.own n)) ++ x.after k

  pub placed_below : Stand ns R (l - 1) x.brushes (bone_limit_below x.above x.own) x.children n.nodes (with_node x.own n) later
  unfolding node_names
  placed_below = record {
    here = x.stand.below;
    low = omega (arith, nodes-step x.own n);
    there = placed-there;
    fits = (fit_level l x.brushes x.above x.own x.children no_nodes x.stand.fits).1;
    names = x.stand.names.1;
  }

  pub placed-fits : FitData x.brushes (bone_limit x.above) x.own
  placed-fits = (fit_level l x.brushes x.above x.own x.children no_nodes x.stand.fits).0

  pub placed-name : Stands ns x.own.name
  unfolding node_names
  placed-name = x.stand.names.0
