-- How code walks the rows of a scene: where a forest's rows begin in every table, when its nodes end, and what counts come next.
use mathlib.Core.Path.{◌≡◌, refl, ap, sym, ◌∙◌, subst}
use mathlib.Core.Logic.{◌≢◌, ◌⊎◌, inl, inr}
use Prim.Native.Nat.{ℕ, suc, ◌+◌, ◌≤◌, ◌<◌}
use native.Mathlib.Omega.{arith}
use mathlib.Core.List.{List, [], ◌∷◌, ◌++◌, append_assoc, append-nil}
use lib.ListN.{length, drop, get_or}
use lib.Seq.{drop-append_seam, drop-drop}
use Rattle.wire.specs.Test.{if}
use Rattle.layout.specs.Rules.{NONE}
use Rattle.layout.proofs.AllLaws.{All, all_map, all-zip}
use Rattle.layout.specs.Rows.{name_cells}
use Rattle.b3d_spec.specs.Rebuild.{Rows, data_from}
use Rattle.b3d_spec.specs.Scene.{Keys, Data, Forest, no_nodes, node}
use Rattle.b3d_spec.specs.Tables.{start, reached, node_row, list_rows, own_rows, with_node, with_forest, forest_rows, node_tables, nodes_in}
use Rattle.b3d_spec.specs.declared.Counts.{Counts}
use Rattle.b3d_spec.proofs.WellFormedLaws.{FitData}
use Rattle.b3d_spec.proofs.Rows.CountLaws.{Rise, rises}
use Rattle.b3d_spec.proofs.Rows.NodeRowLaws.{nodes-step, From, data_back}
use Rattle.b3d_spec.proofs.Rows.RowPartLaws.{Stands, Others, below_cell}
use Rattle.b3d_spec.proofs.Rows.TreeLaws.{nodes_rise, from-after}
pub use Rattle.b3d_check_spec.specs.Below.{Above, Later, Here}
use Rattle.b3d_check_spec.specs.CellCounts.{cell_counts, end_of}
use Rattle.b3d_check_spec.proofs.Check.NodeLaws.{NodeIs}
use Rattle.b3d_check_spec.proofs.Check.CountLaws.{cell-counts}
use Rattle.b3d_check_spec.proofs.Check.WalkLaws.{at-start, next-from}

-- what follows the own rows of a node
abbrev pub after_own : Data → Forest → Forest → ℕ → Counts → Rows → Rows
after_own d ch sib p n S k = forest_rows k ch n.nodes (with_node d n) ++ (forest_rows k sib p (with_forest ch (with_node d n)) ++ S k)

-- ---- nodes above, key lists of later nodes

above_sib : (p i : ℕ) (t : Forest) (n : Counts) (S : Rows) → p < i ⊎ p ≡ NONE → Above i (S 3) → Above i (forest_rows 3 t p n ++ S 3)
unfolding forest_rows own_rows node_row name_cells if
above_sib p i no_nodes n S h a = a
above_sib p i (node d ch sib) n S h a = h

above_up : (p i : ℕ) (l : List (List ℕ)) → p ≤ i → Above p l → Above i l
above_up p i [] le h = tt
above_up p i (x ∷ l) le h = elim h [ inl a ↦ inl (omega arith) | inr b ↦ inr b ]

later_down : (i j : ℕ) (l : List (List ℕ)) → i ≤ j → Later j l → Later i l
later_down i j [] le h = tt
later_down i j (x ∷ l) le h = omega arith

later-list : (i j k : ℕ) (xs : List Keys) (l : List (List ℕ)) → i ≤ j → Later i l → Later i (list_rows j k xs ++ l)
unfolding list_rows
later-list i j k [] l le h = h
later-list i j k (x ∷ xs) l le h = le

later-forest : (i : ℕ) (t : Forest) (p : ℕ) (n : Counts) (l : List (List ℕ)) → i ≤ n.nodes → Later i l → Later i (forest_rows 9 t p n ++ l)
unfolding forest_rows own_rows if
later-forest i no_nodes p n l le h = h
later-forest i (node d ch sib) p n l le h =
    let m = with_node d n in
    let q = with_forest ch m in
    let c = forest_rows 9 ch n.nodes m in
    let s = forest_rows 9 sib p q in
    let es : m.nodes ≡ suc n.nodes = nodes-step d n in
    let ri : m.nodes ≤ q.nodes = nodes_rise ch m in
    rw (append_assoc (list_rows n.nodes n.keys d.keys) (c ++ s) l, append_assoc c s l)
    (later-list i n.nodes n.keys d.keys (c ++ (s ++ l)) le (later-forest i ch n.nodes m (s ++ l) (omega arith) (later-forest i sib p q l (omega arith) h)))

later-others : (i : ℕ) (l : List (List ℕ)) → Later (suc i) l → Others i l
later-others i [] h = tt
later-others i (x ∷ l) h = omega arith

-- ---- at a node

-- what follows a forest
rises_by : (k : ℕ) (R : Rows) (n q : Counts) (a l : List (List ℕ)) → reached k q ≡ reached k n + length a → drop (reached k n) (R k) ≡ a ++ l → drop (reached k q) (R k) ≡ l
rises_by k R n q a l s e = rw (s, ← drop-drop (length a) (reached k n) (R k), e) (drop-append_seam a l)

module _ (R : Rows) (d : Data) (ch sib : Forest) (p : ℕ) (n : Counts) (S : Rows) (h : Here R (node d ch sib) p n S) where
  -- its own rows
  pub here-own : All (From R n (λ k. own_rows k d p (nodes_in ch) n ++ after_own d ch sib p n S k)) node_tables
  unfolding forest_rows
  here-own =
      let m = with_node d n in
      let q = with_forest ch m in
      all_map (From R n (λ k. forest_rows k (node d ch sib) p n ++ S k)) _
      (λ k e. e ∙ append_assoc (own_rows k d p (nodes_in ch) n) (forest_rows k ch n.nodes m ++ forest_rows k sib p q) (S k)
      ∙ ap (λ (l : List (List ℕ)). own_rows k d p (nodes_in ch) n ++ l) (append_assoc (forest_rows k ch n.nodes m) (forest_rows k sib p q) (S k))) node_tables h.begins

  -- the next node row is its own
  pub here-more : (get_or (drop n.nodes (R 3)) 0 [] ≡ node_row d p (nodes_in ch) n) × (get_or (get_or (drop n.nodes (R 3)) 0 []) 2 0 ≡ p)
  unfolding forest_rows node_tables reached if own_rows node_row name_cells
  here-more =
      let e = ap (λ (l : List (List ℕ)). get_or l 0 []) h.begins.0 in
      (e, ap (λ (x : List ℕ). get_or x 2 0) e)

  later_sib : Later (with_forest ch (with_node d n)).nodes (forest_rows 9 sib p (with_forest ch (with_node d n)) ++ S 9)
  unfolding with_forest
  later_sib =
      let q = with_forest ch (with_node d n) in
      later-forest q.nodes sib p q (S 9) (omega arith) (later_down q.nodes (with_forest sib q).nodes (S 9) (nodes_rise sib q) h.later)

  -- its children: they begin after its own rows
  pub here-children : p < n.nodes → Here R ch n.nodes (with_node d n) (λ k. forest_rows k sib p (with_forest ch (with_node d n)) ++ S k)
  here-children le =
      record {
        begins = from-after R n d p (nodes_in ch) (after_own d ch sib p n S) here-own;
        above = above_sib p n.nodes sib (with_forest ch (with_node d n)) S (inl le) (above_up p n.nodes (S 3) (omega arith) h.above);
        later = later_sib;
      }

  -- its later siblings: they begin after its children's rows
  pub here-siblings : Here R sib p (with_forest ch (with_node d n)) S
  unfolding with_forest
  here-siblings =
      let m = with_node d n in
      let q = with_forest ch m in
      record {
        begins =
            all-zip (From R m (after_own d ch sib p n S)) (Rise ch n.nodes m) (From R q (λ k. forest_rows k sib p q ++ S k))
            (λ k e s. rises_by k R m q (forest_rows k ch n.nodes m) (forest_rows k sib p q ++ S k) s e) node_tables (from-after R n d p (nodes_in ch) (after_own d ch sib p n S) here-own) (rises ch n.nodes m);
        above = h.above;
        later = h.later;
      }

  here-others : Others n.nodes (after_own d ch sib p n S 9)
  here-others =
      let m = with_node d n in
      let q = with_forest ch m in
      let es : m.nodes ≡ suc n.nodes = nodes-step d n in
      let ri : m.nodes ≤ q.nodes = nodes_rise ch m in
      let l = forest_rows 9 sib p q ++ S 9 in
      later-others n.nodes (after_own d ch sib p n S 9)
      (later-forest (suc n.nodes) ch n.nodes m l (omega arith) (later_down (suc n.nodes) q.nodes l (omega arith) later_sib))

  -- it is what its row says, with what is its own in the other tables
  module _ (ns : List ℕ) (b c : ℕ) (f : FitData b c d) (st : Stands ns d.name) where
    abbrev own_row : List ℕ
    own_row = node_row d p (nodes_in ch) n

    pub here_data : data_from ns R (node_row d p (nodes_in ch) n) n ≡ d
    here_data = data_back ns b c R (after_own d ch sib p n S) n d p (nodes_in ch) f st here-own here-others

    pub here-is : NodeIs ns b c R (node_row d p (nodes_in ch) n) n (data_from ns R (node_row d p (nodes_in ch) n) n)
    unfolding node_tables reached own_rows node_row name_cells if
    here-is =
        let S' = after_own d ch sib p n S in
        let own = subst (λ (j : ℕ). All (From R n (λ k. own_rows k d p j n ++ S' k)) node_tables) (sym (below_cell b c d p (nodes_in ch) n f)) here-own in
        subst (NodeIs ns b c R own_row n) (sym here_data) (next-from ns b c R own_row (S' 3) n d here-own.0 S' ((f, st), own)).0

    -- the counts after it come from its cells
    pub here-counts : with_node d n ≡ cell_counts R (node_row d p (nodes_in ch) n) n
    here-counts = ap (λ (y : Data). with_node y n) (sym here_data) ∙ cell-counts ns b c R own_row n here-is

-- ---- at the root, and at the end

-- the tables of a scene
pub here-scene : (R : Rows) (t : Forest) → All (λ k. R k ≡ forest_rows k t NONE start) node_tables → Here R t NONE start (λ k. [])
here-scene R t h =
    record {
      begins = (at-start R _).1 (all_map (λ k. R k ≡ forest_rows k t NONE start) _ (λ k e. e ∙ sym (append-nil (forest_rows k t NONE start))) node_tables h);
      above = tt;
      later = tt;
    }

-- the children of its root
pub here-root : (R : Rows) (d : Data) (ch : Forest) → Here R (node d ch no_nodes) NONE start (λ k. []) → Here R ch 0 (with_node d start) (λ k. [])
unfolding forest_rows start
here-root R d ch h =
    record {
      begins = from-after R start d NONE (nodes_in ch) (λ k. forest_rows k ch 0 (with_node d start) ++ []) (here-own R d ch no_nodes NONE start (λ k. []) h);
      above = tt;
      later = tt;
    }

-- the nodes of p have ended: there is no row left, or the next is not one of p's
pub here_end : (R : Rows) (p : ℕ) (n : Counts) (S : Rows) → p < NONE → Here R no_nodes p n S → (drop n.nodes (R 3) ≡ []) ⊎ (get_or (get_or (drop n.nodes (R 3)) 0 []) 2 0 ≢ p)
unfolding forest_rows node_tables reached if
here_end R p n S le h = ended p (drop n.nodes (R 3)) le (subst (Above p) (sym h.begins.0) h.above)
  where
    ended : (i : ℕ) (l : List (List ℕ)) → i < NONE → Above i l → (l ≡ []) ⊎ (get_or (get_or l 0 []) 2 0 ≢ i)
    ended i [] b a = inl refl
    ended i (x ∷ l) b a = elim a [ inl u ↦ inr (omega arith) | inr u ↦ inr (omega arith) ]

-- ---- the end of lists

pub end_rises : (r : ℕ) (xs : List (List ℕ)) → r ≤ end_of r xs
unfolding end_of
end_rises r [] = omega arith
end_rises r (x ∷ xs) = omega (arith, end_rises (r + get_or x 3 0) xs)
