-- What the test on all nodes says of their tree: nothing is left when it has taken its nodes, and it fits, with what each level says of bones.
use mathlib.Core.Path.{◌≡◌, refl, ap, ap₂, sym, ◌∙◌, subst}
use Prim.Native.Nat.{ℕ, zero, suc, ◌+◌, ◌-◌, ◌<◌}
use native.Mathlib.Omega.{arith}
use mathlib.Core.Bool.{Bool, true, false}
use mathlib.Core.Option.{Option, some}
use mathlib.Core.List.{List, [], ◌∷◌}
use lib.ListN.{length}
use lib.Dec.{T, eqb, eqb→eq, eqb_refl}
use Rattle.layout.proofs.AllLaws.{cons_head, cons_tail}
use Rattle.layout.proofs.ResultLaws.{if_yes, if_case}
use Rattle.b3d_spec.specs.Rebuild.{Placed, Group, Off, off, groups}
use Rattle.b3d_spec.specs.Rules.{own_vertices, bone_limit, animated, bone_limit_from, bone_limit_below, levels}
use Rattle.b3d_spec.specs.Scene.{Data, Forest, no_nodes, node}
use Rattle.b3d_spec.specs.Tables.{nodes_in, with_node, with_forest}
use Rattle.b3d_spec.specs.declared.Counts.{Counts}
use Rattle.b3d_spec.proofs.WellFormedLaws.{FitData, FitNodes, no-nodes}
use Rattle.b3d_spec.proofs.Rows.NodeRowLaws.{nodes-step}
use Rattle.b3d_spec.proofs.Rows.TreeLaws.{flat}
use Rattle.b3d_check_spec.specs.Check.{Level, up_to}
use Rattle.b3d_check_spec.proofs.Check.TestLaws.{if-both}
use Rattle.b3d_check_spec.proofs.Check.WalkLaws.{said, ToldAt, EndAt, Told}

-- ---- groups hold the nodes that they were made of

flat_groups : List Group → Counts → List Placed
flat_groups [] n = []
flat_groups (g ∷ gs) n = flat g.of n g.nodes (flat_groups gs (with_forest g.nodes n))

off-flat : (p : ℕ) (gs : List Group) (n : Counts) → flat p n (off p gs).took (flat_groups (off p gs).left (with_forest (off p gs).took n)) ≡ flat_groups gs n
unfolding off flat flat_groups with_forest
off-flat p [] n = refl
off-flat p (g ∷ gs) n =
    if_case (λ (o : Off). flat p n o.took (flat_groups o.left (with_forest o.took n)) ≡ flat_groups (g ∷ gs) n) (eqb g.of p) _ _
    (λ h. ap (λ (q : ℕ). flat q n g.nodes (flat_groups gs (with_forest g.nodes n))) (sym (eqb→eq g.of p h))) (λ h. refl)

-- each says as many below it as it takes
abbrev pub Counting : ℕ → List Placed → Type 0
Counting i [] = Unit {0}
Counting i (x ∷ fs) = (x.below ≡ nodes_in (off i (groups (suc i) fs)).took) × Counting (suc i) fs

-- the nodes after node number i, and what it takes of their groups
module _ (x : Placed) (fs : List Placed) (n : Counts) where
  abbrev next : Counts
  next = with_node x.item n

  abbrev later : List Group
  later = groups (suc n.nodes) fs

  abbrev inside : Off
  inside = off n.nodes later

  abbrev beside : Off
  beside = off x.parent inside.left

  next-groups : flat_groups (groups next.nodes fs) next ≡ flat_groups later next
  next-groups = ap (λ (k : ℕ). flat_groups (groups k fs) next) (nodes-step x.item n)

  both-off : flat n.nodes next inside.took (flat x.parent (with_forest inside.took next) beside.took (flat_groups beside.left (with_forest beside.took (with_forest inside.took next)))) ≡ flat_groups later next
  both-off = ap (flat n.nodes next inside.took) (off-flat x.parent inside.left (with_forest inside.took next)) ∙ off-flat n.nodes later next

flat-groups : (fs : List Placed) (n : Counts) → Counting n.nodes fs → flat_groups (groups n.nodes fs) n ≡ fs
unfolding groups flat_groups flat with_forest
flat-groups [] n c = refl
flat-groups (x ∷ fs) n c =
    let m = with_node x.item n in
    let more = flat-groups fs m (subst (λ (k : ℕ). Counting k fs) (sym (nodes-step x.item n)) c.1) in
    ap₂ (λ (k : ℕ) (l : List Placed). record { parent = x.parent; below = k; item = x.item } ∷ l) (sym c.0) (both-off x fs n ∙ sym (next-groups x fs n) ∙ more)

groups-flat : (fs : List Placed) (n : Counts) → flat_groups (groups n.nodes fs) n ≡ fs → Counting n.nodes fs
unfolding groups flat_groups flat with_forest
groups-flat [] n e = tt
groups-flat (x ∷ fs) n e =
    let m = with_node x.item n in
    let more = groups-flat fs m (next-groups x fs n ∙ sym (both-off x fs n) ∙ cons_tail e) in
    (sym (ap (λ (y : Placed). y.below) (cons_head e)), subst (λ (k : ℕ). Counting k fs) (nodes-step x.item n) more)

-- the children of node 0, where nothing is left
module _ (fs : List Placed) (m : Counts) (e : m.nodes ≡ 1) (l : (off 0 (groups 1 fs)).left ≡ []) where
  children : flat 0 m (off 0 (groups 1 fs)).took [] ≡ flat_groups (groups m.nodes fs) m
  unfolding flat_groups
  children =
      let gs = groups 1 fs in
      let t = (off 0 gs).took in
      ap (λ (r : List Group). flat 0 m t (flat_groups r (with_forest t m))) (sym l) ∙ off-flat 0 gs m ∙ ap (λ (k : ℕ). flat_groups (groups k fs) m) (sym e)

  pub children-flat : Counting 1 fs → flat 0 m (off 0 (groups 1 fs)).took [] ≡ fs
  children-flat c = children ∙ flat-groups fs m (subst (λ (k : ℕ). Counting k fs) (sym e) c)

  pub children-right : flat 0 m (off 0 (groups 1 fs)).took [] ≡ fs → Counting 1 fs
  children-right h = subst (λ (k : ℕ). Counting k fs) e (groups-flat fs m (sym children ∙ h))

-- ---- levels

-- what a node says of bones is a number, where it was told one
said_is : (told : ℕ) (d : Data) → bone_limit_below (some told) d ≡ some (said told d)
said_is told d = either (animated d.anim) (own_vertices d.kind)
  where
    either : (a : Bool) (own : ℕ) → bone_limit_from (some told) a own ≡ some (bone_limit (bone_limit_from (some told) a own))
    either true own = refl
    either false own = refl

module _ (b : ℕ) where
  -- groups of the nodes from number j on: each group's parent is on the path, below that of the next, its nodes fit the levels and the bones there,
  -- and the parent ends behind them
  abbrev HangsAt : Forest → ℕ → (List Level → Type 0) → List Level → Type 0
  HangsAt t j rest [] = ⊥
  HangsAt t j rest (q ∷ qs) = FitNodes (levels - length (q ∷ qs)) b (some q.bones) t × (q.end ≡ j) × rest qs

  abbrev Hangs : ℕ → List Group → List Level → Type 0
  Hangs j [] path = EndAt j path
  Hangs j (g ∷ gs) path = HangsAt g.nodes (j + nodes_in g.nodes) (Hangs (j + nodes_in g.nodes) gs) (up_to j g.of path)

  -- q at the end of the path takes its nodes off
  abbrev Taken : ℕ → Level → List Level → Off → Type 0
  Taken j q path o = FitNodes (levels - suc (length path)) b (some q.bones) o.took × (q.end ≡ j + nodes_in o.took) × Hangs (j + nodes_in o.took) o.left path

  -- it takes none
  none-taken : (j : ℕ) (q : Level) (path : List Level) (gs : List Group) → q.end ≡ j → Hangs j gs path → Taken j q path (record { took = no_nodes; left = gs })
  unfolding nodes_in
  none-taken j q path gs e h = let z : j ≡ j + 0 = omega arith in (no-nodes (levels - suc (length path)) b (some q.bones), e ∙ z, subst (λ (k : ℕ). Hangs k gs path) z h)

  taken_none : (j : ℕ) (q : Level) (path : List Level) (gs : List Group) → Taken j q path (record { took = no_nodes; left = gs }) → (q.end ≡ j) × Hangs j gs path
  unfolding nodes_in
  taken_none j q path gs t = let z : j + 0 ≡ j = omega arith in (t.1 ∙ z, subst (λ (k : ℕ). Hangs k gs path) z t.2)

  off_hangs : (j : ℕ) (q : Level) (gs : List Group) (path : List Level) → Hangs j gs (q ∷ path) → Taken j q path (off q.node gs)
  unfolding off up_to
  off_hangs j q [] path = λ h. none-taken j q path [] h.0 h.1
  off_hangs j q (g ∷ gs) path =
      let at = HangsAt g.nodes (j + nodes_in g.nodes) (Hangs (j + nodes_in g.nodes) gs) in
      if-both (λ o r. at r → Taken j q path o) (eqb g.of q.node) _ _ _ _ (λ t k. k)
      (λ t. if_case (λ r. at r → Taken j q path (record { took = no_nodes; left = g ∷ gs })) (eqb q.end j) _ _ (λ u k. none-taken j q path (g ∷ gs) (eqb→eq q.end j u) k) (λ u k. absurd k))

  hangs_off : (j : ℕ) (q : Level) (gs : List Group) (path : List Level) → Taken j q path (off q.node gs) → Hangs j gs (q ∷ path)
  unfolding off up_to
  hangs_off j q [] path = λ h. taken_none j q path [] h
  hangs_off j q (g ∷ gs) path =
      let at = HangsAt g.nodes (j + nodes_in g.nodes) (Hangs (j + nodes_in g.nodes) gs) in
      if-both (λ o r. Taken j q path o → at r) (eqb g.of q.node) _ _ _ _ (λ t k. k)
      (λ t k. let (e, h) = taken_none j q path (g ∷ gs) k in subst at (sym (if_yes (eqb q.end j) (up_to j g.of path) [] (subst (λ (z : ℕ). T (eqb q.end z)) e (eqb_refl q.end)))) h)

  no-head : (p : ℕ) (q : Level) (qs : List Level) → [] ≡ q ∷ qs → q.node ≡ p
  no-head p q qs e = let z : ◌≡◌ {A = ℕ} 0 1 = cc in absurd (omega arith)

  up_to-head : (i p : ℕ) (path : List Level) (q : Level) (qs : List Level) → up_to i p path ≡ q ∷ qs → q.node ≡ p
  unfolding up_to
  up_to-head i p [] q qs = no-head p q qs
  up_to-head i p (r ∷ rs) q qs =
      let is : List Level → Type 0 = λ l. l ≡ q ∷ qs → q.node ≡ p in
      if_case is (eqb p r.node) (r ∷ rs) _ (λ h e. let w : p ≡ r.node = eqb→eq p r.node h in cc) (λ h. if_case is (eqb r.end i) (up_to i p rs) [] (λ k. up_to-head i p rs q qs) (λ k. no-head p q qs))

  -- a node, the nodes below it and those beside it
  module _ (d : Data) (told : ℕ) (ch sib : Forest) where
    fit-to : (l k : ℕ) → l ≡ levels - k → k < levels → FitData b told d → FitNodes (levels - suc k) b (some (said told d)) ch → FitNodes l b (some told) sib → FitNodes l b (some told) (node d ch sib)
    fit-to zero k e h f x y = absurd (omega arith)
    fit-to (suc l) k e h f x y =
        let m : levels - suc k ≡ l = omega arith in
        (f, subst (λ (o : Option ℕ). FitNodes l b o ch) (sym (said_is told d)) (subst (λ (j : ℕ). FitNodes j b (some (said told d)) ch) m x), y)

    fit-from : (l k : ℕ) → l ≡ levels - k → FitNodes l b (some told) (node d ch sib) → (k < levels) × FitData b told d × FitNodes (levels - suc k) b (some (said told d)) ch × FitNodes l b (some told) sib
    fit-from zero k e h = absurd h
    fit-from (suc l) k e h =
        let m : l ≡ levels - suc k = omega arith in
        (omega arith, h.0, subst (λ (j : ℕ). FitNodes j b (some (said told d)) ch) m (subst (λ (o : Option ℕ). FitNodes l b o ch) (said_is told d) h.1), h.2)

  -- number i with its parent p, how many are below it, and the groups of the nodes after it
  module _ (p i below : ℕ) (d : Data) (gs : List Group) (rest : List Level → Type 0) where
    abbrev a : Off
    a = off i gs

    abbrev c : Off
    c = off p a.left

    abbrev whole : Forest
    whole = node d a.took c.took

    behind : suc i + nodes_in a.took + nodes_in c.took ≡ i + nodes_in (node d a.took c.took)
    unfolding nodes_in
    behind = omega arith

    told-step : (Q : Type 0) → ((path : List Level) → rest path → Hangs (suc i) gs path × Q) → (q : List Level) → ((r : Level) (rs : List Level) → q ≡ r ∷ rs → r.node ≡ p)
        → ToldAt b d i (i + 1 + below) rest q → HangsAt whole (i + nodes_in whole) (Hangs (i + nodes_in whole) c.left) q × ((below ≡ nodes_in a.took) × Q)
    told-step Q f [] g h = absurd h
    told-step Q f (r ∷ rs) g h =
        let k = suc (length rs) in
        let j = suc i + nodes_in a.took in
        let self : Level = record { node = i; end = i + 1 + below; bones = said r.bones d } in
        let (x, y) = f (self ∷ r ∷ rs) h.1.1 in
        let t : Taken (suc i) self (r ∷ rs) a = off_hangs (suc i) self gs (r ∷ rs) x in
        let u : Taken j r rs c = subst (λ (z : ℕ). Taken j r rs (off z a.left)) (g r rs refl) (off_hangs j r a.left rs t.2) in
        ((fit-to d r.bones a.took c.took (levels - k) k refl h.0 h.1.0 t.0 u.0, u.1 ∙ behind, subst (λ (z : ℕ). Hangs z c.left rs) behind u.2), (omega (arith, t.1), y))

    step-told : below ≡ nodes_in a.took → ((path : List Level) → Hangs (suc i) gs path → rest path) → (q : List Level) → ((r : Level) (rs : List Level) → q ≡ r ∷ rs → r.node ≡ p)
        → HangsAt whole (i + nodes_in whole) (Hangs (i + nodes_in whole) c.left) q → ToldAt b d i (i + 1 + below) rest q
    step-told e f [] g h = absurd h
    step-told e f (r ∷ rs) g h =
        let k = suc (length rs) in
        let j = suc i + nodes_in a.took in
        let self : Level = record { node = i; end = i + 1 + below; bones = said r.bones d } in
        let s = fit-from d r.bones a.took c.took (levels - k) k refl h.0 in
        let t : Taken j r rs c = (s.3, h.1 ∙ sym behind, subst (λ (z : ℕ). Hangs z c.left rs) (sym behind) h.2) in
        let u : Hangs j a.left (r ∷ rs) = hangs_off j r a.left rs (subst (λ (z : ℕ). Taken j r rs (off z a.left)) (sym (g r rs refl)) t) in
        let w : i + 1 + below ≡ suc i + nodes_in a.took = omega (arith, e) in
        (s.0, (s.1, f (self ∷ r ∷ rs) (hangs_off (suc i) self gs (r ∷ rs) (s.2, w, u))))

  told_hangs : (fs : List Placed) (i : ℕ) (path : List Level) → Told b path i fs → Hangs i (groups i fs) path × Counting i fs
  unfolding groups
  told_hangs [] i path h = (h, tt)
  told_hangs (x ∷ fs) i path h =
      told-step x.parent i x.below x.item (groups (suc i) fs) (λ r. Told b r (suc i) fs) (Counting (suc i) fs) (λ r. told_hangs fs (suc i) r) (up_to i x.parent path) (λ r rs e. up_to-head i x.parent path r rs e) h

  hangs_told : (fs : List Placed) (i : ℕ) (path : List Level) → Counting i fs → Hangs i (groups i fs) path → Told b path i fs
  unfolding groups
  hangs_told [] i path c h = h
  hangs_told (x ∷ fs) i path c h =
      step-told x.parent i x.below x.item (groups (suc i) fs) (λ r. Told b r (suc i) fs) c.0 (λ r. hangs_told fs (suc i) r c.1) (up_to i x.parent path) (λ r rs e. up_to-head i x.parent path r rs e) h

  none_left : (j : ℕ) (gs : List Group) → Hangs j gs [] → gs ≡ []
  unfolding up_to
  none_left j [] h = refl
  none_left j (g ∷ gs) h = absurd h

  -- the nodes after the root, which says so many vertices and ends at row e
  abbrev pub ChildrenIs : ℕ → ℕ → List Placed → Type 0
  ChildrenIs e bones fs = FitNodes (levels - 1) b (some bones) (off 0 (groups 1 fs)).took × ((off 0 (groups 1 fs)).left ≡ []) × (e ≡ 1 + nodes_in (off 0 (groups 1 fs)).took) × Counting 1 fs

  module _ (e bones : ℕ) (fs : List Placed) where
    abbrev root : Level
    root = record { node = 0; end = e; bones = bones }

    pub children-to : Told b (record { node = 0; end = e; bones = bones } ∷ []) 1 fs → ChildrenIs e bones fs
    children-to h =
        let (x, c) = told_hangs fs 1 (root ∷ []) h in
        let t : Taken 1 root [] (off 0 (groups 1 fs)) = off_hangs 1 root (groups 1 fs) [] x in
        (t.0, none_left (1 + nodes_in (off 0 (groups 1 fs)).took) (off 0 (groups 1 fs)).left t.2, t.1, c)

    pub children-from : ChildrenIs e bones fs → Told b (record { node = 0; end = e; bones = bones } ∷ []) 1 fs
    children-from h = hangs_told fs 1 (root ∷ []) h.3 (hangs_off 1 root (groups 1 fs) [] (h.0, h.2, subst (λ (l : List Group). Hangs (1 + nodes_in (off 0 (groups 1 fs)).took) l []) (sym h.1) tt))
