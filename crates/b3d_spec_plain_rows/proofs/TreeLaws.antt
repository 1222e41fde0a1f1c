-- Table 3: the rows of the flat run through nodes that were read are those of these nodes. A node's parent is the last one before it that
-- is still open; its kind and its ANIM stand before the next NODE; the nodes below it are the NODEs before its end.
use mathlib.Core.Path.{◌≡◌, refl, ap, ap₂, sym, subst, ◌∙◌}
use Prim.Native.Nat.{ℕ, zero, suc, ◌+◌, ◌-◌, ◌≤◌, ◌<◌}
use native.Mathlib.Omega.{arith}
use mathlib.Core.Bool.{not}
use mathlib.Core.Option.{Option}
use mathlib.Core.List.{List, [], ◌∷◌, ◌++◌, append_assoc}
use lib.ListN.{length}
use lib.Dec.{T, leb, le→leb, leb→le}
use Rattle.wire.specs.Test.{if}
use Rattle.layout.specs.Chunks.{done, stop, chunk}
use Rattle.layout.specs.Result.{Result, accept}
use Rattle.layout.specs.Parts.{Name, Step, named}
use Rattle.layout.proofs.ResultLaws.{by_got, bad_got, got_inj, if_yes, if_no, by_test}
use Rattle.b3d_spec.specs.declared.Mode.TheVariants.{Lenient}
use Rattle.b3d_spec.specs.declared.Counts.{Counts}
use Rattle.b3d_spec.specs.declared.Tag.{Tag}
use Rattle.b3d_spec.specs.declared.Tag.TheVariants.{NODE, MESH, BONE, KEYS, ANIM}
use Rattle.b3d_spec.specs.Nesting.{inside}
use Rattle.b3d_spec.specs.Parse.{read_mesh, read_bone, read_keys, read_anim, read_kind, Animation, read_animation, Inner, read_nodes, read_below, read_node}
use Rattle.b3d_spec.specs.Rules.{node_row as node_words, bone_limit, bone_limit_below}
use Rattle.b3d_spec.specs.Scene.{Mesh, Kind, pivot, mesh, bone, Keys, Anim, no_anim, anim, Data, Forest, no_nodes, node}
use Rattle.b3d_spec.specs.Tables.{nodes_in, node_row, own_rows, with_node, with_forest, forest_rows}
use Rattle.b3d_spec.specs.Tags.{Chunks, split, is}
use Rattle.b3d_spec_chunk_places.proofs.NodeChunkLaws.{ByParts, parts-read}
use Rattle.b3d_spec_plain_rows.specs.Flat.{rest, flat_at}
use Rattle.b3d_spec_plain_rows.specs.Rows.{Open, add_node, add_keys, counted, kind_of, anim_of, parent_at, nodes_before, row_of, opened, node_rows}
use Rattle.b3d_spec_plain_rows.proofs.LeafLaws.{keys-plain, bone-plain, anim-plain, mesh_plain}
use Rattle.b3d_spec_plain_rows.proofs.PartLaws.{with_kind, with_lists, node-counted}
use Rattle.b3d_spec_plain_rows.proofs.FlatRunLaws.{Here, Laid, rest_laid, run-same, run-done, run-stop, run-node, run_past, run_into, inside_laid}

-- a NODE, or nothing, comes first
pub record Clean (cs : Chunks) : Type 0 where
  pub kind : kind_of cs ≡ pivot
  pub anim : anim_of cs ≡ no_anim

pub done-clean : Clean done
unfolding kind_of anim_of
done-clean = record { kind = refl; anim = refl }

node-clean : (p : ℕ) (b : List ℕ) (r : Chunks) → Clean (chunk NODE p b r)
unfolding kind_of anim_of if
node-clean p b r = record { kind = refl; anim = refl }

stop-clean : (n p : ℕ) → Clean (stop n p)
unfolding kind_of anim_of
stop-clean n p = record { kind = refl; anim = refl }

module _ (s : List ℕ) where
  -- ---- the NODEs before a place

  none_in : (f e at : ℕ) → length s - at ≤ f → e ≤ at → (cs : Chunks) → rest s at ≡ cs → Laid s (length s) at cs → nodes_before e (flat_at s at) ≡ 0
  unfolding nodes_before if
  none_in zero e at m le done h k = ap (nodes_before e) (run-done s at h)
  none_in zero e at m le (stop n p) h k = ap (nodes_before e) (run-stop s at n p h)
  none_in zero e at m le (chunk t p b r) h k = absurd (omega (arith, k.0.from, k.0.to))
  none_in (suc f) e at m le done h k = ap (nodes_before e) (run-done s at h)
  none_in (suc f) e at m le (stop n p) h k = ap (nodes_before e) (run-stop s at n p h)
  none_in (suc f) e at m le (chunk t p b r) h k =
      by_test (is t NODE)
      (λ y. run-node s at t p b k.0 y (λ c. nodes_before e c ≡ 0) (λ c. if_yes (leb e p) 0 (suc (nodes_before e c)) (le→leb e p (omega (arith, k.0.from)))) (λ n q. refl))
      (λ y. ap (nodes_before e) (run_past s at t p b k.0 y) ∙ if_no (is t NODE) _ (nodes_before e (flat_at s (p + 8 + length b))) y
      ∙ none_in f e (p + 8 + length b) (omega (arith, k.0.from)) (omega (arith, k.0.from)) (rest s (p + 8 + length b)) refl (rest_laid s (p + 8 + length b)))

  -- none stands from a place on
  none_before : (e at : ℕ) → e ≤ at → nodes_before e (flat_at s at) ≡ 0
  none_before e at le = none_in (length s - at) e at (omega arith) le (rest s at) refl (rest_laid s at)

  -- ---- rows

  -- the rows from `at` on are these, and then those from e on, under the nodes that are open there; so many NODEs stand between
  pub record Went (l : List Open) (n : Counts) (at e : ℕ) (rows : List (List ℕ)) (m : Counts) (k : ℕ) : Type 0 where
    pub now : List Open
    pub closed : (p : ℕ) → e ≤ p → parent_at p now ≡ parent_at p l
    pub is : node_rows l n (flat_at s at) ≡ rows ++ node_rows now m (flat_at s e)
    pub before : (q : ℕ) → e ≤ q → nodes_before q (flat_at s at) ≡ k + nodes_before q (flat_at s e)

  -- between two places nodes stand under this one
  abbrev Under : List Open → ℕ → ℕ → ℕ → Type 0
  Under l at e parent = (p : ℕ) → at ≤ p → p < e → parent_at p l ≡ parent

  -- of nodes, wherever they stand
  abbrev Nodes : ℕ → ℕ → Forest → Type 0
  Nodes at e f = (l : List Open) (n : Counts) (parent : ℕ) → Under l at e parent → Went l n at e (forest_rows 3 f parent n) (with_forest f n) (nodes_in f)

  -- past a chunk that is no NODE
  went_past : (t : Tag) (at p e : ℕ) (b : List ℕ) → Here s at t p b → T (not (is t NODE)) → (l : List Open) (n : Counts) (rows : List (List ℕ)) (m : Counts) (k : ℕ)
      → Went l (counted t p b n) (p + 8 + length b) e rows m k → Went l n at e rows m k
  unfolding node_rows nodes_before
  went_past t at p e b h other l n rows m k w = record {
    now = w.now;
    closed = w.closed;
    is = ap (node_rows l n) (run_past s at t p b h other) ∙ if_no (is t NODE) _ (node_rows l (counted t p b n) (flat_at s (p + 8 + length b))) other ∙ w.is;
    before = λ q le. ap (nodes_before q) (run_past s at t p b h other) ∙ if_no (is t NODE) _ (nodes_before q (flat_at s (p + 8 + length b))) other ∙ w.before q le;
  }

  -- one run after another
  went_on : (l : List Open) (n : Counts) (at q e : ℕ) (xs ys : List (List ℕ)) (m m' : Counts) (k k' : ℕ) → q ≤ e → (w : Went l n at q xs m k) → Went w.now m q e ys m' k' → Went l n at e (xs ++ ys) m' (k + k')
  went_on l n at q e xs ys m m' k k' le w v = record {
    now = v.now;
    closed = λ p h. v.closed p h ∙ w.closed p (omega arith);
    is = w.is ∙ ap (λ (r : List (List ℕ)). xs ++ r) v.is ∙ sym (append_assoc xs ys (node_rows v.now m' (flat_at s e)));
    before = λ i h. omega (arith, w.before i (omega arith), v.before i h);
  }

  -- a node, where nodes or nothing follow it
  abbrev pub NodeWent : ℕ → ℕ → List ℕ → Data → Forest → Type 0
  NodeWent at p b d f = Clean (flat_at s (p + 8 + length b)) → (l : List Open) (n : Counts) (parent : ℕ) → parent_at p l ≡ parent
      → Went l n at (p + 8 + length b) (own_rows 3 d parent (nodes_in f) n ++ forest_rows 3 f n.nodes (with_node d n)) (with_forest f (with_node d n)) (suc (nodes_in f))

  module _ (e : ℕ) (follows : Clean (flat_at s e)) where
    -- ---- nodes

    here-clean : (at p : ℕ) (b : List ℕ) → Here s at NODE p b → Clean (flat_at s at)
    here-clean at p b h = run-node s at NODE p b h tt Clean (λ r. node-clean p b r) stop-clean

    no-nodes : (at : ℕ) → rest s at ≡ rest s e → Nodes at e no_nodes
    unfolding forest_rows with_forest nodes_in
    no-nodes at h l n parent u = record { now = l; closed = λ p k. refl; is = ap (node_rows l n) (run-same s at e h); before = λ q k. omega (arith, ap (nodes_before q) (run-same s at e h)) }

    more_nodes : (at p : ℕ) (b : List ℕ) (d : Data) (f g : Forest) → Here s at NODE p b → p + 8 + length b ≤ e → Clean (flat_at s (p + 8 + length b)) → NodeWent at p b d f → Nodes (p + 8 + length b) e g → Nodes at e (node d f g)
    unfolding forest_rows with_forest nodes_in
    more_nodes at p b d f g h le c one more l n parent u =
        let w = one c l n parent (u p h.from (omega arith)) in
        let m = with_forest f (with_node d n) in
        let v = more w.now m parent (λ q lo hi. w.closed q lo ∙ u q (omega (arith, h.from)) hi) in
        let many : suc (nodes_in f) + nodes_in g ≡ suc (nodes_in f + nodes_in g) = omega arith in
        subst (Went l n at e (forest_rows 3 (node d f g) parent n) (with_forest g m)) many
        (subst (λ (r : List (List ℕ)). Went l n at e r (with_forest g m) (suc (nodes_in f) + nodes_in g)) (append_assoc (own_rows 3 d parent (nodes_in f) n) (forest_rows 3 f n.nodes (with_node d n)) (forest_rows 3 g parent m))
        (went_on l n at (p + 8 + length b) e _ _ m (with_forest g m) (suc (nodes_in f)) (nodes_in g) le w v))

    -- ---- the chunks inside a node

    -- from a place on, up to e: the kind, the ANIM, and the rows of the nodes, under the counts after the kind and the key lists
    pub record Tree (at : ℕ) (kind : Kind) (ks : List Keys) (a : Anim) (f : Forest) : Type 0 where
      pub kinds : kind_of (flat_at s at) ≡ kind
      pub anims : anim_of (flat_at s at) ≡ a
      pub went : (l : List Open) (n : Counts) (parent : ℕ) → Under l at e parent
          → Went l n at e (forest_rows 3 f parent (with_lists ks (with_kind kind n))) (with_forest f (with_lists ks (with_kind kind n))) (nodes_in f)

    abbrev Trees : Chunks → Kind → List Keys → Anim → Forest → Type 0
    Trees cs kind ks a f = (at : ℕ) → Laid s e at cs → Tree at kind ks a f

    none-tree : Trees done pivot [] no_anim no_nodes
    unfolding with_kind with_lists
    none-tree at h = let c = subst Clean (sym (run-same s at e h)) follows in record { kinds = c.kind; anims = c.anim; went = no-nodes at h }

    node_before : (p : ℕ) (b : List ℕ) (r : Chunks) (x : Inner) (f : Forest) → ((at : ℕ) → Here s at NODE p b → NodeWent at p b x.self x.below) → Trees r pivot [] no_anim f
        → Trees (chunk NODE p b r) pivot [] no_anim (node x.self x.below f)
    unfolding with_kind with_lists
    node_before p b r x f same more at h =
        let c = here-clean at p b h.0 in
        let v = more (p + 8 + length b) h.1 in
        record {
          kinds = c.kind;
          anims = c.anim;
          went = more_nodes at p b x.self x.below f h.0 h.2 (record { kind = v.kinds; anim = v.anims }) (same at h.0) v.went;
        }

    -- past a chunk that is no NODE
    past-before : (t : Tag) (at p : ℕ) (b : List ℕ) → Here s at t p b → T (not (is t NODE)) → (kind : Kind) (ks : List Keys) (a : Anim) (f : Forest) → kind_of (flat_at s at) ≡ kind → anim_of (flat_at s at) ≡ a
        → (ks' : List Keys) → ((n : Counts) → with_lists ks' (counted t p b n) ≡ with_lists ks (with_kind kind n)) → (a' : Anim) → Tree (p + 8 + length b) pivot ks' a' f → Tree at kind ks a f
    unfolding with_kind
    past-before t at p b h other kind ks a f ek ea ks' ec a' v = record {
      kinds = ek;
      anims = ea;
      went = λ l n parent u. went_past t at p e b h other l n _ _ _
          (subst (λ (c : Counts). Went l (counted t p b n) (p + 8 + length b) e (forest_rows 3 f parent c) (with_forest f c) (nodes_in f)) (ec n)
          (v.went l (counted t p b n) parent (λ q lo hi. u q (omega (arith, h.from)) hi)));
    }

    keys_before : (p : ℕ) (b : List ℕ) (r : Chunks) (x : Keys) (ks : List Keys) (a : Anim) (f : Forest) → read_keys p b ≡ accept x → Trees r pivot ks a f → Trees (chunk KEYS p b r) pivot (x ∷ ks) a f
    unfolding with_kind with_lists kind_of anim_of if
    keys_before p b r x ks a f g more at h =
        let v = more (p + 8 + length b) h.1 in
        let run = run_past s at KEYS p b h.0 tt in
        past-before KEYS at p b h.0 tt pivot (x ∷ ks) a f (ap kind_of run ∙ v.kinds) (ap anim_of run ∙ v.anims) ks (λ n. ap (λ (y : Keys). with_lists ks (add_keys y n)) (keys-plain p b x g)) a v

    anim_before : (p : ℕ) (b : List ℕ) (r : Chunks) (ws : List ℕ) (ks : List Keys) (f : Forest) → read_anim p b ≡ accept ws → Trees r pivot ks no_anim f → Trees (chunk ANIM p b r) pivot ks (anim ws) f
    unfolding with_kind kind_of anim_of if
    anim_before p b r ws ks f g more at h =
        let v = more (p + 8 + length b) h.1 in
        let run = run_past s at ANIM p b h.0 tt in
        past-before ANIM at p b h.0 tt pivot ks (anim ws) f (ap kind_of run ∙ v.kinds) (ap anim_of run ∙ ap anim (anim-plain p b ws g)) ks (λ n. refl) no_anim v

    mesh_before : (brushes p : ℕ) (b : List ℕ) (r : Chunks) (m : Mesh) (ks : List Keys) (a : Anim) (f : Forest) → read_mesh Lenient brushes p b ≡ accept m → Trees r pivot ks a f → Trees (chunk MESH p b r) (mesh m) ks a f
    unfolding with_kind kind_of anim_of if
    mesh_before brushes p b r m ks a f g more at h =
        let v = more (p + 8 + length b) h.1 in
        let run = run_past s at MESH p b h.0 tt in
        let same = mesh_plain brushes p b m g in
        past-before MESH at p b h.0 tt (mesh m) ks a f (ap kind_of run ∙ ap mesh same) (ap anim_of run ∙ v.anims) ks (λ n. ap (λ (z : Mesh). with_lists ks (with_kind (mesh z) n)) same) a v

    bone_before : (vertices p : ℕ) (b : List ℕ) (r : Chunks) (ws : List (List ℕ)) (ks : List Keys) (a : Anim) (f : Forest) → read_bone vertices p b ≡ accept ws → Trees r pivot ks a f → Trees (chunk BONE p b r) (bone ws) ks a f
    unfolding with_kind kind_of anim_of if
    bone_before vertices p b r ws ks a f g more at h =
        let v = more (p + 8 + length b) h.1 in
        let run = run_past s at BONE p b h.0 tt in
        let same = bone-plain vertices p b ws g in
        past-before BONE at p b h.0 tt (bone ws) ks a f (ap kind_of run ∙ ap bone same) (ap anim_of run ∙ v.anims) ks (λ n. ap (λ (z : List (List ℕ)). with_lists ks (with_kind (bone z) n)) same) a v

    trees : (brushes vertices : ℕ) (read : ℕ → List ℕ → Result Inner) → ((p : ℕ) (b : List ℕ) (x : Inner) → read p b ≡ accept x → (at : ℕ) → Here s at NODE p b → NodeWent at p b x.self x.below)
        → ByParts Lenient brushes vertices read Trees
    trees brushes vertices read same = record {
      none = none-tree;
      nodes = λ p b r x f g. node_before p b r x f (same p b x g);
      keys = keys_before;
      anims = anim_before;
      meshes = mesh_before brushes;
      bones = bone_before vertices;
    }

  -- ---- a node

  -- the nodes after it do not stand under it, those in it do
  behind_it : (q i : ℕ) (l : List Open) (p : ℕ) → q ≤ p → parent_at p (record { end = q; index = i } ∷ l) ≡ parent_at p l
  unfolding parent_at
  behind_it q i l p h = if_yes (leb q p) (parent_at p l) i (le→leb q p h)

  in_it : (q i : ℕ) (l : List Open) (p : ℕ) → p < q → parent_at p (record { end = q; index = i } ∷ l) ≡ i
  unfolding parent_at
  in_it q i l p h = by_test (leb q p) (λ t. absurd (omega (arith, leb→le q p t))) (λ t. if_no (leb q p) (parent_at p l) i t)

  same_row : (name : Name) (ws : List ℕ) (kind kind' : Kind) (a a' : Anim) (ks : List Keys) (parent parent' below below' : ℕ) (n : Counts) → kind' ≡ kind → a' ≡ a → parent' ≡ parent → below' ≡ below
      → node_row (record { name = name; words = ws; kind = kind'; keys = []; anim = a' }) parent' below' n ≡ node_row (record { name = name; words = ws; kind = kind; keys = ks; anim = a }) parent below n
  unfolding node_row
  same_row name ws kind kind' a a' ks parent parent' below below' n e f g h = rw (e, f, g, h)

  node_went : (at p : ℕ) (b : List ℕ) (h : Step (Name × List ℕ)) (kind : Kind) (m : Animation) (f : Forest) → Here s at NODE p b → named node_words (p + 8) b ≡ accept h
      → kind_of (flat_at s h.place) ≡ kind → anim_of (flat_at s h.place) ≡ m.anim
      → ((l : List Open) (n : Counts) (parent : ℕ) → Under l h.place (p + 8 + length b) parent
      → Went l n h.place (p + 8 + length b) (forest_rows 3 f parent (with_lists m.keys (with_kind kind n))) (with_forest f (with_lists m.keys (with_kind kind n))) (nodes_in f))
      → NodeWent at p b (record { name = h.value.0; words = h.value.1; kind = kind; keys = m.keys; anim = m.anim }) f
  unfolding node_rows nodes_before row_of own_rows if
  node_went at p b h kind m f here eh ek ea inner clean l n parent pe =
      let q = p + 8 + length b in
      let d : Data = record { name = h.value.0; words = h.value.1; kind = kind; keys = m.keys; anim = m.anim } in
      let o = opened p b n.nodes l in
      let w = inner o (add_node n) n.nodes (λ i lo hi. in_it q n.nodes l i hi) in
      let c : with_lists m.keys (with_kind kind (add_node n)) ≡ with_node d n = node-counted d n in
      let inside : nodes_before q (flat_at s h.place) ≡ nodes_in f = omega (arith, w.before q (omega arith), none_before q q (omega arith)) in
      let run = run_into s at NODE p b here h tt eh in
      record {
        now = w.now;
        closed = λ i k. w.closed i k ∙ behind_it q n.nodes l i k;
        is =
            ap (node_rows l n) run
            ∙ ap (λ (z : Result (Step (Name × List ℕ))). row_of z (flat_at s h.place) (parent_at p l) q n ∷ node_rows o (add_node n) (flat_at s h.place)) eh
            ∙ ap₂ (λ (x : List ℕ) (y : List (List ℕ)). x ∷ y) (same_row h.value.0 h.value.1 kind (kind_of (flat_at s h.place)) m.anim (anim_of (flat_at s h.place)) m.keys parent (parent_at p l) (nodes_in f) (nodes_before q (flat_at s h.place)) n ek ea pe inside) w.is
            ∙ ap (λ (z : Counts). node_row d parent (nodes_in f) n ∷ (forest_rows 3 f n.nodes z ++ node_rows w.now (with_forest f z) (flat_at s q))) c;
        before = λ i le.
            ap (nodes_before i) run
            ∙ by_test (leb i p) (λ t. absurd (omega (arith, leb→le i p t))) (λ t. if_no (leb i p) 0 (suc (nodes_before i (flat_at s h.place))) t ∙ omega (arith, w.before i le));
      }

  pub node-flat : (l brushes : ℕ) (above : Option ℕ) (p : ℕ) (b : List ℕ) (x : Inner) → read_node Lenient l brushes above p b ≡ accept x → (at : ℕ) → Here s at NODE p b → NodeWent at p b x.self x.below
  unfolding read_node read_below inside
  node-flat zero brushes above p b x g at here clean = bad_got g
  node-flat (suc l) brushes above p b x g at here clean =
      by_got (named node_words (p + 8) b) _ g (λ h eh g₁.
      by_got (read_kind Lenient brushes (bone_limit above) (inside NODE p h.place h.left)) _ g₁ (λ kd ek g₂.
      by_got (read_animation no_anim kd.rest) _ g₂ (λ m em g₃.
      let d : Data = record { name = h.value.0; words = h.value.1; kind = kd.value; keys = m.value.keys; anim = m.value.anim } in
      by_got (read_nodes (read_node Lenient l brushes (bone_limit_below above d)) m.rest) _ g₃ (λ f ef g₄.
      let q = p + 8 + length b in
      let read = read_node Lenient l brushes (bone_limit_below above d) in
      let parts = trees q clean brushes (bone_limit above) read (λ p' b' y ey. node-flat l brushes (bone_limit_below above d) p' b' y ey) in
      let v = parts-read Lenient brushes (bone_limit above) read (Trees q clean) parts p (split h.place h.left) kd ek m em f ef h.place (inside_laid s at NODE p b here h eh) in
      subst (λ (y : Inner). NodeWent at p b y.self y.below) (got_inj g₄) (node_went at p b h kd.value m.value f here eh v.kinds v.anims v.went) clean))))
