-- Tables 4 to 10: the rows of the flat run through nodes that were read are the rows of these nodes, and then those of what follows.
use mathlib.Core.Path.{◌≡◌, ap, ap₂, sym, ◌∙◌}
use Prim.Native.Nat.{ℕ, zero, suc, ◌+◌, ◌-◌, ◌≤◌}
use mathlib.Core.Option.{Option}
use mathlib.Core.List.{List, [], ◌∷◌, ◌++◌, append_assoc}
use lib.ListN.{length}
use Rattle.layout.specs.Chunks.{done, chunk}
use Rattle.layout.specs.Result.{Result, accept}
use Rattle.layout.specs.Parts.{Name, Step, named}
use Rattle.layout.proofs.ResultLaws.{by_got, bad_got, got_inj}
use Rattle.b3d_spec.specs.declared.Mode.TheVariants.{Lenient}
use Rattle.b3d_spec.specs.declared.Counts.{Counts}
use Rattle.b3d_spec.specs.declared.Tag.{Tag}
use Rattle.b3d_spec.specs.declared.Tag.TheVariants.{NODE, MESH, BONE, KEYS, ANIM}
use Rattle.b3d_spec.specs.Nesting.{inside}
use Rattle.b3d_spec.specs.Parse.{read_mesh, read_bone, read_keys, read_anim, read_kind, read_animation, Inner, read_nodes, read_below, read_node}
use Rattle.b3d_spec.specs.Rules.{node_row, bone_limit, bone_limit_below}
use Rattle.b3d_spec.specs.Scene.{Mesh, Kind, pivot, mesh, bone, Keys, Anim, no_anim, anim, Data, Forest, no_nodes, node}
use Rattle.b3d_spec.specs.Tables.{nodes_in, own_rows, with_node, with_forest, forest_rows}
use Rattle.b3d_spec.specs.Tags.{Chunks, split}
use Rattle.b3d_spec_chunk_places.proofs.NodeChunkLaws.{ByParts, parts-read}
use Rattle.b3d_spec_plain_rows.specs.Flat.{flat_at}
use Rattle.b3d_spec_plain_rows.specs.Rows.{add_node, add_keys, current, key_list_rows, counted, chunk_rows, flat_rows}
use Rattle.b3d_spec_plain_rows.proofs.LeafLaws.{keys-plain, bone-plain, mesh_plain}
use Rattle.b3d_spec_plain_rows.proofs.PartLaws.{kind_rows, move_rows, with_kind, with_lists, own-parts, node-counted, current-node, kind-node, kind-keys}
use Rattle.b3d_spec_plain_rows.proofs.FlatRunLaws.{Here, Laid, run-same, run_past, run_into, inside_laid}

module _ (s : List ℕ) (k : ℕ) where
  -- the rows from a place of the file on, after so many rows
  abbrev pub from : Counts → ℕ → List (List ℕ)
  from n at = flat_rows k n (flat_at s at)

  -- those of nodes up to place e, and of what follows
  abbrev pub nodes_then : Forest → ℕ → Counts → ℕ → List (List ℕ)
  nodes_then f parent n e = forest_rows k f parent n ++ from (with_forest f n) e

  -- before them those of key lists
  abbrev lists_then : List Keys → Forest → ℕ → Counts → ℕ → List (List ℕ)
  lists_then ks f parent n e = move_rows k (n.nodes - 1) n.keys ks ++ nodes_then f parent (with_lists ks n) e

  -- and before these those of a kind
  abbrev kind_then : Kind → List Keys → Forest → ℕ → Counts → ℕ → List (List ℕ)
  kind_then kind ks f parent n e = kind_rows k kind (current n) ++ lists_then ks f parent (with_kind kind n) e

  -- a node's own rows, those of the nodes below it, and those of what follows
  abbrev pub node_then : Data → Forest → ℕ → Counts → ℕ → List (List ℕ)
  node_then d f parent n e = own_rows k d parent (nodes_in f) n ++ nodes_then f n.nodes (with_node d n) e

  pub past : (at : ℕ) (t : Tag) (p : ℕ) (b : List ℕ) (h : Here s at t p b) → flat_at s at ≡ chunk t p b (flat_at s (p + 8 + length b)) → (n : Counts) → from n at ≡ chunk_rows k t p b n ++ from (counted t p b n) (p + 8 + length b)
  unfolding flat_rows
  past at t p b h e n = ap (flat_rows k n) e

  module _ (e : ℕ) where
    -- where the chunks are laid from a place on, up to e
    abbrev Flatly : Chunks → Kind → List Keys → Anim → Forest → Type 0
    Flatly cs kind ks a f = (at : ℕ) → Laid s e at cs → (n : Counts) (parent : ℕ) → from n at ≡ kind_then kind ks f parent n e

    none-flat : Flatly done pivot [] no_anim no_nodes
    unfolding kind_rows with_kind move_rows with_lists forest_rows with_forest
    none-flat at h n parent = ap (flat_rows k n) (run-same s at e h)

    node_before : (p : ℕ) (b : List ℕ) (r : Chunks) (x : Inner) (f : Forest) → ((at : ℕ) → Here s at NODE p b → (n : Counts) (parent : ℕ) → from n at ≡ node_then x.self x.below parent n (p + 8 + length b))
        → Flatly r pivot [] no_anim f → Flatly (chunk NODE p b r) pivot [] no_anim (node x.self x.below f)
    unfolding kind_rows with_kind move_rows with_lists forest_rows with_forest
    node_before p b r x f same more at h n parent =
        let m = with_node x.self n in
        let q = with_forest x.below m in
        let own = own_rows k x.self parent (nodes_in x.below) n in
        let below = forest_rows k x.below n.nodes m in
        let later = forest_rows k f parent q in
        let end = from (with_forest f q) e in
        same at h.0 n parent
        ∙ ap (λ (l : List (List ℕ)). own ++ (below ++ l)) (more (p + 8 + length b) h.1 q parent)
        ∙ sym (append_assoc own (below ++ later) end ∙ ap (λ (l : List (List ℕ)). own ++ l) (append_assoc below later end))

    keys_before : (p : ℕ) (b : List ℕ) (r : Chunks) (x : Keys) (ks : List Keys) (a : Anim) (f : Forest) → read_keys p b ≡ accept x → Flatly r pivot ks a f → Flatly (chunk KEYS p b r) pivot (x ∷ ks) a f
    unfolding kind_rows with_kind move_rows with_lists add_keys
    keys_before p b r x ks a f g more at h n parent =
        past at KEYS p b h.0 (run_past s at KEYS p b h.0 tt) n
        ∙ ap (λ (y : Keys). key_list_rows k (n.nodes - 1) n.keys y ++ from (add_keys y n) (p + 8 + length b)) (keys-plain p b x g)
        ∙ ap (λ (l : List (List ℕ)). key_list_rows k (n.nodes - 1) n.keys x ++ l) (more (p + 8 + length b) h.1 (add_keys x n) parent)
        ∙ sym (append_assoc (key_list_rows k (n.nodes - 1) n.keys x) (move_rows k (n.nodes - 1) (n.keys + length x.items) ks) (nodes_then f parent (with_lists ks (add_keys x n)) e))

    anim_before : (p : ℕ) (b : List ℕ) (r : Chunks) (ws : List ℕ) (ks : List Keys) (f : Forest) → read_anim p b ≡ accept ws → Flatly r pivot ks no_anim f → Flatly (chunk ANIM p b r) pivot ks (anim ws) f
    anim_before p b r ws ks f g more at h n parent = past at ANIM p b h.0 (run_past s at ANIM p b h.0 tt) n ∙ more (p + 8 + length b) h.1 n parent

    mesh_before : (brushes p : ℕ) (b : List ℕ) (r : Chunks) (m : Mesh) (ks : List Keys) (a : Anim) (f : Forest) → read_mesh Lenient brushes p b ≡ accept m → Flatly r pivot ks a f → Flatly (chunk MESH p b r) (mesh m) ks a f
    unfolding kind_rows with_kind
    mesh_before brushes p b r m ks a f g more at h n parent =
        past at MESH p b h.0 (run_past s at MESH p b h.0 tt) n
        ∙ ap (λ (z : Mesh). kind_rows k (mesh z) (current n) ++ from (with_kind (mesh z) n) (p + 8 + length b)) (mesh_plain brushes p b m g)
        ∙ ap (λ (l : List (List ℕ)). kind_rows k (mesh m) (current n) ++ l) (more (p + 8 + length b) h.1 (with_kind (mesh m) n) parent)

    bone_before : (vertices p : ℕ) (b : List ℕ) (r : Chunks) (ws : List (List ℕ)) (ks : List Keys) (a : Anim) (f : Forest) → read_bone vertices p b ≡ accept ws → Flatly r pivot ks a f → Flatly (chunk BONE p b r) (bone ws) ks a f
    unfolding kind_rows with_kind
    bone_before vertices p b r ws ks a f g more at h n parent =
        past at BONE p b h.0 (run_past s at BONE p b h.0 tt) n
        ∙ ap (λ (z : List (List ℕ)). kind_rows k (bone z) (current n) ++ from (with_kind (bone z) n) (p + 8 + length b)) (bone-plain vertices p b ws g)
        ∙ ap (λ (l : List (List ℕ)). kind_rows k (bone ws) (current n) ++ l) (more (p + 8 + length b) h.1 (with_kind (bone ws) n) parent)

    flatly : (brushes vertices : ℕ) (read : ℕ → List ℕ → Result Inner)
        → ((p : ℕ) (b : List ℕ) (x : Inner) → read p b ≡ accept x → (at : ℕ) → Here s at NODE p b → (n : Counts) (parent : ℕ) → from n at ≡ node_then x.self x.below parent n (p + 8 + length b))
        → ByParts Lenient brushes vertices read Flatly
    flatly brushes vertices read same = record {
      none = none-flat;
      nodes = λ p b r x f g. node_before p b r x f (same p b x g);
      keys = keys_before;
      anims = anim_before;
      meshes = mesh_before brushes;
      bones = bone_before vertices;
    }

  -- ---- a node

  module _ (lo : 4 ≤ k) (hi : k ≤ 10) where
    -- the parts of a node one after the other are the node
    joined : (d : Data) (f : Forest) (parent : ℕ) (n : Counts) (e : ℕ) → kind_then d.kind d.keys f n.nodes (add_node n) e ≡ node_then d f parent n e
    joined d f parent n e =
        let kind = d.kind in
        let ks = d.keys in
        let m = with_kind kind (add_node n) in
        ap (λ (c : Counts). kind_rows k kind c ++ lists_then ks f n.nodes m e) (current-node n)
        ∙ ap₂ (λ (i j : ℕ). kind_rows k kind n ++ (move_rows k i j ks ++ nodes_then f n.nodes (with_lists ks m) e)) (kind-node kind n) (kind-keys kind n)
        ∙ ap (λ (c : Counts). kind_rows k kind n ++ (move_rows k n.nodes n.keys ks ++ nodes_then f n.nodes c e)) (node-counted d n)
        ∙ sym (append_assoc (kind_rows k kind n) (move_rows k n.nodes n.keys ks) (nodes_then f n.nodes (with_node d n) e))
        ∙ ap (λ (l : List (List ℕ)). l ++ nodes_then f n.nodes (with_node d n) e) (sym (own-parts k lo hi d parent (nodes_in f) n))

    into : (at p : ℕ) (b : List ℕ) → Here s at NODE p b → (x : Step (Name × List ℕ)) → named node_row (p + 8) b ≡ accept x → (n : Counts) → from n at ≡ from (add_node n) x.place
    unfolding flat_rows
    into at p b h x e n = ap (flat_rows k n) (run_into s at NODE p b h x tt e)

    pub node-flat : (l brushes : ℕ) (above : Option ℕ) (p : ℕ) (b : List ℕ) (x : Inner) → read_node Lenient l brushes above p b ≡ accept x → (at : ℕ) → Here s at NODE p b
        → (n : Counts) (parent : ℕ) → from n at ≡ node_then x.self x.below parent n (p + 8 + length b)
    unfolding read_node read_below inside
    node-flat zero brushes above p b x g at here n parent = bad_got g
    node-flat (suc l) brushes above p b x g at here n parent =
        by_got (named node_row (p + 8) b) _ g (λ h eh g₁.
        by_got (read_kind Lenient brushes (bone_limit above) (inside NODE p h.place h.left)) _ g₁ (λ kd ek g₂.
        by_got (read_animation no_anim kd.rest) _ g₂ (λ m em g₃.
        let d : Data = record { name = h.value.0; words = h.value.1; kind = kd.value; keys = m.value.keys; anim = m.value.anim } in
        by_got (read_nodes (read_node Lenient l brushes (bone_limit_below above d)) m.rest) _ g₃ (λ f ef g₄.
        let q = p + 8 + length b in
        let read = read_node Lenient l brushes (bone_limit_below above d) in
        let parts = flatly q brushes (bone_limit above) read (λ p' b' y ey. node-flat l brushes (bone_limit_below above d) p' b' y ey) in
        into at p b here h eh n
        ∙ parts-read Lenient brushes (bone_limit above) read (Flatly q) parts p (split h.place h.left) kd ek m em f ef h.place (inside_laid s at NODE p b here h eh) (add_node n) n.nodes
        ∙ joined d f parent n q
        ∙ ap (λ (y : Inner). node_then y.self y.below parent n q) (got_inj g₄)))))
