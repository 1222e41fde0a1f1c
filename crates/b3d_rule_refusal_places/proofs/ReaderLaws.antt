-- The readers of `parse` in a mode and in the lenient one, side by side: what each refuses says where the table says no, and which colour does not pass.
use mathlib.Core.Logic.{inl, inr}
use mathlib.Core.Path.{◌≡◌, refl, ap, sym, subst, ◌∙◌}
use Prim.Native.Nat.{ℕ, zero, suc, ◌+◌, ◌≤◌}
use native.Mathlib.Omega.{arith}
use mathlib.Core.Bool.{Bool, true, false}
use mathlib.Core.Option.{Option, none}
use mathlib.Core.List.{List, [], ◌∷◌}
use lib.ListN.{length}
use Rattle.wire.specs.Test.{if}
use Rattle.layout.specs.Chunks.{done, stop, chunk, ended}
use Rattle.layout.specs.Result.{Result, accept, reject}
use Rattle.layout.specs.Parts.{Name, Step, row, named}
use Rattle.layout.proofs.ResultLaws.{got_inj, bad_got}
use Rattle.layout.proofs.PlaceLaws.{At, named-at}
use Rattle.b3d_spec.specs.declared.Mode.{Mode}
use Rattle.b3d_spec.specs.declared.Mode.TheVariants.{Strict, Lenient}
use Rattle.b3d_spec.specs.declared.Tag.{Tag}
use Rattle.b3d_spec.specs.declared.Tag.TheVariants.{BB3D, TEXS, BRUS, NODE, MESH, VRTS, TRIS, BONE, KEYS, ANIM}
use Rattle.b3d_spec.specs.Nesting.{start, inside}
use Rattle.b3d_spec.specs.Parse.{read_one, read_textures, read_brushes, no_vertices, read_vertices, read_triangles, read_sets, read_mesh, read_bone, read_keys, read_anim, a_mesh, a_bone, read_kind, with_keys, read_animation, Inner as InnerNode, read_nodes, read_below, read_node, read_root, read_body}
use Rattle.b3d_spec.specs.Rules.{version, brush_id, file_head, node_row, mesh_head, bone_limit, bone_limit_below, levels}
use Rattle.b3d_spec.specs.Scene.{Anim, no_anim, anim, Data, no_nodes}
use Rattle.b3d_spec.specs.Tags.{is, Chunks, Found}
use Rattle.b3d_spec.proofs.Files.BodyRefusalLaws as body
use Rattle.b3d_spec.proofs.Files.EntryLaws.{same_tag}
use Rattle.b3d_spec.proofs.Files.TagLaws.{Only, Nothing, mesh-tags, node-tags, file-tags}
use Rattle.b3d_rule_refusal_places.specs.ByHeaders.{end_of}
use Rattle.b3d_rule_refusal_places.proofs.BodyLaws.{own-says, name-own, After, head_pair, free_one, Reads, textures-read, brushes-read, vertices-read, triangles-read, bone-read, keys-read, anim-read}
use Rattle.b3d_rule_refusal_places.proofs.ColourPairLaws.{part-is}
use Rattle.b3d_rule_refusal_places.proofs.ItemPairLaws.{Own, Pair, bind_pair, map_pair}
use Rattle.b3d_rule_refusal_places.proofs.FaultSearchLaws.{Found as FoundIn, met-later, found_inside, begin-later, BadColour}
use Rattle.b3d_rule_refusal_places.proofs.FixedDataLaws.{named-onward}
use Rattle.b3d_rule_refusal_places.proofs.ChunkFaultLaws.{Faults, Empty, Within, sooner_later, Inner, Tie, tie_as, From, tie_inside}

-- no colour stands in the chunk itself
no-colour : (mode : Mode) (s : List ℕ) (q n p m : ℕ) → (BadColour mode s MESH q n p m → ⊥) × (BadColour mode s NODE q n p m → ⊥)
no-colour Strict s q n p m = (λ x. x.3, λ x. x.3)
no-colour Lenient s q n p m = (λ x. x, λ x. x)

module _ (mode : Mode) (s : List ℕ) where
  -- ---- a chunk

  module _ (K : Faults) (last : ℕ) where
    -- the next chunk, by its reader
    step : {A : Type 0} (k t : Tag) (one other : ℕ → List ℕ → Result A) → Reads mode s k one other → t ≡ k → (q : ℕ) (b : List ℕ) (r : Chunks) → Tie mode s K last (chunk t q b r)
        → Pair K last (λ _. Tie mode s K last r) (one q b) (other q b)
    step {A} k t one other reads same q b r h =
        by (one q b) (subst (λ (u : Tag). Pair (Inner mode s u q) (end_of s q) (λ _. Empty (Inner mode s u q)) (one q b) (other q b)) (sym same) (reads q b h.0.stands h.0.size))
      where
        by : (o : Result A) → Pair (Inner mode s t q) (end_of s q) (λ _. Empty (Inner mode s t q)) o (other q b) → Pair K last (λ _. Tie mode s K last r) o (other q b)
        by (accept a) x = (h.1 x.0, x.1)
        by (reject n p) x = (
          record {
            given = λ c. let y = x.0.given c in (y.0, h.0.into n p y.0 y.1);
            first = λ i j m f. elim (h.0.parts i j m f) [ inl g ↦ x.0.first i j m g | inr g ↦ inr (sooner_later (end_of s q) m n p g x.0.soon) ];
            soon = sooner_later (end_of s q) last n p h.0.fits x.0.soon;
          },
          elim x.1 [ inl e ↦ inl e | inr y ↦ inr (h.0.into n p p y) ],
        )

    if_pair : {A : Type 0} (P : A → Type 0) (c : Bool) (x x' y y' : Result A) → (c ≡ true → Pair K last P x x') → (c ≡ false → Pair K last P y y') → Pair K last P (if c x y) (if c x' y')
    unfolding if
    if_pair P true x x' y y' f g = f refl
    if_pair P false x x' y y' f g = g refl

    abbrev Rest : {A : Type 0} → Found A → Type 0
    Rest x = Tie mode s K last x.rest

    one_pair : {A : Type 0} (k : Tag) (a : A) (one other : ℕ → List ℕ → Result A) → Reads mode s k one other → (cs : Chunks) → Tie mode s K last cs → Pair K last Rest (read_one k a one cs) (read_one k a other cs)
    unfolding read_one
    one_pair k a one other reads done h = (h, refl)
    one_pair k a one other reads (stop n p) h = (h, inl refl)
    one_pair k a one other reads (chunk t p b r) h =
        if_pair Rest (is t k) _ _ _ _ (λ e. bind_pair K last (λ _. Tie mode s K last r) Rest (one p b) (other p b) _ _ (step k t one other reads (same_tag t k e) p b r h) (λ x _ _ g. (g, refl))) (λ e. (h, refl))

    ended_pair : {A : Type 0} (cs : Chunks) (a : A) → Nothing cs → Tie mode s K last cs → Pair K last (λ _. Empty K) (ended cs a) (ended cs a)
    unfolding ended
    ended_pair done a n h = (h, refl)
    ended_pair (stop i p) a n h = (h, inl refl)
    ended_pair (chunk t p b r) a n h = absurd n

  -- ---- a MESH

  module _ (K : Faults) (last : ℕ) where
    sets_pair : (brushes n : ℕ) (cs : Chunks) → Only TRIS cs → Tie mode s K last cs → Pair K last (λ _. Empty K) (read_sets brushes n cs) (read_sets brushes n cs)
    unfolding read_sets
    sets_pair brushes n done o h = (h, refl)
    sets_pair brushes n (stop i p) o h = (h, inl refl)
    sets_pair brushes n (chunk t p b r) o h =
        bind_pair K last (λ _. Tie mode s K last r) (λ _. Empty K) (read_triangles brushes n p b) (read_triangles brushes n p b) _ _
        (step K last TRIS t (read_triangles brushes n) (read_triangles brushes n) (triangles-read mode s brushes n) o.0 p b r h) (λ x _ _ g.
        map_pair K last (Empty K) (λ l. x ∷ l) (read_sets brushes n r) (read_sets brushes n r) (sets_pair brushes n r o.1 g))

  mesh-read : (brushes : ℕ) → Reads mode s MESH (read_mesh mode brushes) (read_mesh Lenient brushes)
  unfolding read_mesh
  mesh-read brushes q b at size =
      let last = end_of s q in
      let K = Inner mode s MESH q in
      let L = From mode s MESH q (q + 12) last start in
      let four : q + 12 ≡ q + 8 + 4 = omega arith in
      let into : Within K L = λ n p m x. elim x [ inl y ↦ subst (λ (z : ℕ). FoundIn mode s n p m MESH q z last start) (y.1.0 ∙ sym four) y.2 | inr y ↦ absurd ((no-colour mode s q n p m).0 y) ] in
      bind_pair K last (After s last (q + 12)) (λ _. Empty K) (row (mesh_head brushes) (q + 8) b) (row (mesh_head brushes) (q + 8) b) _ _
      (head_pair s K last (mesh_head brushes) (free_one (brush_id brushes) refl) refl (q + 8) (q + 12) (omega arith) b at (sym size)
      (λ n p m x. let y = into n p m x in (found_inside mode s n p m MESH q (q + 12) last start y, met-later mode s n p m MESH q (q + 12) last start y))) (λ x ex _ hx.
      let cs = inside MESH q x.place x.left in
      let tie : Tie mode s K last cs = tie_as mode s (From mode s MESH q x.place last start) K last cs
      (λ n p m f. inl (x.place, (hx.place ∙ four, omega (arith, hx.ends)), f))
      (λ n p m f. subst (λ (z : ℕ). FoundIn mode s n p m MESH q z last start) (sym hx.place) (into n p m f))
      (tie_inside mode s MESH q x.place last x.left hx.stands hx.ends (omega (arith, hx.place))) in
      bind_pair K last (Rest K last) (λ _. Empty K) (read_one VRTS no_vertices (read_vertices mode) cs) (read_one VRTS no_vertices (read_vertices Lenient) cs) _ _
      (one_pair K last VRTS no_vertices (read_vertices mode) (read_vertices Lenient) (vertices-read s mode) cs tie) (λ v ev _ hv.
      bind_pair K last (λ _. Empty K) (λ _. Empty K) (read_sets brushes (length v.value.items) v.rest) (read_sets brushes (length v.value.items) v.rest) _ _
      (sets_pair K last brushes (length v.value.items) v.rest (mesh-tags mode q x.place x.left v ev) hv) (λ l _ _ e. (e, refl))))

  -- ---- a NODE

  module _ (K : Faults) (last : ℕ) where
    kind_pair : (brushes n : ℕ) (cs : Chunks) → Tie mode s K last cs → Pair K last (Rest K last) (read_kind mode brushes n cs) (read_kind Lenient brushes n cs)
    unfolding read_kind a_mesh a_bone
    kind_pair brushes n done h = (h, refl)
    kind_pair brushes n (stop i p) h = (h, inl refl)
    kind_pair brushes n (chunk t p b r) h =
        if_pair K last (Rest K last) (is t MESH) _ _ _ _
        (λ e. bind_pair K last (λ _. Tie mode s K last r) (Rest K last) (read_mesh mode brushes p b) (read_mesh Lenient brushes p b) _ _
        (step K last MESH t (read_mesh mode brushes) (read_mesh Lenient brushes) (mesh-read brushes) (same_tag t MESH e) p b r h) (λ m _ _ g. (g, refl)))
        (λ _. if_pair K last (Rest K last) (is t BONE) _ _ _ _
        (λ e. bind_pair K last (λ _. Tie mode s K last r) (Rest K last) (read_bone n p b) (read_bone n p b) _ _
        (step K last BONE t (read_bone n) (read_bone n) (bone-read mode s n) (same_tag t BONE e) p b r h) (λ w _ _ g. (g, refl))) (λ _. (h, refl)))

    moves_pair : (cs : Chunks) (seen : Anim) → Tie mode s K last cs → Pair K last (Rest K last) (read_animation seen cs) (read_animation seen cs)
    unfolding read_animation with_keys
    moves_pair done seen h = (h, refl)
    moves_pair (stop i p) seen h = (h, inl refl)
    moves_pair (chunk t p b r) seen h =
        if_pair K last (Rest K last) (is t KEYS) _ _ _ _
        (λ e. bind_pair K last (λ _. Tie mode s K last r) (Rest K last) (read_keys p b) (read_keys p b) _ _ (step K last KEYS t read_keys read_keys (keys-read mode s) (same_tag t KEYS e) p b r h) (λ k _ _ g.
        bind_pair K last (Rest K last) (Rest K last) (read_animation seen r) (read_animation seen r) _ _ (moves_pair r seen g) (λ x _ _ f. (f, refl))))
        (λ _. if_pair K last (Rest K last) (is t ANIM) _ _ _ _
        (λ e. bind_pair K last (λ _. Tie mode s K last r) (Rest K last) (read_anim p b) (read_anim p b) _ _ (step K last ANIM t read_anim read_anim (anim-read mode s) (same_tag t ANIM e) p b r h) (λ ws _ _ g.
        moves_pair r (anim ws) g)) (λ _. (h, refl)))

    nodes_pair : (one other : ℕ → List ℕ → Result InnerNode) → Reads mode s NODE one other → (cs : Chunks) → Only NODE cs → Tie mode s K last cs → Pair K last (λ _. Empty K) (read_nodes one cs) (read_nodes other cs)
    unfolding read_nodes
    nodes_pair one other reads done o h = (h, refl)
    nodes_pair one other reads (stop i p) o h = (h, inl refl)
    nodes_pair one other reads (chunk t p b r) o h =
        bind_pair K last (λ _. Tie mode s K last r) (λ _. Empty K) (one p b) (other p b) _ _ (step K last NODE t one other reads o.0 p b r h) (λ x _ _ g.
        bind_pair K last (λ _. Empty K) (λ _. Empty K) (read_nodes one r) (read_nodes other r) _ _ (nodes_pair one other reads r o.1 g) (λ l _ _ e. (e, refl)))

  -- a name and ten floats: where they are refused no chunk is looked for behind them
  node-head : (q : ℕ) (b : List ℕ) → At s (q + 8) b → end_of s q ≡ q + 8 + length b
      → Pair (Inner mode s NODE q) (end_of s q) (λ x. x.place + length x.left ≡ end_of s q) (named node_row (q + 8) b) (named node_row (q + 8) b)
  node-head q b at size = by (named node_row (q + 8) b) refl (name-own node_row (end_of s q) (q + 8) b (omega arith))
    where
      by : (o : Result (Step (Name × List ℕ))) → named node_row (q + 8) b ≡ o → body.Low (Own (end_of s q)) (λ x. x.place + length x.left ≤ end_of s q) o
          → Pair (Inner mode s NODE q) (end_of s q) (λ x. x.place + length x.left ≡ end_of s q) o o
      by (accept x) e k = ((named-onward node_row (q + 8) b x e).same ∙ sym size, refl)
      by (reject n p) e k = (
        own-says (Inner mode s NODE q) (end_of s q) n p k
            (λ i j m f. elim f [ inl g ↦ bad_got (sym e ∙ sym (ap (named node_row (q + 8)) (part-is s (q + 8) (end_of s q) b at (sym size))) ∙ g.1.1) | inr g ↦ (no-colour mode s q i j m).1 g ]),
        inl refl,
      )

  node-read : (l brushes : ℕ) (above : Option ℕ) → Reads mode s NODE (read_node mode l brushes above) (read_node Lenient l brushes above)
  unfolding read_node read_below
  node-read zero brushes above q b at size = (
    record {
      given = λ c. elim c [ inl z ↦ absurd (omega arith) | inr z ↦ absurd (omega arith) ];
      first = λ n p m x. elim x [
        | inl f ↦
            let i = begin-later s NODE (q + 8) (end_of s q) f.0 f.1 in
            let j = met-later mode s n p m NODE q f.0 (end_of s q) start f.2 in
            inr (inl (omega arith))
        | inr f ↦ absurd ((no-colour mode s q n p m).1 f)
      ];
      soon = inl (omega arith);
    },
    inl refl,
  )
  node-read (suc l) brushes above q b at size =
      let last = end_of s q in
      let K = Inner mode s NODE q in
      let whole = part-is s (q + 8) last b at (sym size) in
      bind_pair K last (λ x. x.place + length x.left ≡ last) (λ _. Empty K) (named node_row (q + 8) b) (named node_row (q + 8) b) _ _ (node-head q b at size) (λ x ex _ hx.
      let cs = inside NODE q x.place x.left in
      let tie : Tie mode s K last cs = tie_as mode s (From mode s NODE q x.place last start) K last cs
      (λ n p m f. inl (x.place, (x, ap (named node_row (q + 8)) whole ∙ ex, refl), f))
      (λ n p m f. elim f [
        | inl g ↦ subst (λ (z : ℕ). FoundIn mode s n p m NODE q z last start)
            (g.1.2 ∙ ap (λ (y : Step (Name × List ℕ)). y.place) (got_inj (sym g.1.1 ∙ ap (named node_row (q + 8)) whole ∙ ex))) g.2
        | inr g ↦ absurd ((no-colour mode s q n p m).1 g)
      ])
      (tie_inside mode s NODE q x.place last x.left (named-at s node_row (q + 8) b x at ex).0 hx (named-onward node_row (q + 8) b x ex).later) in
      bind_pair K last (Rest K last) (λ _. Empty K) (read_kind mode brushes (bone_limit above) cs) (read_kind Lenient brushes (bone_limit above) cs) _ _ (kind_pair K last brushes (bone_limit above) cs tie) (λ k ek _ hk.
      bind_pair K last (Rest K last) (λ _. Empty K) (read_animation no_anim k.rest) (read_animation no_anim k.rest) _ _ (moves_pair K last k.rest no_anim hk) (λ m em _ hm.
      let d : Data = record { name = x.value.0; words = x.value.1; kind = k.value; keys = m.value.keys; anim = m.value.anim } in
      let one = read_node mode l brushes (bone_limit_below above d) in
      let other = read_node Lenient l brushes (bone_limit_below above d) in
      bind_pair K last (λ _. Empty K) (λ _. Empty K) (read_nodes one m.rest) (read_nodes other m.rest) _ _
      (nodes_pair K last one other (node-read l brushes (bone_limit_below above d)) m.rest (node-tags mode brushes (bone_limit above) q x.place x.left k no_anim m ek em) hm) (λ f _ _ e. (e, refl)))))

  root_read : (brushes : ℕ) → Reads mode s NODE (read_root mode brushes) (read_root Lenient brushes)
  unfolding read_root
  root_read brushes q b at size =
      let K = Inner mode s NODE q in
      bind_pair K (end_of s q) (λ _. Empty K) (λ _. Empty K) (read_node mode levels brushes none q b) (read_node Lenient levels brushes none q b) _ _ (node-read levels brushes none q b at size) (λ x _ _ e. (e, refl))

  -- ---- a BB3D's body

  abbrev pub InBody : Faults
  InBody = From mode s BB3D 0 12 (length s) start

  pub body_pair : (b : List ℕ) → At s 8 b → 8 + length b ≡ length s → Pair InBody (length s) (λ _. Empty InBody) (read_body mode 8 b) (read_body Lenient 8 b)
  unfolding read_body
  body_pair b at size =
      let last = length s in
      let K = InBody in
      bind_pair K last (After s last 12) (λ _. Empty K) (row file_head 8 b) (row file_head 8 b) _ _
      (head_pair s K last file_head (free_one version refl) refl 8 12 refl b at size (λ n p m x. (found_inside mode s n p m BB3D 0 12 last start x, met-later mode s n p m BB3D 0 12 last start x))) (λ x ex _ hx.
      let cs = inside BB3D 0 x.place x.left in
      let tie : Tie mode s K last cs = tie_as mode s (From mode s BB3D 0 x.place last start) K last cs
      (λ n p m f. subst (λ (z : ℕ). FoundIn mode s n p m BB3D 0 z last start) hx.place f)
      (λ n p m f. subst (λ (z : ℕ). FoundIn mode s n p m BB3D 0 z last start) (sym hx.place) f)
      (tie_inside mode s BB3D 0 x.place last x.left hx.stands hx.ends (omega (arith, hx.place))) in
      bind_pair K last (Rest K last) (λ _. Empty K) (read_one TEXS [] read_textures cs) (read_one TEXS [] read_textures cs) _ _ (one_pair K last TEXS [] read_textures read_textures (textures-read mode s) cs tie) (λ t et _ ht.
      let two = read_brushes mode (length t.value) in
      let soft = read_brushes Lenient (length t.value) in
      bind_pair K last (Rest K last) (λ _. Empty K) (read_one BRUS (0, []) two t.rest) (read_one BRUS (0, []) soft t.rest) _ _ (one_pair K last BRUS (0, []) two soft (brushes-read s mode (length t.value)) t.rest ht) (λ u eu _ hu.
      let three = read_root mode (length u.value.1) in
      let loose = read_root Lenient (length u.value.1) in
      bind_pair K last (Rest K last) (λ _. Empty K) (read_one NODE no_nodes three u.rest) (read_one NODE no_nodes loose u.rest) _ _ (one_pair K last NODE no_nodes three loose (root_read (length u.value.1)) u.rest hu) (λ n en _ hn.
      ended_pair K last n.rest _ (file-tags [] (0, []) no_nodes read_textures two three x.place x.left t u n et eu en) hn))))
