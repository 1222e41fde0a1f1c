-- Each name of a scene that was read stands in the file at its place.
use mathlib.Core.Path.{◌≡◌, sym, subst}
use Prim.Native.Nat.{ℕ, zero, suc, ◌+◌}
use mathlib.Core.Bool.{Bool, true, false}
use mathlib.Core.Option.{Option, none, some}
use mathlib.Core.List.{List, [], ◌++◌, append-nil}
use lib.ListN.{length}
use lib.Dec.{eqb}
use Rattle.wire.specs.Test.{if}
use Rattle.layout.specs.Chunks.{done, stop, chunk}
use Rattle.layout.specs.Result.{Result, accept}
use Rattle.layout.specs.Parts.{Step, row, number, named, items}
use Rattle.layout.proofs.ChunkLaws.{ended-fine}
use Rattle.layout.proofs.AllLaws.{All}
use Rattle.layout.proofs.ResultLaws.{by-check, by-if, by_got, bad_got, got_inj}
use Rattle.b3d_spec.specs.declared.Mode.TheVariants.{Lenient}
use Rattle.b3d_spec.specs.Nesting.{nesting, Reached, start, required_between, end, next, onward, order, inside}
use Rattle.b3d_spec.specs.Parse.{read_texture, read_textures, read_brush, read_brushes, read_mesh, read_bone, read_keys, read_anim, a_mesh, a_bone, read_kind, Animation, with_keys, read_animation, Inner, read_nodes, read_below, read_node, read_root, read_one, read_body, parse}
use Rattle.b3d_spec.specs.Rules.{texture_row, brush_row, brush_ids, node_row, bone_limit, bone_limit_below, levels, header, file_head, brushes_head}
use Rattle.b3d_spec.specs.Scene.{Texture, Brush, Kind, Anim, no_anim, anim, Data, Forest, no_nodes, node, Scene}
use Rattle.b3d_spec.specs.declared.Tag.{Tag}
use Rattle.b3d_spec.specs.declared.Tag.TheVariants.{BB3D, TEXS, BRUS, NODE, MESH, BONE, KEYS, ANIM}
use Rattle.b3d_spec.specs.Tags.{code, tag_of, is, Chunks, split, Found}
use Rattle.layout.proofs.PlaceLaws.{At, NameIn, Stands, Stays, row-at, named-at, items_at, split_at}
use Rattle.layout.specs.Rows.{size_fits}

abbrev pub NodeNames : List ℕ → Forest → Type 0
NodeNames s no_nodes = Unit {0}
NodeNames s (node d f g) = NameIn s d.name × NodeNames s f × NodeNames s g

pub record NamesIn (s : List ℕ) (t : Scene) : Type 0 where
  pub textures : All (λ (x : Texture). NameIn s x.name) t.textures
  pub brushes : All (λ (x : Brush). NameIn s x.name) t.brushes
  pub nodes : NodeNames s t.nodes

module _ (s : List ℕ) where
  end_at : (b : Bool) (head : ℕ) → Stands s {Tag = Tag} (if b (stop 8 head) done)
  unfolding if
  end_at true head = tt
  end_at false head = tt

  onward_at : (o : Option Reached) (p : ℕ) (go : Reached → Chunks) → ((r : Reached) → Stands s (go r)) → Stands s (onward o p go)
  unfolding onward
  onward_at none p go h = tt
  onward_at (some r) p go h = h r

  order_at : (k : Tag) (head : ℕ) (r : Reached) (cs : Chunks) → Stands s cs → Stands s (order k head r cs)
  unfolding order
  order_at k head r done h = end_at (required_between (nesting k) r.turn end) head
  order_at k head r (stop i p) h = tt
  order_at k head r (chunk t p b l) h = onward_at (next (nesting k) (nesting k) r t) p _ (λ q. (h.0, order_at k head q l h.1))

  pub inside_at : (k : Tag) (head p : ℕ) (b : List ℕ) → At s p b → Stands s (inside k head p b)
  unfolding inside
  inside_at k head p b h = order_at k head start (split p b) (split_at s tag_of p b h)

  pub kind_at : (brushes n : ℕ) (cs : Chunks) (x : Found Kind) → Stands s cs → read_kind Lenient brushes n cs ≡ accept x → Stands s x.rest
  unfolding read_kind a_mesh a_bone
  kind_at brushes n done x h e = subst (λ (y : Found Kind). Stands s y.rest) (got_inj e) tt
  kind_at brushes n (stop i p) x h e = bad_got e
  kind_at brushes n (chunk t p b r) x h e =
      by-if (is t MESH) _ _ e
      (λ u e₁. by_got (read_mesh Lenient brushes p b) _ e₁ (λ m em e₂. subst (λ (y : Found Kind). Stands s y.rest) (got_inj e₂) h.1))
      (λ u e₁. by-if (is t BONE) _ _ e₁
      (λ v e₂. by_got (read_bone n p b) _ e₂ (λ m em e₃. subst (λ (y : Found Kind). Stands s y.rest) (got_inj e₃) h.1))
      (λ v e₂. subst (λ (y : Found Kind). Stands s y.rest) (got_inj e₂) h))

  pub moves_at : (cs : Chunks) (seen : Anim) (x : Found Animation) → Stands s cs → read_animation seen cs ≡ accept x → Stands s x.rest
  unfolding read_animation with_keys
  moves_at done seen x h e = subst (λ (y : Found Animation). Stands s y.rest) (got_inj e) tt
  moves_at (stop i p) seen x h e = bad_got e
  moves_at (chunk t p b r) seen x h e =
      by-if (is t KEYS) _ _ e
      (λ u e₁. by_got (read_keys p b) _ e₁ (λ k ek e₂.
      by_got (read_animation seen r) _ e₂ (λ y ey e₃. subst (λ (z : Found Animation). Stands s z.rest) (got_inj e₃) (moves_at r seen y h.1 ey))))
      (λ u e₁. by-if (is t ANIM) _ _ e₁
      (λ v e₂. by_got (read_anim p b) _ e₂ (λ ws ew e₃. moves_at r (anim ws) x h.1 e₃))
      (λ v e₂. subst (λ (z : Found Animation). Stands s z.rest) (got_inj e₂) h))

  -- ---- nodes

  abbrev InnerNames : Inner → Type 0
  InnerNames x = NameIn s x.self.name × NodeNames s x.below

  nodes_at : (one : ℕ → List ℕ → Result Inner) → ((p : ℕ) (b : List ℕ) (x : Inner) → At s (p + 8) b → one p b ≡ accept x → InnerNames x)
      → (cs : Chunks) (f : Forest) → Stands s cs → read_nodes one cs ≡ accept f → NodeNames s f
  unfolding read_nodes
  nodes_at one go done f h e = subst (NodeNames s) (got_inj e) tt
  nodes_at one go (stop i p) f h e = bad_got e
  nodes_at one go (chunk t p b r) f h e =
      by_got (one p b) _ e (λ x ex e₁. let i = go p b x h.0 ex in
      by_got (read_nodes one r) _ e₁ (λ g eg e₂.
      subst (NodeNames s) (got_inj e₂) (i.0, i.1, nodes_at one go r g h.1 eg)))

  node_at : (l brushes : ℕ) (above : Option ℕ) (p : ℕ) (b : List ℕ) (x : Inner) → At s (p + 8) b → read_node Lenient l brushes above p b ≡ accept x → InnerNames x
  unfolding read_node read_below
  node_at zero brushes above p b x h e = bad_got e
  node_at (suc l) brushes above p b x h e =
      by_got (named node_row (p + 8) b) _ e (λ y ey e₁. let f = named-at s node_row (p + 8) b y h ey in
      by_got (read_kind Lenient brushes (bone_limit above) (inside NODE p y.place y.left)) _ e₁ (λ k ek e₂.
      let g = kind_at brushes (bone_limit above) (inside NODE p y.place y.left) k (inside_at NODE p y.place y.left f.0) ek in
      by_got (read_animation no_anim k.rest) _ e₂ (λ m em e₃.
      let i = moves_at k.rest no_anim m g em in
      let d : Data = record { name = y.value.0; words = y.value.1; kind = k.value; keys = m.value.keys; anim = m.value.anim } in
      by_got (read_nodes (read_node Lenient l brushes (bone_limit_below above d)) m.rest) _ e₃ (λ w ew e₄.
      subst InnerNames (got_inj e₄)
      (f.1, nodes_at (read_node Lenient l brushes (bone_limit_below above d)) (node_at l brushes (bone_limit_below above d)) m.rest w i ew)))))

  -- ---- the file

  pub one_at : {A : Type 0} (P : A → Type 0) (k : Tag) (a : A) → P a → (one : ℕ → List ℕ → Result A)
      → ((p : ℕ) (b : List ℕ) (x : A) → At s (p + 8) b → one p b ≡ accept x → P x)
      → (cs : Chunks) (x : Found A) → Stands s cs → read_one k a one cs ≡ accept x → P x.value × Stands s x.rest
  unfolding read_one
  one_at {A} P k a pa one go done x h e = subst (λ (y : Found A). P y.value × Stands s y.rest) (got_inj e) (pa, tt)
  one_at P k a pa one go (stop i p) x h e = bad_got e
  one_at {A} P k a pa one go (chunk t p b r) x h e =
      by-if (is t k) _ _ e
      (λ u e₁. by_got (one p b) _ e₁ (λ y ey e₂. subst (λ (z : Found A). P z.value × Stands s z.rest) (got_inj e₂) (go p b y h.0 ey, h.1)))
      (λ u e₁. subst (λ (z : Found A). P z.value × Stands s z.rest) (got_inj e₁) (pa, h))

  texture_at : Stays s (λ (t : Texture). NameIn s t.name) read_texture
  unfolding read_texture
  texture_at p b x h e =
      by_got (named texture_row p b) _ e (λ y ey e₁.
      subst (λ (z : Step Texture). At s z.place z.left × NameIn s z.value.name) (got_inj e₁) (named-at s texture_row p b y h ey))

  pub textures_at : (p : ℕ) (b : List ℕ) (l : List Texture) → At s (p + 8) b → read_textures p b ≡ accept l → All (λ (t : Texture). NameIn s t.name) l
  unfolding read_textures
  textures_at p b l h e = items_at s (λ (t : Texture). NameIn s t.name) read_texture texture_at (p + 8) b l h e

  pub brush_at : (n textures : ℕ) → Stays s (λ (t : Brush). NameIn s t.name) (read_brush Lenient n textures)
  unfolding read_brush
  brush_at n textures p b x h e =
      by_got (named (brush_row Lenient ++ brush_ids n textures) p b) _ e (λ y ey e₁.
      subst (λ (z : Step Brush). At s z.place z.left × NameIn s z.value.name) (got_inj e₁) (named-at s (brush_row Lenient ++ brush_ids n textures) p b y h ey))

  abbrev BrushNames : ℕ × List Brush → Type 0
  BrushNames x = All (λ (t : Brush). NameIn s t.name) x.1

  pub brushes-at : (textures p : ℕ) (b : List ℕ) (x : ℕ × List Brush) → At s (p + 8) b → read_brushes Lenient textures p b ≡ accept x → BrushNames x
  unfolding read_brushes
  brushes-at textures p b x h e =
      by_got (row brushes_head (p + 8) b) _ e (λ y ey e₁.
      by_got (items (read_brush Lenient (number y 0) textures) y.place y.left) _ e₁ (λ l el e₂.
      subst BrushNames (got_inj e₂)
      (items_at s (λ (t : Brush). NameIn s t.name) (read_brush Lenient (number y 0) textures) (brush_at (number y 0) textures) y.place y.left l (row-at s brushes_head (p + 8) b y h ey) el)))

  root_at : (brushes p : ℕ) (b : List ℕ) (f : Forest) → At s (p + 8) b → read_root Lenient brushes p b ≡ accept f → NodeNames s f
  unfolding read_root
  root_at brushes p b f h e =
      by_got (read_node Lenient levels brushes none p b) _ e (λ x ex e₁. let i = node_at levels brushes none p b x h ex in
      subst (NodeNames s) (got_inj e₁) (i.0, i.1, tt))

  body_at : (p : ℕ) (b : List ℕ) (t : Scene) → At s p b → read_body Lenient p b ≡ accept t → NamesIn s t
  unfolding read_body
  body_at p b t h e =
      by_got (row file_head p b) _ e (λ v ev e₁.
      let cs = inside BB3D 0 v.place v.left in
      by_got (read_one TEXS [] read_textures cs) _ e₁ (λ x ex e₂.
      let f = one_at (All (λ (y : Texture). NameIn s y.name)) TEXS [] tt read_textures textures_at cs x (inside_at BB3D 0 v.place v.left (row-at s file_head p b v h ev)) ex in
      by_got (read_one BRUS (0, []) (read_brushes Lenient (length x.value)) x.rest) _ e₂ (λ y ey e₃.
      let g = one_at BrushNames BRUS (0, []) tt (read_brushes Lenient (length x.value)) (brushes-at (length x.value)) x.rest y f.1 ey in
      by_got (read_one NODE no_nodes (read_root Lenient (length y.value.1)) y.rest) _ e₃ (λ z ez e₄.
      let i = one_at (NodeNames s) NODE no_nodes tt (read_root Lenient (length y.value.1)) (root_at (length y.value.1)) y.rest z g.1 ez in
      subst (NamesIn s) (ended-fine z.rest _ t e₄) (record { textures = f.0; brushes = g.0; nodes = i.0 })))))

  pub parse_names : (t : Scene) → parse Lenient s ≡ accept t → NamesIn s t
  unfolding parse
  parse_names t e =
      by-check (size_fits (length s)) 1 0 _ e (λ z e₁.
      by_got (row header 0 s) _ e₁ (λ x ex e₂.
      by-check (eqb (number x 0) (code BB3D)) 2 0 _ e₂ (λ u e₃.
      by-check (eqb (number x 1) (length x.left)) 2 4 _ e₃ (λ v e₄.
      body_at x.place x.left t (row-at s header 0 s x (record { after = []; stands = sym (append-nil s) }) ex) e₄))))
