-- The chunks inside a NODE that was read are a MESH or a BONE, or neither, then KEYS and at most one ANIM, then NODEs: what holds of no chunk, and with each
-- of these before chunks of which it holds, holds of them.
use mathlib.Core.Path.{◌≡◌, refl, ap, sym, subst, ◌∙◌}
use Prim.Native.Nat.{ℕ}
use mathlib.Core.Bool.{true, false}
use mathlib.Core.List.{List, [], ◌∷◌}
use Rattle.wire.specs.Test.{if}
use Rattle.layout.specs.Chunks.{done, stop, chunk}
use Rattle.layout.specs.Result.{Result, accept}
use Rattle.layout.proofs.ResultLaws.{by_got, bad_got, got_inj}
use Rattle.b3d_spec.specs.declared.Mode.{Mode}
use Rattle.b3d_spec.specs.declared.Tag.TheVariants.{NODE, MESH, BONE, KEYS, ANIM}
use Rattle.b3d_spec.specs.Nesting.{start, next, onward, order, reached_at}
use Rattle.b3d_spec.specs.Parse.{read_mesh, read_bone, read_keys, read_anim, a_mesh, a_bone, read_kind, Animation, with_keys, read_animation, Inner, read_nodes}
use Rattle.b3d_spec.specs.Scene.{Mesh, Kind, pivot, mesh, bone, Keys, Anim, no_anim, anim, Forest, no_nodes, node}
use Rattle.b3d_spec.specs.Tags.{Chunks, Found}
use Rattle.b3d_spec.proofs.Files.EntryLaws.{◌▸◌, by-entry}
use Rattle.b3d_spec_chunk_places.proofs.NestingStateLaws.{kind-order}

-- H cs k ks a f: the chunks cs have the kind k, the key lists ks, the ANIM a and the nodes f
pub record ByParts (mode : Mode) (brushes vertices : ℕ) (read : ℕ → List ℕ → Result Inner) (H : Chunks → Kind → List Keys → Anim → Forest → Type 0) : Type 0 where
  pub none : H done pivot [] no_anim no_nodes
  pub nodes : (p : ℕ) (b : List ℕ) (r : Chunks) (x : Inner) (f : Forest) → read p b ≡ accept x → H r pivot [] no_anim f → H (chunk NODE p b r) pivot [] no_anim (node x.self x.below f)
  pub keys : (p : ℕ) (b : List ℕ) (r : Chunks) (k : Keys) (ks : List Keys) (a : Anim) (f : Forest) → read_keys p b ≡ accept k → H r pivot ks a f → H (chunk KEYS p b r) pivot (k ∷ ks) a f
  pub anims : (p : ℕ) (b : List ℕ) (r : Chunks) (ws : List ℕ) (ks : List Keys) (f : Forest) → read_anim p b ≡ accept ws → H r pivot ks no_anim f → H (chunk ANIM p b r) pivot ks (anim ws) f
  pub meshes : (p : ℕ) (b : List ℕ) (r : Chunks) (m : Mesh) (ks : List Keys) (a : Anim) (f : Forest) → read_mesh mode brushes p b ≡ accept m → H r pivot ks a f → H (chunk MESH p b r) (mesh m) ks a f
  pub bones : (p : ℕ) (b : List ℕ) (r : Chunks) (ws : List (List ℕ)) (ks : List Keys) (a : Anim) (f : Forest) → read_bone vertices p b ≡ accept ws → H r pivot ks a f → H (chunk BONE p b r) (bone ws) ks a f

module _ (mode : Mode) (brushes vertices : ℕ) (read : ℕ → List ℕ → Result Inner) (H : Chunks → Kind → List Keys → Anim → Forest → Type 0) (by : ByParts mode brushes vertices read H) (head : ℕ) where
  -- ---- nodes

  nodes_read : (cs : Chunks) (f : Forest) → read_nodes read (order NODE head (reached_at 3 false) cs) ≡ accept f → H cs pivot [] no_anim f
  unfolding read_nodes order onward next if
  nodes_read done f e = subst (H done pivot [] no_anim) (got_inj e) by.none
  nodes_read (stop i p) f e = bad_got e
  nodes_read (chunk t p b r) f e =
      by-entry NODE head (reached_at 3 false) p b r (λ u o. read_nodes read o ≡ accept f → H (chunk u p b r) pivot [] no_anim f) (λ u e. bad_got e)
      (tt ▸ tt ▸ tt ▸ tt
      ▸ (λ e. by_got (read p b) _ e (λ x ex e₁.
      by_got (read_nodes read (order NODE head (reached_at 3 false) r)) _ e₁ (λ g eg e₂.
      subst (H (chunk NODE p b r) pivot [] no_anim) (got_inj e₂) (by.nodes p b r x g ex (nodes_read r g eg))))) ▸ tt) t e

  -- ---- KEYS and ANIM

  -- what holds of chunks and of the moves read of them, by a KEYS more
  module _ (seen : Anim) (Holds : Chunks → Animation → Forest → Type 0)
      (step : (p : ℕ) (b : List ℕ) (r : Chunks) (k : Keys) (m : Animation) (f : Forest) → read_keys p b ≡ accept k → Holds r m f → Holds (chunk KEYS p b r) (record { keys = k ∷ m.keys; anim = m.anim }) f) where
    by_keys : (p : ℕ) (b : List ℕ) (r rest : Chunks) → ((y : Found Animation) → read_animation seen rest ≡ accept y → (f : Forest) → read_nodes read y.rest ≡ accept f → Holds r y.value f)
        → (y : Found Animation) → read_animation seen (chunk KEYS p b rest) ≡ accept y → (f : Forest) → read_nodes read y.rest ≡ accept f → Holds (chunk KEYS p b r) y.value f
    unfolding read_animation with_keys if
    by_keys p b r rest more y e f ef =
        by_got (read_keys p b) _ e (λ k ek e₁.
        by_got (read_animation seen rest) _ e₁ (λ z ez e₂.
        let v = more z ez f (ap (λ (u : Found Animation). read_nodes read u.rest) (got_inj e₂) ∙ ef) in
        subst (λ (u : Found Animation). Holds (chunk KEYS p b r) u.value f) (got_inj e₂) (step p b r k z.value f ek v)))

    -- and where none is left
    by_none : (cs : Chunks) (y : Found Animation) (rest : Chunks) → accept (record { value = record { keys = []; anim = seen }; rest = rest }) ≡ accept y → (f : Forest) → read_nodes read y.rest ≡ accept f
        → (read_nodes read rest ≡ accept f → Holds cs (record { keys = []; anim = seen }) f) → Holds cs y.value f
    by_none cs y rest e f ef h = subst (λ (u : Found Animation). Holds cs u.value f) (got_inj e) (h (ap (λ (u : Found Animation). read_nodes read u.rest) (got_inj e) ∙ ef))

  -- after an ANIM: no other, and the one that was seen stays
  record After (seen : Anim) (cs : Chunks) (m : Animation) (f : Forest) : Type 0 where
    has : H cs pivot m.keys no_anim f
    kept : m.anim ≡ seen

  after-step : (seen : Anim) (p : ℕ) (b : List ℕ) (r : Chunks) (k : Keys) (m : Animation) (f : Forest) → read_keys p b ≡ accept k → After seen r m f → After seen (chunk KEYS p b r) (record { keys = k ∷ m.keys; anim = m.anim }) f
  after-step seen p b r k m f e v = record { has = by.keys p b r k m.keys no_anim f e v.has; kept = v.kept }

  after-anim : (cs : Chunks) (seen : Anim) (y : Found Animation) → read_animation seen (order NODE head (reached_at 2 true) cs) ≡ accept y → (f : Forest) → read_nodes read y.rest ≡ accept f → After seen cs y.value f
  unfolding read_animation order onward next if
  after-anim done seen y e f ef = by_none seen (After seen) (after-step seen) done y done e f ef (λ g. record { has = nodes_read done f g; kept = refl })
  after-anim (stop i p) seen y e f ef = bad_got e
  after-anim (chunk t p b r) seen y e f ef =
      by-entry NODE head (reached_at 2 true) p b r (λ u o. read_animation seen o ≡ accept y → After seen (chunk u p b r) y.value f) (λ u e. bad_got e)
      (tt ▸ tt
      ▸ (λ e. by_keys seen (After seen) (after-step seen) p b r (order NODE head (reached_at 2 true) r) (λ z ez g eg. after-anim r seen z ez g eg) y e f ef) ▸ tt
      ▸ (λ e. by_none seen (After seen) (after-step seen) (chunk NODE p b r) y (chunk NODE p b (order NODE head (reached_at 3 false) r)) e f ef (λ g. record { has = nodes_read (chunk NODE p b r) f g; kept = refl })) ▸ tt) t e

  -- no ANIM yet
  abbrev Moved : Chunks → Animation → Forest → Type 0
  Moved cs m f = H cs pivot m.keys m.anim f

  moved-step : (p : ℕ) (b : List ℕ) (r : Chunks) (k : Keys) (m : Animation) (f : Forest) → read_keys p b ≡ accept k → Moved r m f → Moved (chunk KEYS p b r) (record { keys = k ∷ m.keys; anim = m.anim }) f
  moved-step p b r k m f e v = by.keys p b r k m.keys m.anim f e v

  moved-anim : (p : ℕ) (b : List ℕ) (r : Chunks) (y : Found Animation) → read_animation no_anim (chunk ANIM p b (order NODE head (reached_at 2 true) r)) ≡ accept y
      → (f : Forest) → read_nodes read y.rest ≡ accept f → Moved (chunk ANIM p b r) y.value f
  unfolding read_animation if
  moved-anim p b r y e f ef =
      by_got (read_anim p b) _ e (λ ws ew e₁.
      let v = after-anim r (anim ws) y e₁ f ef in
      subst (λ (a : Anim). H (chunk ANIM p b r) pivot y.value.keys a f) (sym v.kept) (by.anims p b r ws y.value.keys f ew v.has))

  moves_read : (cs : Chunks) (y : Found Animation) → read_animation no_anim (order NODE head (reached_at 2 false) cs) ≡ accept y → (f : Forest) → read_nodes read y.rest ≡ accept f → Moved cs y.value f
  unfolding read_animation order onward next if
  moves_read done y e f ef = by_none no_anim Moved moved-step done y done e f ef (λ g. nodes_read done f g)
  moves_read (stop i p) y e f ef = bad_got e
  moves_read (chunk t p b r) y e f ef =
      by-entry NODE head (reached_at 2 false) p b r (λ u o. read_animation no_anim o ≡ accept y → Moved (chunk u p b r) y.value f) (λ u e. bad_got e)
      (tt ▸ tt
      ▸ (λ e. by_keys no_anim Moved moved-step p b r (order NODE head (reached_at 2 false) r) (λ z ez g eg. moves_read r z ez g eg) y e f ef)
      ▸ (λ e. moved-anim p b r y e f ef)
      ▸ (λ e. by_none no_anim Moved moved-step (chunk NODE p b r) y (chunk NODE p b (order NODE head (reached_at 3 false) r)) e f ef (λ g. nodes_read (chunk NODE p b r) f g)) ▸ tt) t e

  -- ---- a kind

  abbrev Kinds : Chunks → Found Kind → Found Animation → Forest → Type 0
  Kinds cs x y f = H cs x.value y.value.keys y.value.anim f

  -- a MESH or a BONE that gives the kind k, before others
  one-kind : (k : Kind) (cs : Chunks) (x : Found Kind) → accept (record { value = k; rest = order NODE head (reached_at 1 true) cs }) ≡ accept x
      → (y : Found Animation) → read_animation no_anim x.rest ≡ accept y → (f : Forest) → read_nodes read y.rest ≡ accept f → (w : Chunks) → (Moved cs y.value f → H w k y.value.keys y.value.anim f) → Kinds w x y f
  one-kind k cs x e y ey f ef w make =
      subst (λ (u : Found Kind). Kinds w u y f) (got_inj e)
      (make (moves_read cs y (ap (read_animation no_anim) (sym (kind-order head cs)) ∙ ap (λ (u : Found Kind). read_animation no_anim u.rest) (got_inj e) ∙ ey) f ef))

  -- none: the moves are read from the same chunks
  no_kind : (cs rest : Chunks) (x : Found Kind) → accept (record { value = pivot; rest = rest }) ≡ accept x → order NODE head (reached_at 2 false) cs ≡ rest
      → (y : Found Animation) → read_animation no_anim x.rest ≡ accept y → (f : Forest) → read_nodes read y.rest ≡ accept f → Kinds cs x y f
  no_kind cs rest x e same_rest y ey f ef =
      subst (λ (u : Found Kind). Kinds cs u y f) (got_inj e)
      (moves_read cs y (ap (read_animation no_anim) same_rest ∙ ap (λ (u : Found Kind). read_animation no_anim u.rest) (got_inj e) ∙ ey) f ef)

  pub parts-read : (cs : Chunks) (x : Found Kind) → read_kind mode brushes vertices (order NODE head start cs) ≡ accept x
      → (y : Found Animation) → read_animation no_anim x.rest ≡ accept y → (f : Forest) → read_nodes read y.rest ≡ accept f → H cs x.value y.value.keys y.value.anim f
  unfolding read_kind a_mesh a_bone order onward next if
  parts-read done x e y ey f ef = no_kind done done x e refl y ey f ef
  parts-read (stop i p) x e y ey f ef = bad_got e
  parts-read (chunk t p b r) x e y ey f ef =
      by-entry NODE head start p b r (λ u o. read_kind mode brushes vertices o ≡ accept x → Kinds (chunk u p b r) x y f) (λ u e. bad_got e)
      ((λ e. by_got (read_mesh mode brushes p b) _ e (λ m em e₁. one-kind (mesh m) r x e₁ y ey f ef (chunk MESH p b r) (by.meshes p b r m y.value.keys y.value.anim f em)))
      ▸ (λ e. by_got (read_bone vertices p b) _ e (λ ws ew e₁. one-kind (bone ws) r x e₁ y ey f ef (chunk BONE p b r) (by.bones p b r ws y.value.keys y.value.anim f ew)))
      ▸ (λ e. no_kind (chunk KEYS p b r) _ x e refl y ey f ef)
      ▸ (λ e. no_kind (chunk ANIM p b r) _ x e refl y ey f ef)
      ▸ (λ e. no_kind (chunk NODE p b r) _ x e refl y ey f ef) ▸ tt) t e
