-- A node's own chunks, up to the next NODE: what they say of kind and ANIM, a law for each way through the two walks.
use Rattle.std.specs.Prelude.{Some, None}
use Rattle.std.specs.Prelude as std
use Rattle.b3d_chunk_walk.specs.declared.FlatChunk.{FlatChunk}
use mathlib.Core.Path.{◌≡◌, refl, ap, sym, subst, ◌∙◌}
use Prim.Native.Nat.{ℕ, ◌-◌, ◌/◌, ◌*◌, ◌<◌, ◌≤◌}
use native.Mathlib.Nat.{div-le_self}
use native.Mathlib.Omega.{arith}
use mathlib.Core.Bool.{Bool, true, false, not}
use mathlib.Core.List.{List, [], ◌∷◌}
use lib.ListN.{length}
use lib.Dec.{T}
use Rattle.wire.specs.Test.{if}
use Rattle.wire.specs.Cursors.{Inside, left}
use Rattle.wire.specs.declared.Cursor.{Cursor}
use Rattle.wire.proofs.LeftLaws.{span, left-length}
use Rattle.layout.specs.Chunks.{chunk}
use Rattle.layout.proofs.ResultLaws.{if_yes, if_no}
use Rattle.layout.proofs.StepLaws.{length-items-of}
use Rattle.b3d_spec.specs.declared.Counts.{Counts}
use Rattle.b3d_spec.specs.declared.Tag.{Tag}
use Rattle.b3d_spec.specs.declared.Tag.TheVariants.{NODE, MESH, BONE, ANIM}
use Rattle.b3d_spec.specs.Scene.{Kind, mesh, bone, anim}
use Rattle.b3d_spec.specs.Tables.{kind_cells, anim_cells}
use Rattle.b3d_spec.specs.Tags.{Chunks, is}
use Rattle.b3d_chunk_cursor.specs.Chunks.{NextIs}
use Rattle.b3d_chunk_cursor.specs.declared.Next.{Next}
use Rattle.b3d_chunk_cursor.specs.declared.Next.TheVariants as next
use Rattle.b3d_spec_plain_rows.specs.Flat.{flat_at}
use Rattle.b3d_spec_plain_rows.specs.Plain.{whole, plain_mesh, plain_weights, plain_anim}
use Rattle.b3d_spec_plain_rows.specs.Rows.{kind_of, anim_of}
use Rattle.b3d_spec_plain_rows.proofs.FlatRunLaws.{run-node}
use Rattle.b3d_chunk_walk.specs.Seeks.{ThreeWords}
use Rattle.b3d_chunk_walk.specs.Walks.{ChunkIs, Steps}
use Rattle.b3d_chunk_walk.specs.declared.Three.{Three}
use Rattle.b3d_chunk_walk.proofs.FlatLaws.{here, next-done, next-cut, next-node, next-other}
use Rattle.b3d_read_node_cells.specs.Parts.{told, OwnChunk, OwnEnds, OwnIs, OwnSteps}

-- from `at` on a node's own chunks say the same as from `from` on
pub record OwnLeft {A : Type 0} (f : Chunks → A) (s : List ℕ) (from at : ℕ) : Type 0 where
  pub inside : at ≤ length s
  pub same : f (flat_at s from) ≡ f (flat_at s at)

pub bone-count : (s : List ℕ) (b : Cursor) → Inside b (length s) → length (plain_weights (left b s)) ≡ (b.end - b.at) / 8
unfolding plain_weights whole
bone-count s b i = length-items-of (length (left b s) / (4 * 2)) 2 (left b s) ∙ ap (λ (k : ℕ). k / 8) (left-length s b i)

is_so : (ok b : Bool) → ok ≡ b → ok ≡ true → T b
is_so ok b e z = subst T (sym z ∙ e) tt

is-not : (ok b : Bool) → ok ≡ b → ok ≡ false → T (not b)
is-not ok b e z = subst (λ (y : Bool). T (not y)) (sym z ∙ e) tt

-- ---- the next own chunk

module _ (s : List ℕ) (at : ℕ) (le : at ≤ length s) (r : Next) (x : NextIs s (span at (length s)) r) where
  none_more : Steps s at None → OwnSteps s at None
  none_more h = record { is = record { kind = h.is.kind; anim = h.is.anim } }

  pub own-done : r ≡ next.Done → OwnSteps s at None
  own-done w = none_more (next-done s at le r x w)

  pub own-cut : (p : ℕ) → r ≡ next.Cut p → OwnSteps s at None
  own-cut p w = none_more (next-cut s at le r x p w)

  module _ (t : Tag) (p : ℕ) (b n : Cursor) (w : r ≡ next.Chunk t p b n) (ok : Bool) (eo : ok ≡ is t NODE) where
    pub own-node : ok ≡ true → OwnSteps s at None
    unfolding kind_of anim_of if
    own-node z =
        let y = next-node s at le r x t p b n w ok eo z in
        record { is = run-node s at y.tag p (left b s) (here s at p b y) y.node OwnEnds (λ cs. record { kind = refl; anim = refl }) (λ i j. record { kind = refl; anim = refl }) }

    pub own-other : ok ≡ false → OwnSteps s at (Some (record { tag = t; at = p; body = b; next = n.at }))
    own-other z = record { is = record { chunk = (next-other s at le r x t p b n w ok eo z).is; other = is-not ok (is t NODE) eo z } }

pub ruleset own_laws = (own-done, own-cut, own-node, own-other)

module _ {A : Type 0} (f : Chunks → A) (s : List ℕ) (from : ℕ) where
  pub left_start : from ≤ length s → OwnLeft f s from from
  left_start h = record { inside = h; same = refl }

  module _ (at : ℕ) (v : OwnLeft f s from at) where
    pub left-inside : at ≤ length s
    left-inside = v.inside

    module _ (r : std.Option FlatChunk) (x : OwnSteps s at r) (g : FlatChunk) (w : r ≡ Some g) where
      own : OwnChunk s at g.tag g.at g.body g.next
      own = subst (OwnIs s at) w x.is

      step : ChunkIs s at g.tag g.at g.body g.next
      step = own.chunk

      pub left_less : length s - g.next < length s - at
      left_less = omega (arith, step.more, step.to)

      pub left_body : Inside g.body (length s)
      left_body = record { before = step.body.room; within = step.body.within }

      pub left-order : g.body.at ≤ g.body.end
      left-order = left_body.before

      whole_run : f (flat_at s from) ≡ f (chunk g.tag g.at (left g.body s) (flat_at s g.next))
      whole_run = v.same ∙ ap f step.run

      on : f (flat_at s from) ≡ f (flat_at s g.next) → OwnLeft f s from g.next
      on e = record { inside = step.to; same = e }

module _ (s : List ℕ) (from at : ℕ) where
  module _ (v : OwnLeft kind_of s from at) (r : std.Option FlatChunk) (x : OwnSteps s at r) where
    pub kind-end : r ≡ None → (n : Counts) → 0 ∷ 0 ∷ 0 ∷ [] ≡ kind_cells (kind_of (flat_at s from)) n
    unfolding kind_cells
    kind-end w n = let e : OwnEnds (flat_at s at) = subst (OwnIs s at) w x.is in sym (ap (λ (k : Kind). kind_cells k n) (v.same ∙ e.kind))

    module _ (f : FlatChunk) (w : r ≡ Some f) where
      first_kind : kind_of (flat_at s from) ≡ if (is f.tag MESH) (mesh (plain_mesh f.at (left f.body s))) (if (is f.tag BONE) (bone (plain_weights (left f.body s))) (kind_of (flat_at s f.next)))
      unfolding kind_of
      first_kind = whole_run kind_of s from at v r x f w ∙ if_no (is f.tag NODE) _ _ (own kind_of s from at v r x f w).other

      module _ (ok : Bool) (eo : ok ≡ is f.tag MESH) where
        pub kind-mesh : ok ≡ true → (meshes weights i : ℕ) → i ≡ meshes → 1 ∷ i ∷ 1 ∷ [] ≡ kind_cells (kind_of (flat_at s from)) (told meshes weights)
        unfolding kind_cells told
        kind-mesh z meshes weights i e =
            let h = first_kind ∙ if_yes (is f.tag MESH) _ _ (is_so ok _ eo z) in
            rw (h, e)

        module _ (z : ok ≡ false) (bo : Bool) (eb : bo ≡ is f.tag BONE) where
          after : kind_of (flat_at s from) ≡ if (is f.tag BONE) (bone (plain_weights (left f.body s))) (kind_of (flat_at s f.next))
          after = first_kind ∙ if_no (is f.tag MESH) _ _ (is-not ok _ eo z)

          pub kind-bone : bo ≡ true → (meshes weights i j : ℕ) → i ≡ weights → j ≡ (f.body.end - f.body.at) / 8 → 2 ∷ i ∷ j ∷ [] ≡ kind_cells (kind_of (flat_at s from)) (told meshes weights)
          unfolding kind_cells told
          kind-bone u meshes weights i j ei ej =
              let h = after ∙ if_yes (is f.tag BONE) _ _ (is_so bo _ eb u) in
              rw (h, ei, ej, bone-count s f.body (left_body kind_of s from at v r x f w))

          pub kind-on : bo ≡ false → OwnLeft kind_of s from f.next
          kind-on u = on kind_of s from at v r x f w (after ∙ if_no (is f.tag BONE) _ _ (is-not bo _ eb u))

    pub bone-small : (f : FlatChunk) → r ≡ Some f → length s < 0x100000000 → (f.body.end - f.body.at) / 8 < 0x100000000
    bone-small f w small = let i = left_body kind_of s from at v r x f w in omega (arith, div-le_self (f.body.end - f.body.at) 8, i.within)

  module _ (v : OwnLeft anim_of s from at) (r : std.Option FlatChunk) (x : OwnSteps s at r) where
    pub anim-end : r ≡ None → 0 ∷ 0 ∷ 0 ∷ 0 ∷ [] ≡ anim_cells (anim_of (flat_at s from))
    unfolding anim_cells
    anim-end w = let e : OwnEnds (flat_at s at) = subst (OwnIs s at) w x.is in sym (ap anim_cells (v.same ∙ e.anim))

    module _ (f : FlatChunk) (w : r ≡ Some f) (ok : Bool) (eo : ok ≡ is f.tag ANIM) where
      first : anim_of (flat_at s from) ≡ if (is f.tag ANIM) (anim (plain_anim (left f.body s))) (anim_of (flat_at s f.next))
      unfolding anim_of
      first = whole_run anim_of s from at v r x f w ∙ if_no (is f.tag NODE) _ _ (own anim_of s from at v r x f w).other

      pub anim-found : ok ≡ true → (h : Three) → ThreeWords s f.body h → 1 ∷ h.first ∷ h.second ∷ h.third ∷ [] ≡ anim_cells (anim_of (flat_at s from))
      unfolding anim_cells plain_anim
      anim-found z h y =
          let e = first ∙ if_yes (is f.tag ANIM) _ _ (is_so ok _ eo z) in
          rw (e, y.first_is, y.second_is, y.third_is)

      pub anim-on : ok ≡ false → OwnLeft anim_of s from f.next
      anim-on z = on anim_of s from at v r x f w (first ∙ if_no (is f.tag ANIM) _ _ (is-not ok _ eo z))

pub ruleset kind_laws = (left_start, left-inside, left_less, left-order, kind-end, kind-mesh, kind-bone, kind-on, bone-small)

pub ruleset anim_laws = (left_start, left-inside, left_less, left_body, anim-end, anim-found, anim-on)
