-- In an accepted file no node stands in more than 15 others: table 3 can be read with 16 open nodes.
use mathlib.Core.Path.{◌≡◌, refl, ap, sym, subst, ◌∙◌}
use Prim.Native.Nat.{ℕ, zero, suc, ◌+◌, ◌<◌, ◌≤◌}
use native.Mathlib.Omega.{arith}
use mathlib.Core.Bool.{Bool, true, false, not, ◌&&◌}
use mathlib.Core.Option.{Option, none}
use mathlib.Core.List.{List, [], ◌∷◌}
use lib.ListN.{length}
use lib.Dec.{T, leb, ltb, leb→le, nleb→lt, lt→ltb}
use Rattle.wire.specs.Test.{if}
use Rattle.layout.specs.Chunks.{done, chunk}
use Rattle.layout.specs.Result.{Result, accept}
use Rattle.layout.specs.Parts.{Name, Step, named}
use Rattle.layout.proofs.ResultLaws.{by_got, bad_got, by_test, if_no}
use Rattle.b3d_spec.specs.declared.Mode.TheVariants.{Lenient}
use Rattle.b3d_spec.specs.declared.Tag.{Tag}
use Rattle.b3d_spec.specs.declared.Tag.TheVariants.{TEXS, BRUS, NODE, MESH, BONE, KEYS, ANIM}
use Rattle.b3d_spec.specs.Answers.{judge}
use Rattle.b3d_spec.specs.Nesting.{inside}
use Rattle.b3d_spec.specs.Parse.{read_kind, read_animation, Inner, read_nodes, read_below, read_node}
use Rattle.b3d_spec.specs.Rules.{node_row, levels, bone_limit, bone_limit_below}
use Rattle.b3d_spec.specs.Scene.{Kind, Keys, Anim, no_anim, Data, Forest, no_nodes, node, Scene}
use Rattle.b3d_spec.specs.Tags.{Chunks, split, is}
use Rattle.b3d_spec.proofs.AnswerLaws.{judge_got}
use Rattle.b3d_spec_chunk_places.proofs.NodeChunkLaws.{ByParts, parts-read}
use Rattle.b3d_spec_plain_rows.specs.Flat.{rest, flat_at}
use Rattle.b3d_spec_plain_rows.specs.Rows.{Open, opened}
use Rattle.b3d_spec_plain_rows.proofs.FileLaws.{Says, file-flat}
use Rattle.b3d_spec_plain_rows.proofs.Laws.{end_done}
use Rattle.b3d_spec_plain_rows.proofs.FlatRunLaws.{Here, Laid, run-same, run_past, run_into, inside_laid}
use Rattle.b3d_rows_nodes.specs.NodeStack.{open_at}
use Rattle.b3d_rows_nodes.proofs.NodeStackLaws.{open_closed, open_still}
use Rattle.b3d_rows_nodes.specs.NextNode.{shallow, Shallow}

-- those that are open later are among those that are open now
open_open : (p q : ℕ) → p ≤ q → (l : List Open) → open_at q (open_at p l) ≡ open_at q l
unfolding open_at
open_open p q h [] = refl
open_open p q h (o ∷ l) =
    by_test (leb o.end p)
    (λ t. let c = leb→le o.end p t in ap (open_at q) (open_closed p o l c) ∙ open_open p q h l ∙ sym (open_closed q o l (omega arith)))
    (λ t. ap (open_at q) (open_still p o l (nleb→lt o.end p t)))

and_true : (a b : Bool) → T a → T b → T (a && b)
and_true true b h k = k
and_true false b h k = h

module _ (s : List ℕ) where
  -- from `at` on all is well where it is from e on, under the nodes that are open there
  record Gone (n : ℕ) (l : List Open) (at e : ℕ) : Type 0 where
    count : ℕ
    left : List Open
    closed : (p : ℕ) → e ≤ p → open_at p left ≡ open_at p l
    is : T (shallow count left (flat_at s e)) → T (shallow n l (flat_at s at))

  -- how many levels there is room for between two places
  abbrev Room : ℕ → List Open → ℕ → ℕ → Type 0
  Room d l at e = (p : ℕ) → at ≤ p → p < e → length (open_at p l) + d ≤ 16

  abbrev Sunk : ℕ → ℕ → ℕ → Type 0
  Sunk d at e = (n : ℕ) (l : List Open) → Room d l at e → Gone n l at e

  abbrev NodeSunk : ℕ → ℕ → ℕ → List ℕ → Type 0
  NodeSunk d at p b = (n : ℕ) (l : List Open) → length (open_at p l) + d ≤ 16 → Gone n l at (p + 8 + length b)

  past_is : (t : Tag) → T (not (is t NODE)) → (at p : ℕ) (b : List ℕ) → Here s at t p b → (n : ℕ) (l : List Open) → shallow n l (flat_at s at) ≡ shallow n l (flat_at s (p + 8 + length b))
  unfolding shallow
  past_is t other at p b h n l = ap (shallow n l) (run_past s at t p b h other) ∙ if_no (is t NODE) _ (shallow n l (flat_at s (p + 8 + length b))) other

  module _ (d e : ℕ) where
    abbrev Region : Chunks → Kind → List Keys → Anim → Forest → Type 0
    Region cs kind ks a f = (at : ℕ) → Laid s e at cs → Sunk d at e

    none_region : (at : ℕ) → Laid s e at done → Sunk d at e
    none_region at h n l r = record { count = n; left = l; closed = λ p k. refl; is = λ t. subst (λ (c : Chunks). T (shallow n l c)) (sym (run-same s at e h)) t }

    past_region : (t : Tag) → T (not (is t NODE)) → (p : ℕ) (b : List ℕ) (r : Chunks) → ((at : ℕ) → Laid s e at r → Sunk d at e) → (at : ℕ) → Laid s e at (chunk t p b r) → Sunk d at e
    past_region t other p b r more at h n l room =
        let g = more (p + 8 + length b) h.1 n l (λ i lo hi. room i (omega (arith, h.0.from)) hi) in
        record { count = g.count; left = g.left; closed = g.closed; is = λ z. subst T (sym (past_is t other at p b h.0 n l)) (g.is z) }

    node_region : (p : ℕ) (b : List ℕ) (r : Chunks) → ((at : ℕ) → Here s at NODE p b → NodeSunk d at p b) → ((at : ℕ) → Laid s e at r → Sunk d at e) → (at : ℕ) → Laid s e at (chunk NODE p b r) → Sunk d at e
    node_region p b r one more at h n l room =
        let q = p + 8 + length b in
        let le : q ≤ e = h.2 in
        let g = one at h.0 n l (room p h.0.from (omega arith)) in
        let k = more q h.1 g.count g.left (λ i lo hi. subst (λ (o : List Open). length o + d ≤ 16) (sym (g.closed i lo)) (room i (omega (arith, h.0.from)) hi)) in
        record { count = k.count; left = k.left; closed = λ i lo. k.closed i lo ∙ g.closed i (omega arith); is = λ z. g.is (k.is z) }

    regions : (brushes vertices : ℕ) (read : ℕ → List ℕ → Result Inner) → ((p : ℕ) (b : List ℕ) (x : Inner) → read p b ≡ accept x → (at : ℕ) → Here s at NODE p b → NodeSunk d at p b) → ByParts Lenient brushes vertices read Region
    regions brushes vertices read one = record {
      none = none_region;
      nodes = λ p b r x f g more. node_region p b r (one p b x g) more;
      keys = λ p b r k ks a f g more. past_region KEYS tt p b r more;
      anims = λ p b r ws ks f g more. past_region ANIM tt p b r more;
      meshes = λ p b r m ks a f g more. past_region MESH tt p b r more;
      bones = λ p b r ws ks a f g more. past_region BONE tt p b r more;
    }

  -- into a node, where its own nodes have a level less
  into_node : (d at p : ℕ) (b : List ℕ) → Here s at NODE p b → (h : Step (Name × List ℕ)) → named node_row (p + 8) b ≡ accept h → Sunk d h.place (p + 8 + length b) → NodeSunk (suc d) at p b
  unfolding shallow if
  into_node d at p b here h eh below n l room =
      let q = p + 8 + length b in
      let o = opened p b n (open_at p l) in
      let g = below (n + 1) o (λ i lo hi. rw (open_still i (record { end = q; index = n }) (open_at p l) hi) (omega arith)) in
      record {
        count = g.count;
        left = g.left;
        closed = λ i lo. g.closed i lo ∙ open_closed i (record { end = q; index = n }) (open_at p l) lo ∙ open_open p i (omega arith) l;
        is = λ z. subst (λ (c : Chunks). T (shallow n l c)) (sym (run_into s at NODE p b here h tt eh))
            (and_true (ltb (length (open_at p l)) 16) (shallow (n + 1) o (flat_at s h.place)) (lt→ltb (length (open_at p l)) 16 (omega arith)) (g.is z));
      }

  node_sunk : (l brushes : ℕ) (above : Option ℕ) (p : ℕ) (b : List ℕ) (x : Inner) → read_node Lenient l brushes above p b ≡ accept x → (at : ℕ) → Here s at NODE p b → NodeSunk l at p b
  unfolding read_node read_below inside
  node_sunk zero brushes above p b x g at here = bad_got g
  node_sunk (suc l) brushes above p b x g at here =
      by_got (named node_row (p + 8) b) _ g (λ h eh g₁.
      by_got (read_kind Lenient brushes (bone_limit above) (inside NODE p h.place h.left)) _ g₁ (λ kd ek g₂.
      by_got (read_animation no_anim kd.rest) _ g₂ (λ m em g₃.
      let d : Data = record { name = h.value.0; words = h.value.1; kind = kd.value; keys = m.value.keys; anim = m.value.anim } in
      by_got (read_nodes (read_node Lenient l brushes (bone_limit_below above d)) m.rest) _ g₃ (λ f ef g₄.
      let q = p + 8 + length b in
      let read = read_node Lenient l brushes (bone_limit_below above d) in
      let parts = regions l q brushes (bone_limit above) read (λ p' b' y ey. node_sunk l brushes (bone_limit_below above d) p' b' y ey) in
      let v = parts-read Lenient brushes (bone_limit above) read (Region l q) parts p (split h.place h.left) kd ek m em f ef h.place (inside_laid s at NODE p b here h eh) in
      into_node l at p b here h eh v))))

  -- ---- a file

  abbrev Well : ℕ → Forest → Type 0
  Well at f = (n : ℕ) (l : List Open) → ((p : ℕ) → at ≤ p → open_at p l ≡ []) → T (shallow n l (flat_at s at))

  end_well : (at : ℕ) → rest s at ≡ rest s (length s) → Well at no_nodes
  unfolding shallow
  end_well at e n l o = subst (λ (c : Chunks). T (shallow n l c)) (sym (end_done s at e)) tt

  past_well : (t : Tag) → T (not (is t NODE)) → (at p : ℕ) (b : List ℕ) (f : Forest) → Here s at t p b → Well (p + 8 + length b) f → Well at f
  past_well t other at p b f h more n l o = subst T (sym (past_is t other at p b h n l)) (more n l (λ q k. o q (omega (arith, h.from))))

  root_well : (brushes at p : ℕ) (b : List ℕ) (x : Inner) → Here s at NODE p b → read_node Lenient levels brushes none p b ≡ accept x → Well (p + 8 + length b) no_nodes → Well at (node x.self x.below no_nodes)
  root_well brushes at p b x h e more n l o =
      let g = node_sunk levels brushes none p b x e at h n l (rw (o p h.from) (omega arith)) in
      g.is (more g.count g.left (λ q k. g.closed q k ∙ o q (omega (arith, h.from))))

  says : Says s Well
  says = record { at-end = end_well; texs = past_well TEXS tt; brus = past_well BRUS tt; root = root_well }

pub accepted-shallow : (s : List ℕ) (t : Scene) → judge Lenient s ≡ accept t → Shallow 0 [] (flat_at s 12)
unfolding open_at
accepted-shallow s t e = record { is = (file-flat s (Well s) (says s) t (judge_got Lenient s t e).0).nodes 0 [] (λ p h. refl) }
