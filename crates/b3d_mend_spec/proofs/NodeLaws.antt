-- A mended NODE is read as the node that the mending read found, and those below it, name places aside.
use mathlib.Core.Path.{◌≡◌, refl, ap, ap₂, sym, ◌∙◌, subst}
use Prim.Native.Nat.{ℕ, zero, suc, ◌+◌}
use mathlib.Core.Option.{Option, none}
use mathlib.Core.List.{List, [], ◌++◌, append_assoc}
use Rattle.wire.specs.Bytes.{bytes}
use Rattle.layout.specs.Chunks.{done, stop, chunk}
use Rattle.layout.specs.Result.{Result, accept}
use Rattle.layout.specs.Parts.{named}
use Rattle.layout.specs.Write.{write_words, write_text}
use Rattle.layout.proofs.ResultLaws.{by_got, bad_got, got_inj}
use Rattle.layout.proofs.PartLaws.{words_append, named_back, named-fine}
use Rattle.b3d_spec.specs.declared.Mode.TheVariants.{Lenient}
use Rattle.b3d_spec.specs.Names.{rename_data, rename_forest, bare_name}
use Rattle.b3d_spec.specs.Parse.{read_kind, Animation, read_animation, Inner, read_nodes, read_below, read_node, read_root}
use Rattle.b3d_spec.specs.Rules.{node_row, bone_limit, bone_limit_below, levels}
use Rattle.b3d_spec.specs.Scene.{Kind, no_anim, Forest, no_nodes, node}
use Rattle.b3d_spec.specs.Tags.{Chunks}
use Rattle.b3d_spec.specs.declared.Tag.TheVariants.{NODE}
use Rattle.b3d_mend_spec.specs.Edits.{Edit, was, becomes, before, after}
use Rattle.b3d_mend_spec.specs.Mend.{Mended, mend_kind, mend_moves, mend_nodes, data_of, mend_node, mend_root}
use Rattle.b3d_mend_spec.specs.Pieces.{pieces, woven}
use Rattle.b3d_mend_spec.proofs.EditLaws.{keep-small}
use Rattle.b3d_mend_spec.proofs.ExactLaws.{text-append}
use Rattle.b3d_mend_spec.proofs.LeafLaws.{Body, named_exact}
use Rattle.b3d_mend_spec.proofs.PieceLaws.{FineC, Fill, swap, within, within-fine, held}
use Rattle.b3d_mend_spec.proofs.StageLaws.{MendsFine, left-fine, kind_stage, moves_stage}

abbrev pub bare_forest : Forest → Forest
bare_forest f = rename_forest bare_name f

abbrev pub bare_inner : Inner → Inner
bare_inner x = record { self = rename_data bare_name x.self; below = bare_forest x.below }

-- ---- nodes to the end

pub record Nodes (read : ℕ → List ℕ → Result Inner) (cs : Chunks) (x : Forest × List (List Edit)) : Type 0 where
  pub fill : Fill cs x.1
  pub again : (place : ℕ → ℕ) → (f : Forest) × (read_nodes read (swap cs x.1 place) ≡ accept f) × (bare_forest f ≡ bare_forest x.0)

pub nodes_stage : (read : ℕ → List ℕ → Result Inner) (one : ℕ → List ℕ → Result (Mended Inner)) → MendsFine bare_inner read one → (cs : Chunks) (x : Forest × List (List Edit)) → FineC cs → mend_nodes one cs ≡ accept x → Nodes read cs x
unfolding mend_nodes read_nodes
nodes_stage read one mends done x f e = subst (Nodes read done) (got_inj e) (record { fill = tt; again = λ place. (no_nodes, refl, refl) })
nodes_stage read one mends (stop n p) x f e = bad_got e
nodes_stage read one mends (chunk t p b r) x f e =
    by_got (one p b) _ e (λ m em e₁.
    by_got (mend_nodes one r) _ e₁ (λ l el e₂.
    let g = mends p b m f.0 em in
    let k = nodes_stage read one mends r l f.1 el in
    subst (Nodes read (chunk t p b r)) (got_inj e₂)
    (record {
      fill = (g.given, g.small, k.fill);
      again = λ place.
          let y = g.again (place 0) in
          let z = k.again (λ i. place (suc i)) in (
            node y.0.self y.0.below z.0,
            rw (y.1, z.1),
            ap₂ (λ (u : Inner) (v : Forest). node u.self u.below v) y.2 z.2,
          );
    })))

-- ---- a node

pub named_joins : (cs ws r : List ℕ) → write_text cs (write_words ws r) ≡ write_text cs (write_words ws []) ++ r
named_joins cs ws r =
    text-append cs (write_words ws r) ∙ ap (λ (l : List ℕ). write_text cs [] ++ l) (words_append ws r) ∙ sym (append_assoc (write_text cs []) (write_words ws []) r)
    ∙ ap (λ (l : List ℕ). l ++ r) (sym (text-append cs (write_words ws [])))

-- one level, those below by `one`
module _ (l brushes : ℕ) (below : (above : Option ℕ) → MendsFine bare_inner (read_node Lenient l brushes above) (mend_node l brushes above)) where
  node-step : (above : Option ℕ) → MendsFine bare_inner (read_node Lenient (suc l) brushes above) (mend_node (suc l) brushes above)
  unfolding mend_node read_node read_below data_of before after was becomes
  node-step above p b m f e =
      by_got (named node_row (p + 8) b) _ e (λ h eh e₁.
      let g = named-fine node_row (p + 8) b h f.0 eh in
      let ex = named_exact node_row (p + 8) b h f.0 eh in
      let nm = h.value.0.bytes in
      let ws = h.value.1 in
      let given₀ : write_text nm (write_words ws []) ++ h.left ≡ b = sym (named_joins nm ws h.left) ∙ ex in
      let fl = left-fine (write_text nm (write_words ws [])) h.left b given₀ g.bytes f.1 in
      let cs = within NODE p h.place h.left in
      by_got (mend_kind brushes (bone_limit above) cs) _ e₁ (λ k ek e₂.
      by_got (mend_moves no_anim k.rest) _ e₂ (λ v ev e₃.
      by_got (mend_nodes (mend_node l brushes (bone_limit_below above (data_of h.value k.value v.value))) v.rest) _ e₃ (λ n en e₄.
      let sk = kind_stage brushes (bone_limit above) cs k (within-fine NODE p h.place h.left fl) ek in
      let sm = moves_stage no_anim k.rest v sk.rest-fine ev in
      let told = bone_limit_below above (data_of h.value k.value v.value) in
      let sn = nodes_stage (read_node Lenient l brushes told) (mend_node l brushes told) (below told) v.rest n sm.rest-fine en in
      let ys = v.bodies ++ n.1 in
      let xs = k.bodies ++ ys in
      let fy = sm.fill n.1 sn.fill in
      let hd = held NODE p h.place h.left xs fl (sk.fill ys fy) in
      let in_edits = woven (pieces h.place h.left) xs in
      subst (Body bare_inner (read_node Lenient (suc l) brushes above) b) (got_inj e₄)
      (record {
        given = ap (λ (r : List ℕ). write_text nm (write_words ws []) ++ r) hd.given ∙ given₀;
        small = (keep-small _, hd.small);
        again = λ q.
            let y = named_back node_row nm ws g.ok.0 g.ok.1 (q + 8) (after in_edits) in
            let i = hd.again q y.0 in
            let z = sk.again ys fy i.0 in
            let ez : (read_kind Lenient) brushes (bone_limit above) (swap cs xs i.0) ≡ accept (record { value = k.value; rest = swap k.rest ys z.1 }) =
            z.2 ∙ ap (λ (u : Kind). accept (record { value = u; rest = swap k.rest ys z.1 })) z.3 in
            let w = sm.again n.1 sn.fill z.1 in
            let ew : read_animation no_anim (swap k.rest ys z.1) ≡ accept (record { value = v.value; rest = swap v.rest n.1 w.1 }) =
            w.2 ∙ ap (λ (u : Animation). accept (record { value = u; rest = swap v.rest n.1 w.1 })) w.3 in
            let t = sn.again w.1 in (
              record { self = record { name = record { place = q + 8; bytes = nm }; words = ws; kind = k.value; keys = v.value.keys; anim = v.value.anim }; below = t.0 },
              ap (read_node Lenient (suc l) brushes above q) (sym (named_joins nm ws (after in_edits))) ∙ rw (y.1, i.1, ez, ew, t.1),
              ap (λ (u : Forest). record { self = record { name = record { place = 0; bytes = nm }; words = ws; kind = k.value; keys = v.value.keys; anim = v.value.anim }; below = u }) t.2,
            );
      })))))

pub node-mend : (l brushes : ℕ) (above : Option ℕ) → MendsFine bare_inner (read_node Lenient l brushes above) (mend_node l brushes above)
unfolding mend_node
node-mend zero brushes above p b m f e = bad_got e
node-mend (suc l) brushes above p b m f e = node-step l brushes (node-mend l brushes) above p b m f e

pub root-mend : (brushes : ℕ) → MendsFine bare_forest (read_root Lenient brushes) (mend_root brushes)
unfolding mend_root read_root
root-mend brushes p b m f e =
    by_got (mend_node levels brushes none p b) _ e (λ x ex e₁.
    let g = node-mend levels brushes none p b x f ex in
    subst (Body bare_forest (read_root Lenient brushes) b) (got_inj e₁)
    (record {
      given = g.given;
      small = g.small;
      again = λ q. let y = g.again q in (node y.0.self y.0.below no_nodes, rw y.1, ap (λ (u : Inner). node u.self u.below no_nodes) y.2);
    }))
