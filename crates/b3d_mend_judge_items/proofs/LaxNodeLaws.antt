-- Nodes: the mending read beside what is counted of it.
use mathlib.Core.Path.{◌≡◌, refl, sym, ap, ap₂, subst}
use Prim.Native.Nat.{ℕ, zero, suc, ◌+◌}
use mathlib.Core.Option.{Option, none}
use mathlib.Core.List.{List, ◌∷◌}
use Rattle.wire.specs.Test.{if}
use Rattle.layout.specs.Chunks.{done, stop, chunk}
use Rattle.layout.specs.Result.{Result, accept, reject, ◌>>=◌}
use Rattle.layout.specs.Parts.{Name, named}
use Rattle.b3d_spec.specs.declared.Tag.TheVariants.{NODE, MESH, BONE, KEYS, ANIM}
use Rattle.b3d_spec.specs.Nesting.{start, order}
use Rattle.b3d_spec.specs.Parse.{Animation, Inner, read_keys, read_anim, read_animation, with_keys, read_nodes, read_below}
use Rattle.b3d_spec.specs.Rules.{node_row, bone_limit, own_vertices, animated, bone_limit_from, bone_limit_below, levels}
use Rattle.b3d_spec.specs.Scene.{Kind, mesh, bone, Keys, Anim, no_anim, anim, Forest, node}
use Rattle.b3d_spec.specs.Tags.{is, Chunks, Found}
use Rattle.b3d_judge_tally.specs.Tally.{no_tally, plus, head_tally, kind_tally, bone_tally, lists_tally, anim_tally, data_tally, forest_tally, inner_tally}
use Rattle.b3d_judge_tally.specs.declared.Tally.{Tally}
use Rattle.b3d_mend_spec.specs.Edits.{Edit}
use Rattle.b3d_mend_spec.specs.Mend.{Mended, as_read, mend_bone, Taken, found, mend_mesh, mend_kind, with_keys as mend_keys, with_anim, mend_moves, mend_nodes, data_of, mend_node, mend_root}
use Rattle.b3d_mend_spec.specs.Pieces.{pieces, chunks_of}
use Rattle.b3d_mend_judge_items.specs.Lax.{lax_bone, lax_inside, lax_mesh, lax_kind, lax_node, lax_root}
use Rattle.b3d_mend_judge_items.proofs.AlikeLaws.{Alike, alike_bind, alike_both, alike-if}
use Rattle.b3d_mend_judge_items.proofs.LaxPartLaws.{read_alike, bone-alike, SameMesh, mesh-alike}

-- ---- the kind of a node

pub record SameKind (x : Found Kind) (y : Taken Kind) : Type 0 where
  pub tally : kind_tally x.value ≡ kind_tally y.value
  pub own : own_vertices x.value ≡ own_vertices y.value
  pub rest : x.rest ≡ y.rest

pub kind-alike : (brushes vertices : ℕ) (cs : Chunks) → Alike SameKind (lax_kind vertices cs) (mend_kind brushes vertices cs)
unfolding lax_kind mend_kind found kind_tally
kind-alike brushes vertices done = record { tally = refl; own = refl; rest = refl }
kind-alike brushes vertices (stop n p) = (refl, refl)
kind-alike brushes vertices (chunk t p b r) =
    alike-if SameKind (is t MESH) _ _ _ _
    (alike_bind SameMesh SameKind (lax_mesh p b) (mend_mesh brushes p b) _ _ (mesh-alike brushes p b) (λ x m e. record { tally = e.tally; own = e.own; rest = refl }))
    (alike-if SameKind (is t BONE) _ _ _ _
    (alike_bind (λ (l : List (List ℕ)) (m : Mended (List (List ℕ))). l ≡ m.value) SameKind (lax_bone vertices p b) (mend_bone vertices p b) _ _ (bone-alike vertices p b)
    (λ l m e. record { tally = ap bone_tally e; own = refl; rest = refl }))
    (record { tally = refl; own = refl; rest = refl }))

-- ---- its KEYS and ANIM

pub record SameMoves (x : Found Animation) (y : Taken Animation) : Type 0 where
  pub value : x.value ≡ y.value
  pub rest : x.rest ≡ y.rest

behind : (m : Mended (List ℕ)) (v : Result (Found Animation)) (w : Result (Taken Animation)) → Alike SameMoves v w → Alike SameMoves v (w >>= λ l. accept (with_anim m l))
unfolding with_anim
behind m (accept v) (accept w) g = record { value = g.value; rest = g.rest }
behind m (accept v) (reject n q) g = absurd g
behind m (reject n q) (accept w) g = absurd g
behind m (reject n q) (reject i j) g = g

pub moves-alike : (seen : Anim) (cs : Chunks) → Alike SameMoves (read_animation seen cs) (mend_moves seen cs)
unfolding read_animation mend_moves with_keys mend_keys
moves-alike seen done = record { value = refl; rest = refl }
moves-alike seen (stop n p) = (refl, refl)
moves-alike seen (chunk t p b r) =
    alike-if SameMoves (is t KEYS) _ _ _ _
    (alike_bind (λ (k : Keys) (m : Mended Keys). k ≡ m.value) SameMoves (read_keys p b) (as_read read_keys p b) _ _ (read_alike read_keys p b) (λ k m e.
    alike_bind SameMoves SameMoves (read_animation seen r) (mend_moves seen r) _ _ (moves-alike seen r)
    (λ x y g. record { value = ap₂ (λ (a : Keys) (v : Animation). record { keys = a ∷ v.keys; anim = v.anim }) e g.value; rest = g.rest })))
    (alike-if SameMoves (is t ANIM) _ _ _ _
    (alike_bind (λ (a : List ℕ) (m : Mended (List ℕ)). a ≡ m.value) SameMoves (read_anim p b) (as_read read_anim p b) _ _ (read_alike read_anim p b) (λ a m e.
    subst (λ (z : List ℕ). Alike SameMoves (read_animation (anim z) r) (mend_moves (anim m.value) r >>= λ l. accept (with_anim m l))) (sym e)
    (behind m (read_animation (anim m.value) r) (mend_moves (anim m.value) r) (moves-alike (anim m.value) r))))
    (record { value = refl; rest = refl }))

-- ---- nodes

abbrev SameInner : Inner → Mended Inner → Type 0
SameInner x m = inner_tally x ≡ inner_tally m.value

abbrev SameForest : Forest → Forest × List (List Edit) → Type 0
SameForest f m = forest_tally f ≡ forest_tally m.0

nodes-alike : (one : ℕ → List ℕ → Result Inner) (two : ℕ → List ℕ → Result (Mended Inner)) → ((p : ℕ) (b : List ℕ) → Alike SameInner (one p b) (two p b))
    → (cs : Chunks) → Alike SameForest (read_nodes one cs) (mend_nodes two cs)
unfolding read_nodes mend_nodes forest_tally inner_tally
nodes-alike one two h done = refl
nodes-alike one two h (stop n p) = (refl, refl)
nodes-alike one two h (chunk t p b r) =
    alike_bind SameInner SameForest (one p b) (two p b) _ _ (h p b) (λ x m e.
    alike_bind SameForest SameForest (read_nodes one r) (mend_nodes two r) _ _ (nodes-alike one two h r) (λ f g q. ap₂ plus e q))

-- a node of the same kind for those below it and for the tally
data_alike : (h : Name × List ℕ) (k k' : Kind) (m m' : Animation) → kind_tally k ≡ kind_tally k' → m ≡ m'
    → data_tally (record { name = h.0; words = h.1; kind = k; keys = m.keys; anim = m.anim }) ≡ data_tally (data_of h k' m')
unfolding data_tally data_of
data_alike h k k' m m' ek em = ap₂ (λ (a : Tally) (v : Animation). plus (plus head_tally a) (plus (lists_tally v.keys) (anim_tally v.anim))) ek em

below_alike : (above : Option ℕ) (h : Name × List ℕ) (k k' : Kind) (m m' : Animation) → own_vertices k ≡ own_vertices k' → m ≡ m'
    → bone_limit_below above (record { name = h.0; words = h.1; kind = k; keys = m.keys; anim = m.anim }) ≡ bone_limit_below above (data_of h k' m')
unfolding data_of
below_alike above h k k' m m' ek em = ap₂ (λ (n : ℕ) (v : Animation). bone_limit_from above (animated v.anim) n) ek em

pub node_alike : (l brushes : ℕ) (above : Option ℕ) (p : ℕ) (b : List ℕ) → Alike SameInner (lax_node l above p b) (mend_node l brushes above p b)
unfolding lax_node mend_node lax_inside read_below inner_tally
node_alike zero brushes above p b = (refl, refl)
node_alike (suc l) brushes above p b =
    alike_both SameInner (named node_row (p + 8) b) _ _ (λ h.
    alike_bind SameKind SameInner (lax_kind (bone_limit above) (order NODE p start (chunks_of (pieces h.place h.left)))) (mend_kind brushes (bone_limit above) (order NODE p start (chunks_of (pieces h.place h.left)))) _ _
    (kind-alike brushes (bone_limit above) (order NODE p start (chunks_of (pieces h.place h.left)))) (λ k k' ek.
    alike_bind SameMoves SameInner (read_animation no_anim k.rest) (mend_moves no_anim k'.rest) _ _
    (subst (λ (cs : Chunks). Alike SameMoves (read_animation no_anim cs) (mend_moves no_anim k'.rest)) (sym ek.rest) (moves-alike no_anim k'.rest)) (λ m m' em.
    alike_bind SameForest SameInner
    (read_nodes (lax_node l (bone_limit_below above (record { name = h.value.0; words = h.value.1; kind = k.value; keys = m.value.keys; anim = m.value.anim }))) m.rest)
    (mend_nodes (mend_node l brushes (bone_limit_below above (data_of h.value k'.value m'.value))) m'.rest) _ _
    (subst (λ (a : Option ℕ). Alike SameForest (read_nodes (lax_node l a) m.rest) (mend_nodes (mend_node l brushes (bone_limit_below above (data_of h.value k'.value m'.value))) m'.rest))
    (sym (below_alike above h.value k.value k'.value m.value m'.value ek.own em.value))
    (subst (λ (cs : Chunks). Alike SameForest (read_nodes (lax_node l (bone_limit_below above (data_of h.value k'.value m'.value))) cs) (mend_nodes (mend_node l brushes (bone_limit_below above (data_of h.value k'.value m'.value))) m'.rest))
    (sym em.rest)
    (nodes-alike (lax_node l (bone_limit_below above (data_of h.value k'.value m'.value))) (mend_node l brushes (bone_limit_below above (data_of h.value k'.value m'.value))) (node_alike l brushes (bone_limit_below above (data_of h.value k'.value m'.value))) m'.rest)))
    (λ f g q. ap₂ plus (data_alike h.value k.value k'.value m.value m'.value ek.tally em.value) q))))

pub root_alike : (brushes p : ℕ) (b : List ℕ) → Alike (λ (f : Forest) (m : Mended Forest). forest_tally f ≡ forest_tally m.value) (lax_root p b) (mend_root brushes p b)
unfolding lax_root mend_root forest_tally inner_tally
root_alike brushes p b =
    alike_bind SameInner (λ (f : Forest) (m : Mended Forest). forest_tally f ≡ forest_tally m.value) (lax_node levels none p b) (mend_node levels brushes none p b) _ _ (node_alike levels brushes none p b)
    (λ x m e. ap (λ (t : Tally). plus t no_tally) e)
