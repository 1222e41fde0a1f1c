-- A NODE as Parse reads it is a NODE as it is counted, by the levels left.
use mathlib.Core.Path.{◌≡◌, refl, ap, sym, ◌∙◌}
use Prim.Native.Nat.{ℕ, zero, suc, ◌+◌, ◌≤◌}
use native.Mathlib.Omega.{arith}
use mathlib.Core.Bool.{Bool, true, false}
use mathlib.Core.Option.{Option, none, some}
use mathlib.Core.List.{List, [], ◌∷◌}
use lib.ListN.{length}
use lib.Dec.{eqb}
use Rattle.wire.specs.Test.{if}
use Rattle.layout.specs.Result.{Result, accept, reject, ◌>>=◌}
use Rattle.layout.specs.Parts.{named}
use Rattle.layout.specs.Chunks.{done, stop, chunk}
use Rattle.layout.proofs.ResultLaws.{bind_bind, if_no, if_yes}
use Rattle.b3d_spec.specs.declared.Tag.TheVariants.{NODE, VRTS, TRIS, BONE, KEYS, ANIM}
use Rattle.b3d_spec.specs.declared.Mode.TheVariants.{Strict}
use Rattle.b3d_spec.specs.Tags.{Chunks, Found, split}
use Rattle.b3d_spec.specs.Rules.{node_row, own_vertices, bone_limit, animated, bone_limit_from, bone_limit_below}
use Rattle.b3d_spec.specs.Nesting.{inside}
use Rattle.b3d_spec.specs.Scene.{TriangleSet, Kind, pivot, mesh, bone, Keys, Anim, no_anim, anim, Data, Forest, no_nodes, node}
use Rattle.b3d_spec.specs.Parse.{read_mesh, read_bone, read_keys, read_anim, a_mesh, a_bone, read_kind, Animation, with_keys, read_animation, Inner, read_nodes, read_below, read_node}
use Rattle.b3d_spec.proofs.Files.EntryLaws.{◌▸◌}
use Rattle.b3d_pieces_spec.specs.declared.Totals.{Totals}
use Rattle.b3d_pieces_spec.specs.Bodies.{above, saying, none_kept, rows_with, one_more, entered, closed}
use Rattle.b3d_pieces_spec.proofs.RunLaws.{eqb_no, eqb_yes}
use Rattle.b3d_pieces_spec.proofs.CountLaws.{anim_out, chunks_out, in_node, node_out}
use Rattle.b3d_pieces_spec.proofs.SumLaws.{sets_totals, mesh_totals, kind_totals, keys_totals, anim_totals, node_totals, forest_totals, bone-out, keys-out}
use Rattle.b3d_pieces_spec.proofs.MeshSumLaws.{cons-out, through, mesh-out}
use Rattle.b3d_pieces_spec.proofs.PhaseLaws.{only_nodes, moving, kinded, Only, by_phase, in-node}

-- ---- what a node's chunks leave as it is

-- the same brushes, nodes, and what is said of bones
pub record Same (a b : Totals) : Type 0 where
  pub brushes : a.brushes ≡ b.brushes
  pub own : a.own ≡ b.own
  pub told : a.told ≡ b.told
  pub below : a.below ≡ b.below
  pub nodes : a.rows.nodes ≡ b.rows.nodes

same : (g : Totals) → Same g g
same g = record { brushes = refl; own = refl; told = refl; below = refl; nodes = refl }

sets_same : (l : List TriangleSet) (g : Totals) → Same (sets_totals l g) g
sets_same [] g = same g
sets_same (x ∷ l) g =
    let s = sets_same l (closed TRIS (length x.triangles) none_kept 0 g) in
    record { brushes = s.brushes; own = s.own; told = s.told; below = s.below; nodes = s.nodes }

keys-same : (l : List Keys) (g : Totals) → Same (keys_totals l g) g
keys-same [] g = same g
keys-same (x ∷ l) g =
    let s = keys-same l (closed KEYS (length x.items) none_kept 0 g) in
    record { brushes = s.brushes; own = s.own; told = s.told; below = s.below; nodes = s.nodes }

-- ---- what is said of bones

-- what the nodes above say to one that begins, and how many brushes there are
abbrev pub Told : ℕ → Option ℕ → Totals → Type 0
Told brushes none g = (g.brushes ≡ brushes) × (g.below ≡ 0) × (g.rows.nodes ≡ 0)
Told brushes (some n) g = (g.brushes ≡ brushes) × (g.below ≡ n) × (1 ≤ g.rows.nodes)

told-brushes : (brushes : ℕ) (a : Option ℕ) (g : Totals) → Told brushes a g → g.brushes ≡ brushes
told-brushes brushes none g t = t.0
told-brushes brushes (some n) g t = t.0

-- inside a node that was told `a`, with so many vertices of its own, and an ANIM or none
pub record In (brushes : ℕ) (a : Option ℕ) (anim : Bool) (own : ℕ) (g : Totals) : Type 0 where
  pub brushes_are : g.brushes ≡ brushes
  pub above_is : above g ≡ a
  pub own_is : g.own ≡ own
  pub below_is : g.below ≡ bone_limit (bone_limit_from a anim own)
  pub nodes_are : 1 ≤ g.rows.nodes

above_same : (x y : Totals) → Same x y → above x ≡ above y
unfolding above
above_same x y s = rw (s.told, s.nodes)

in_same : (x y : Totals) → Same x y → (brushes : ℕ) (a : Option ℕ) (b : Bool) (own : ℕ) → In brushes a b own y → In brushes a b own x
in_same x y s brushes a b own h =
    record {
      brushes_are = s.brushes ∙ h.brushes_are;
      above_is = above_same x y s ∙ h.above_is;
      own_is = s.own ∙ h.own_is;
      below_is = s.below ∙ h.below_is;
      nodes_are = let e = s.nodes in omega (arith, e, h.nodes_are);
    }

-- the node says what it says with such an ANIM and so many vertices
in_saying : (b : Bool) (own : ℕ) (g : Totals) (brushes : ℕ) (a : Option ℕ) → g.brushes ≡ brushes → above g ≡ a → 1 ≤ g.rows.nodes → In brushes a b own (saying b own g)
unfolding above
in_saying b own g brushes a e h n = record { brushes_are = e; above_is = h; own_is = refl; below_is = ap (λ (z : Option ℕ). bone_limit (bone_limit_from z b own)) h; nodes_are = n }

-- one more node is told what the last said
above_more : (brushes : ℕ) (a : Option ℕ) (g : Totals) → Told brushes a g → above (one_more g) ≡ a
unfolding above
above_more brushes none g t = if_yes (eqb (g.rows.nodes + 1) 1) _ _ (eqb_yes (g.rows.nodes + 1) 1 (omega (arith, t.2)))
above_more brushes (some n) g t = if_no (eqb (g.rows.nodes + 1) 1) _ _ (eqb_no (g.rows.nodes + 1) 1 (λ z. let q = t.2 in absurd (omega arith))) ∙ ap some t.1

entered_in : (brushes : ℕ) (a : Option ℕ) (g : Totals) → Told brushes a g → In brushes a false 0 (entered g)
entered_in brushes a g t = in_saying false 0 (one_more g) brushes a (told-brushes brushes a g t) (above_more brushes a g t) (omega arith)

-- with its kind
kind_in : (brushes : ℕ) (a : Option ℕ) (k : Kind) (g : Totals) → In brushes a false 0 g → In brushes a false (own_vertices k) (kind_totals k g)
unfolding above
kind_in brushes a pivot g h = h
kind_in brushes a (bone ws) g h = record { brushes_are = h.brushes_are; above_is = h.above_is; own_is = h.own_is; below_is = h.below_is; nodes_are = h.nodes_are }
kind_in brushes a (mesh m) g h =
    let v = closed VRTS (length m.vertices) none_kept 0 g in
    let i : In brushes a false (length m.vertices) v = in_saying false (length m.vertices) (rows_with g v.rows) brushes a h.brushes_are h.above_is h.nodes_are in
    let j = in_same (sets_totals m.triangle_sets v) v (sets_same m.triangle_sets v) brushes a false (length m.vertices) i in
    record { brushes_are = j.brushes_are; above_is = j.above_is; own_is = j.own_is; below_is = j.below_is; nodes_are = j.nodes_are }

-- with its ANIM
anim_in : (brushes : ℕ) (a : Option ℕ) (x : Anim) (own : ℕ) (g : Totals) → In brushes a false own g → In brushes a (animated x) own (anim_totals x g)
anim_in brushes a no_anim own g h = h
anim_in brushes a (anim ws) own g h =
    rw (sym h.own_is) (in_saying true g.own g brushes a h.brushes_are h.above_is h.nodes_are)

node_in : (brushes : ℕ) (a : Option ℕ) (d : Data) (g : Totals) → Told brushes a g → In brushes a (animated d.anim) (own_vertices d.kind) (node_totals d g)
node_in brushes a d g t =
    let x = kind_totals d.kind (entered g) in
    let k = kind_in brushes a d.kind (entered g) (entered_in brushes a g t) in
    anim_in brushes a d.anim (own_vertices d.kind) (keys_totals d.keys x)
    (in_same (keys_totals d.keys x) x (keys-same d.keys x) brushes a false (own_vertices d.kind) k)

-- what a node says to those below is a number
from_some : (a : Option ℕ) (b : Bool) (own : ℕ) → bone_limit_from a b own ≡ some (bone_limit (bone_limit_from a b own))
from_some none b own = refl
from_some (some n) true own = refl
from_some (some n) false own = refl

-- how many vertices the bones below a node may name
abbrev below : Option ℕ → Data → ℕ
below a d = bone_limit (bone_limit_below a d)

node-told : (brushes : ℕ) (a : Option ℕ) (d : Data) (g : Totals) → Told brushes a g → Told brushes (some (below a d)) (node_totals d g)
node-told brushes a d g t = let i = node_in brushes a d g t in (i.brushes_are, i.below_is, i.nodes_are)

-- a whole node leaves what is said to the next as it was
forest-told : (brushes n : ℕ) (f : Forest) (g : Totals) → Told brushes (some n) g → Told brushes (some n) (forest_totals f g)
forest-told brushes n no_nodes g t = t
forest-told brushes n (node d f h) g t =
    let x = forest-told brushes (below (some n) d) f (node_totals d g) (node-told brushes (some n) d g t) in
    forest-told brushes n h _ (x.0, t.1, x.2)

whole-told : (brushes n : ℕ) (d : Data) (f : Forest) (g : Totals) → Told brushes (some n) g → Told brushes (some n) (closed NODE 0 none_kept g.below (forest_totals f (node_totals d g)))
whole-told brushes n d f g t = forest-told brushes n (node d f no_nodes) g t

-- ---- binds

pub on_out : {X Y Z : Type 0} (o : Result X) (f : X → Totals) (C : Totals → Result Z) (S : X → Result Y) (D : Y → Result Z) → ((x : X) → C (f x) ≡ (S x >>= D)) → ((o >>= λ x. accept (f x)) >>= C) ≡ ((o >>= S) >>= D)
on_out (accept x) f C S D h = h x
on_out (reject n p) f C S D h = refl

-- ---- the chunks

-- keys after an ANIM, and an ANIM again
keys-anim : (seen : Anim) (n : ℕ) (g : Totals) → closed KEYS n none_kept 0 (anim_totals seen g) ≡ anim_totals seen (closed KEYS n none_kept 0 g)
unfolding above
keys-anim no_anim n g = refl
keys-anim (anim ws) n g = refl

anim-anim : (seen : Anim) (ws : List ℕ) (g : Totals) → closed ANIM 0 none_kept 0 (anim_totals seen g) ≡ anim_totals (anim ws) g
unfolding above
anim-anim no_anim ws g = refl
anim-anim (anim vs) ws g = refl

-- a chunk x counted as f x, then the chunks after it and what follows them
one_out : {X Y : Type 0} (o : Result X) (f : X → Totals) (C : Totals → Result Totals) (E : Totals → Result Totals) (S : X → Result Y) (K : Y → Result Totals) (one : Result Totals)
    → one ≡ (o >>= λ x. accept (f x)) → ((x : X) → (C (f x) >>= E) ≡ (S x >>= K)) → ((one >>= C) >>= E) ≡ ((o >>= S) >>= K)
one_out o f C E S K one e h = ap (λ (z : Result Totals). (z >>= C) >>= E) e ∙ bind_bind (o >>= λ x. accept (f x)) C E ∙ on_out o f (λ y. C y >>= E) S K h

module _ (nodes : Totals → ℕ → List ℕ → Result Totals) where
  abbrev count : Chunks → Totals → Result Totals
  count cs g = chunks_out (in_node nodes) cs g

  -- E: what follows the chunks
  moves_out : (E : Totals → Result Totals) (cs : Chunks) → Only moving cs → (seen : Anim) (g : Totals) (K : Found Animation → Result Totals)
      → ((m : Found Animation) → Only only_nodes m.rest → (count m.rest (anim_totals m.value.anim (keys_totals m.value.keys g)) >>= E) ≡ K m)
      → (count cs (anim_totals seen g) >>= E) ≡ (read_animation seen cs >>= K)
  unfolding chunks_out read_animation if with_keys anim_out
  moves_out E done h seen g K k = k (record { value = record { keys = []; anim = seen }; rest = done }) tt
  moves_out E (stop n p) h seen g K k = refl
  moves_out E (chunk t p b r) h seen g K k =
      by_phase moving (λ u. (count (chunk u p b r) (anim_totals seen g) >>= E) ≡ (read_animation seen (chunk u p b r) >>= K)) r
      ((λ h. one_out (read_keys p b) (λ x. closed KEYS (length x.items) none_kept 0 (anim_totals seen g)) (count r) E (λ x. read_animation seen r >>= λ l. accept (with_keys x l)) K _ (keys-out (anim_totals seen g) p b)
      (λ x. ap (λ (y : Totals). count r y >>= E) (keys-anim seen (length x.items) g)
      ∙ moves_out E r h seen (closed KEYS (length x.items) none_kept 0 g) (λ l. K (with_keys x l)) (λ m o. k (with_keys x m) o)
      ∙ sym (bind_bind (read_animation seen r) (λ l. accept (with_keys x l)) K)))
      ▸ (λ h. one_out (read_anim p b) (λ x. closed ANIM 0 none_kept 0 (anim_totals seen g)) (count r) E (λ ws. read_animation (anim ws) r) K _ refl
      (λ ws. ap (λ (y : Totals). count r y >>= E) (anim-anim seen ws g) ∙ moves_out E r h (anim ws) g K k))
      ▸ (λ h. k (record { value = record { keys = []; anim = seen }; rest = chunk NODE p b r }) h) ▸ tt) t h

  kind-out : (E : Totals → Result Totals) (cs : Chunks) → Only kinded cs → (brushes bones : ℕ) (g : Totals) → g.brushes ≡ brushes → bone_limit (above g) ≡ bones → (K : Found Kind → Result Totals)
      → ((x : Found Kind) → Only moving x.rest → (count x.rest (kind_totals x.value g) >>= E) ≡ K x) → (count cs g >>= E) ≡ (read_kind Strict brushes bones cs >>= K)
  unfolding chunks_out read_kind if a_mesh a_bone
  kind-out E done h brushes bones g eb en K k = k (record { value = pivot; rest = done }) tt
  kind-out E (stop n p) h brushes bones g eb en K k = refl
  kind-out E (chunk t p b r) h brushes bones g eb en K k =
      by_phase kinded (λ u. (count (chunk u p b r) g >>= E) ≡ (read_kind Strict brushes bones (chunk u p b r) >>= K)) r
      ((λ h. one_out (read_mesh Strict brushes p b) (λ m. mesh_totals m g) (count r) E (λ m. accept (record { value = mesh m; rest = r })) K _
      (mesh-out g p b ∙ ap (λ (z : ℕ). read_mesh Strict z p b >>= λ m. accept (mesh_totals m g)) eb) (λ m. k (record { value = mesh m; rest = r }) h))
      ▸ (λ h. one_out (read_bone bones p b) (λ l. closed BONE (length l) none_kept 0 g) (count r) E (λ l. accept (record { value = bone l; rest = r })) K _
      (bone-out g p b ∙ ap (λ (z : ℕ). read_bone z p b >>= λ l. accept (closed BONE (length l) none_kept 0 g)) en) (λ l. k (record { value = bone l; rest = r }) h))
      ▸ (λ h. k (record { value = pivot; rest = chunk KEYS p b r }) h)
      ▸ (λ h. k (record { value = pivot; rest = chunk ANIM p b r }) h)
      ▸ (λ h. k (record { value = pivot; rest = chunk NODE p b r }) h) ▸ tt) t h

  -- nodes that are read by `one` as they are counted
  module _ (brushes n : ℕ) (one : ℕ → List ℕ → Result Inner)
      (alike : (g : Totals) → Told brushes (some n) g → (p : ℕ) (b : List ℕ) → nodes g p b ≡ (one p b >>= λ x. accept (closed NODE 0 none_kept g.below (forest_totals x.below (node_totals x.self g))))) where
    nodes-out : (cs : Chunks) → Only only_nodes cs → (g : Totals) → Told brushes (some n) g → count cs g ≡ (read_nodes one cs >>= λ f. accept (forest_totals f g))
    unfolding chunks_out read_nodes
    nodes-out done h g t = refl
    nodes-out (stop m p) h g t = refl
    nodes-out (chunk k p b r) h g t =
        by_phase only_nodes (λ u. count (chunk u p b r) g ≡ (read_nodes one (chunk u p b r) >>= λ f. accept (forest_totals f g))) r
        ((λ h. ap (λ (o : Result Totals). o >>= λ x. count r x) (alike g t p b)
        ∙ cons-out (one p b) (λ x. closed NODE 0 none_kept g.below (forest_totals x.below (node_totals x.self g))) (count r) (λ x. read_nodes one r) (λ x l. node x.self x.below l) (λ f. forest_totals f g)
        (λ x. nodes-out r h (closed NODE 0 none_kept g.below (forest_totals x.below (node_totals x.self g))) (whole-told brushes n x.self x.below g t))) ▸ tt) k h

-- ---- a node

-- nodes with so many levels left, counted as they are read
abbrev pub Alike : ℕ → Type 0
Alike l = (brushes : ℕ) (above : Option ℕ) (g : Totals) → Told brushes above g → (p : ℕ) (b : List ℕ)
    → node_out l g p b ≡ (read_node Strict l brushes above p b >>= λ x. accept (closed NODE 0 none_kept g.below (forest_totals x.below (node_totals x.self g))))

-- the nodes below a node
below_out : (l : ℕ) → Alike l → (brushes : ℕ) (above : Option ℕ) (g : Totals) → Told brushes above g → (d : Data) (cs : Chunks) → Only only_nodes cs
    → (chunks_out (in_node (node_out l)) cs (node_totals d g) >>= λ x. accept (closed NODE 0 none_kept g.below x))
    ≡ (read_below (read_node Strict l brushes) above d cs >>= λ x. accept (closed NODE 0 none_kept g.below (forest_totals x.below (node_totals x.self g))))
unfolding read_below
below_out l ih brushes above g t d cs h =
    let n = below above d in
    rw (from_some above (animated d.anim) (own_vertices d.kind))
    (ap (λ (o : Result Totals). o >>= λ x. accept (closed NODE 0 none_kept g.below x))
    (nodes-out (node_out l) brushes n (read_node Strict l brushes (some n)) (ih brushes (some n)) cs h (node_totals d g) (node-told brushes above d g t))
    ∙ bind_bind (read_nodes (read_node Strict l brushes (some n)) cs) _ _
    ∙ sym (bind_bind (read_nodes (read_node Strict l brushes (some n)) cs) _ _))

pub node-out : (l : ℕ) → Alike l
unfolding node_out read_node inside
node-out zero brushes above g t p b = refl
node-out (suc l) brushes above g t p b =
    let x = entered g in
    let i = entered_in brushes above g t in
    let leave : Totals → Result Totals = λ x. accept (closed NODE 0 none_kept g.below x) in
    through (named node_row (p + 8) b) _ _ _ (λ h.
    kind-out (node_out l) leave (inside NODE p h.place h.left) (in-node (split h.place h.left) p) brushes (bone_limit above) x i.brushes_are (ap bone_limit i.above_is) _ (λ k hk.
    moves_out (node_out l) leave k.rest hk no_anim (kind_totals k.value x) _ (λ m hm.
    below_out l (node-out l) brushes above g t (record { name = h.value.0; words = h.value.1; kind = k.value; keys = m.value.keys; anim = m.value.anim }) m.rest hm)
    ∙ sym (bind_bind (read_animation no_anim k.rest) _ _))
    ∙ sym (bind_bind (read_kind Strict brushes (bone_limit above) (inside NODE p h.place h.left)) _ _))
