-- Back and fine for nodes.
use mathlib.Core.Path.{◌≡◌, refl, ◌∙◌, subst}
use Prim.Native.Nat.{ℕ, zero, suc, ◌+◌, ◌-◌, ◌<◌, ◌≤◌}
use native.Mathlib.Omega.{arith}
use mathlib.Core.Bool.{not}
use mathlib.Core.Option.{Option, none, some}
use mathlib.Core.List.{List, [], ◌∷◌}
use lib.ListN.{length}
use lib.Dec.{T}
use Rattle.wire.specs.Bytes.{AllBytes}
use Rattle.wire.specs.Test.{if}
use Rattle.layout.specs.Chunks.{done, stop, chunk}
use Rattle.layout.specs.Result.{Result, accept}
use Rattle.layout.specs.Parts.{Name, named}
use Rattle.layout.specs.Write.{write_words, write_items, write_chunks as write_chunks_of}
use Rattle.layout.proofs.ChunkLaws.{length-chunk, lay, Of}
use Rattle.layout.proofs.AllLaws.{All}
use Rattle.layout.proofs.ResultLaws.{if_no, by-if, by_got, bad_got, got_inj}
use Rattle.layout.proofs.PartLaws.{length-words, length-text, named_back, named-fine}
use Rattle.b3d_spec.specs.declared.Mode.TheVariants.{Lenient}
use Rattle.b3d_spec.specs.Encode.{write_mesh, write_keys, kind_chunks, key_chunks, anim_chunks, write_node, node_chunks}
use Rattle.b3d_spec.specs.Names.{rename_data, rename_forest, bare_name}
use Rattle.b3d_spec.specs.Nesting.{inside}
use Rattle.b3d_spec.specs.Parse.{read_mesh, read_bone, read_keys, read_anim, a_mesh, a_bone, read_kind, Animation, with_keys, read_animation, Inner, read_nodes, read_below, read_node}
use Rattle.b3d_spec.specs.Rules.{node_row, bone_limit, bone_limit_below}
use Rattle.b3d_spec.specs.Scene.{Kind, pivot, mesh, bone, Keys, Anim, no_anim, anim, Data, Forest, no_nodes, node}
use Rattle.b3d_spec.specs.declared.Tag.TheVariants.{NODE, MESH, BONE, KEYS, ANIM}
use Rattle.b3d_spec.specs.Tags.{is, Chunks, Found, Chunk, write_chunks, code}
use Rattle.b3d_spec.proofs.WellFormedLaws.{FitKind, FitKeys, FitAnim, FitData, FitNodes, no-nodes}
use Rattle.b3d_spec.proofs.Files.LeafLaws.{keys-back, keys-fine, bone-back, bone-fine, anim-back, anim-fine, mesh-back, mesh-fine}
use Rattle.b3d_spec.proofs.Files.NestingLaws.{node-keeps, inside_back, inside-fine}

-- ---- back

-- no chunks, or a first one that is no kind
abbrev NoKind : List Chunk → Type 0
NoKind [] = Unit {0}
NoKind (c ∷ l) = T (not (is c.tag MESH)) × T (not (is c.tag BONE))

no_kind : (ks : List Keys) (a : Anim) (f : Forest) → NoKind (key_chunks ks (anim_chunks a (node_chunks f)))
unfolding node_chunks
no_kind (k ∷ ks) a f = (tt, tt)
no_kind [] (anim ws) f = (tt, tt)
no_kind [] no_anim no_nodes = tt
no_kind [] no_anim (node d g h) = (tt, tt)

kind-back : (brushes n : ℕ) (k : Kind) → FitKind brushes n k → (l : List Chunk) → NoKind l → length (write_chunks (kind_chunks k l)) < 4294967296 → (p : ℕ)
    → (q : ℕ) × (read_kind Lenient brushes n (lay p (kind_chunks k l)) ≡ accept (record { value = k; rest = lay q l }))
unfolding read_kind a_mesh a_bone if write_chunks_of
kind-back brushes n pivot h [] s m p = (p, refl)
kind-back brushes n pivot h (c ∷ l) s m p = (p, if_no (is c.tag MESH) _ _ s.0 ∙ if_no (is c.tag BONE) _ _ s.1)
kind-back brushes n (mesh x) h l s m p =
    let k = length-chunk code MESH (write_mesh x) (write_chunks l) in
    (p + 8 + length (write_mesh x), rw (mesh-back brushes x h (omega arith) p))
kind-back brushes n (bone ws) h l s m p = (p + 8 + length (write_items write_words ws), rw (bone-back n ws h p))

-- the ANIM seen stays where no KEYS and no ANIM follow
moves-stop : (a : Anim) (f : Forest) (p : ℕ)
    → read_animation a (lay p (node_chunks f)) ≡ accept (record { value = record { keys = []; anim = a }; rest = lay p (node_chunks f) })
unfolding read_animation if node_chunks
moves-stop a no_nodes p = refl
moves-stop a (node d g h) p = refl

moves-back : (ks : List Keys) (a : Anim) (f : Forest) → All FitKeys ks → FitAnim a → (p : ℕ)
    → (q : ℕ) × (read_animation no_anim (lay p (key_chunks ks (anim_chunks a (node_chunks f)))) ≡ accept (record { value = record { keys = ks; anim = a }; rest = lay q (node_chunks f) }))
unfolding read_animation with_keys if
moves-back [] no_anim f hk ha p = (p, moves-stop no_anim f p)
moves-back [] (anim ws) f hk ha p =
    let q = p + 8 + length (write_words ws []) in
    (q, rw (anim-back ws ha p, moves-stop (anim ws) f q))
moves-back (k ∷ ks) a f hk ha p =
    let x = moves-back ks a f hk.1 ha (p + 8 + length (write_keys k)) in
    (x.0, rw (keys-back k hk.0 p, x.1))

-- what is said of bones does not depend on the name
bones-same : (above : Option ℕ) (d : Data) (n : Name)
    → bone_limit_below above (record { name = n; words = d.words; kind = d.kind; keys = d.keys; anim = d.anim }) ≡ bone_limit_below above d
bones-same none d n = refl
bones-same (some m) d n = refl

moves_longer : (ks : List Keys) (a : Anim) (l : List Chunk) → length (write_chunks l) ≤ length (write_chunks (key_chunks ks (anim_chunks a l)))
unfolding write_chunks_of
moves_longer [] no_anim l = omega arith
moves_longer [] (anim ws) l = omega (arith, length-chunk code ANIM (write_words ws []) (write_chunks l))
moves_longer (k ∷ ks) a l = omega (arith, moves_longer ks a l, length-chunk code KEYS (write_keys k) (write_chunks (key_chunks ks (anim_chunks a l))))

kind_longer : (k : Kind) (l : List Chunk) → length (write_chunks l) ≤ length (write_chunks (kind_chunks k l))
unfolding write_chunks_of
kind_longer pivot l = omega arith
kind_longer (mesh m) l = omega (arith, length-chunk code MESH (write_mesh m) (write_chunks l))
kind_longer (bone ws) l = omega (arith, length-chunk code BONE (write_items write_words ws) (write_chunks l))

-- the chunks below a node are no longer than its body
pub below-short : (d : Data) (l : List Chunk) → length (write_chunks l) ≤ length (write_node d l)
unfolding write_node
below-short d l =
    let ms = key_chunks d.keys (anim_chunks d.anim l) in
    let cs = kind_chunks d.kind ms in
    omega (arith, length-text d.name.bytes (write_words d.words (write_chunks cs)), length-words d.words (write_chunks cs), kind_longer d.kind ms, moves_longer d.keys d.anim l)

-- nodes that are read again, but for name places
pub record BackNodes (o : Result Forest) (f : Forest) : Type 0 where
  pub nodes : Forest
  pub is_got : o ≡ accept nodes
  pub same : rename_forest bare_name nodes ≡ rename_forest bare_name f

pub record BackNode (o : Result Inner) (d : Data) (f : Forest) : Type 0 where
  pub inner : Inner
  pub is_got : o ≡ accept inner
  pub self : rename_data bare_name inner.self ≡ rename_data bare_name d
  pub below : rename_forest bare_name inner.below ≡ rename_forest bare_name f

pub node-back : (l brushes : ℕ) (above : Option ℕ) (d : Data) (f : Forest) → FitData brushes (bone_limit above) d → length (write_node d (node_chunks f)) < 4294967296
    → ((q : ℕ) → BackNodes (read_nodes (read_node Lenient l brushes (bone_limit_below above d)) (lay q (node_chunks f))) f)
    → (p : ℕ) → BackNode (read_node Lenient (suc l) brushes above p (write_node d (node_chunks f))) d f
unfolding read_node read_below write_node
node-back l brushes above d f h n go p =
    let cs = kind_chunks d.kind (key_chunks d.keys (anim_chunks d.anim (node_chunks f))) in
    let lt = length-text d.name.bytes (write_words d.words (write_chunks cs)) in
    let lw = length-words d.words (write_chunks cs) in
    let x = named_back node_row d.name.bytes d.words h.name h.words (p + 8) (write_chunks cs) in
    let k = kind-back brushes (bone_limit above) d.kind h.kind (key_chunks d.keys (anim_chunks d.anim (node_chunks f))) (no_kind d.keys d.anim f) (omega arith) x.0 in
    let m = moves-back d.keys d.anim f h.keys h.anim k.0 in
    let y = go m.0 in
    record {
      inner = record { self = record { name = record { place = p + 8; bytes = d.name.bytes }; words = d.words; kind = d.kind; keys = d.keys; anim = d.anim }; below = y.nodes };
      is_got = rw (x.1, inside_back NODE p x.0 cs (node-keeps d.kind d.keys d.anim f) (omega arith), k.1, m.1, bones-same above d (record { place = p + 8; bytes = d.name.bytes }), y.is_got);
      self = refl;
      below = y.same;
    }

-- one node more
more-back : (one : ℕ → List ℕ → Result Inner) (d : Data) (f g : Forest) (p : ℕ) → BackNode (one p (write_node d (node_chunks f))) d f
    → BackNodes (read_nodes one (lay (p + 8 + length (write_node d (node_chunks f))) (node_chunks g))) g → BackNodes (read_nodes one (lay p (node_chunks (node d f g)))) (node d f g)
unfolding read_nodes node_chunks
more-back one d f g p x y = record {
  nodes = node x.inner.self x.inner.below y.nodes;
  is_got = rw (x.is_got, y.is_got);
  same = cc (x.self, x.below, y.same);
}

-- the lengths of a first node and of those after it
first_short : (d : Data) (f g : Forest) (n : ℕ) → length (write_chunks (node_chunks (node d f g))) < n
    → (length (write_node d (node_chunks f)) < n) × (length (write_chunks (node_chunks f)) < n) × (length (write_chunks (node_chunks g)) < n)
unfolding node_chunks write_chunks_of
first_short d f g n h =
    let b = write_node d (node_chunks f) in
    let lc = length-chunk code NODE b (write_chunks (node_chunks g)) in
    let lb = below-short d (node_chunks f) in
    (omega arith, omega arith, omega arith)

none-back : (one : ℕ → List ℕ → Result Inner) (p : ℕ) → BackNodes (read_nodes one (lay p (node_chunks no_nodes))) no_nodes
unfolding read_nodes node_chunks
none-back one p = record { nodes = no_nodes; is_got = refl; same = refl }

pub nodes-back : (l brushes : ℕ) (above : Option ℕ) (f : Forest) → FitNodes l brushes above f → length (write_chunks (node_chunks f)) < 4294967296
    → (p : ℕ) → BackNodes (read_nodes (read_node Lenient l brushes above) (lay p (node_chunks f))) f
nodes-back zero brushes above no_nodes h n p = none-back (read_node Lenient zero brushes above) p
nodes-back zero brushes above (node d f g) h n p = absurd h
nodes-back (suc l) brushes above no_nodes h n p = none-back (read_node Lenient (suc l) brushes above) p
nodes-back (suc l) brushes above (node d f g) h n p =
    more-back (read_node Lenient (suc l) brushes above) d f g p
    (node-back l brushes above d f h.0 (first_short d f g 4294967296 n).0 (nodes-back l brushes (bone_limit_below above d) f h.1 (first_short d f g 4294967296 n).1) p)
    (nodes-back (suc l) brushes above g h.2 (first_short d f g 4294967296 n).2 (p + 8 + length (write_node d (node_chunks f))))

-- ---- fine

-- what a section found among chunks of at most n bytes: it fits, and with what is left is written in no more
pub record FineS {A : Type 0} (Ok : A → Type 0) (put : A → List Chunk → List Chunk) (n : ℕ) (x : Found A) : Type 0 where
  pub ok : Ok x.value
  pub size : ℕ
  pub of : Of size x.rest
  pub short : (l : List Chunk) → length (write_chunks (put x.value l)) + size ≤ n + length (write_chunks l)

module _ (brushes m : ℕ) where
  kind_fine : (n : ℕ) (cs : Chunks) (x : Found Kind) → Of n cs → read_kind Lenient brushes m cs ≡ accept x → FineS (FitKind brushes m) kind_chunks n x
  unfolding read_kind a_mesh a_bone write_chunks_of
  kind_fine n done x h e = subst (FineS (FitKind brushes m) kind_chunks n) (got_inj e) (record { ok = tt; size = n; of = tt; short = λ l. omega arith })
  kind_fine n (stop i p) x h e = bad_got e
  kind_fine n (chunk t p b r) x h e =
      by-if (is t MESH) _ _ e
      (λ u e₁. by_got (read_mesh Lenient brushes p b) _ e₁ (λ a ea e₂. let f = mesh-fine brushes p b a h.0 ea in
      subst (FineS (FitKind brushes m) kind_chunks n) (got_inj e₂)
      (record { ok = f.0; size = n - (8 + length b); of = h.2; short = λ l. omega (arith, h.1, f.1, length-chunk code MESH (write_mesh a) (write_chunks l)) })))
      (λ u e₁. by-if (is t BONE) _ _ e₁
      (λ v e₂. by_got (read_bone m p b) _ e₂ (λ a ea e₃. let f = bone-fine m p b a h.0 ea in
      subst (FineS (FitKind brushes m) kind_chunks n) (got_inj e₃)
      (record { ok = f.0; size = n - (8 + length b); of = h.2; short = λ l. omega (arith, h.1, f.1, length-chunk code BONE (write_items write_words a) (write_chunks l)) })))
      (λ v e₂. subst (FineS (FitKind brushes m) kind_chunks n) (got_inj e₂) (record { ok = tt; size = n; of = h; short = λ l. omega arith })))

-- the same for KEYS and ANIM, where an ANIM seen before is counted already
record FineM (seen : Anim) (n : ℕ) (x : Found Animation) : Type 0 where
  keys : All FitKeys x.value.keys
  anim-fits : FitAnim x.value.anim
  size : ℕ
  of : Of size x.rest
  short : (l : List Chunk) → length (write_chunks (key_chunks x.value.keys (anim_chunks x.value.anim l))) + size ≤ n + length (write_chunks (anim_chunks seen l))

moves-fine : (n : ℕ) (cs : Chunks) (seen : Anim) (x : Found Animation) → FitAnim seen → Of n cs → read_animation seen cs ≡ accept x → FineM seen n x
unfolding read_animation with_keys write_chunks_of
moves-fine n done seen x ha h e = subst (FineM seen n) (got_inj e) (record { keys = tt; anim-fits = ha; size = n; of = tt; short = λ l. omega arith })
moves-fine n (stop i p) seen x ha h e = bad_got e
moves-fine n (chunk t p b r) seen x ha h e =
    by-if (is t KEYS) _ _ e
    (λ u e₁. by_got (read_keys p b) _ e₁ (λ k ek e₂. let f = keys-fine p b k h.0 ek in
    by_got (read_animation seen r) _ e₂ (λ y ey e₃. let g = moves-fine (n - (8 + length b)) r seen y ha h.2 ey in
    subst (FineM seen n) (got_inj e₃)
    (record {
      keys = (f.0, g.keys);
      anim-fits = g.anim-fits;
      size = g.size;
      of = g.of;
      short = λ l. omega (arith, h.1, f.1, g.short l, length-chunk code KEYS (write_keys k) (write_chunks (key_chunks y.value.keys (anim_chunks y.value.anim l))));
    }))))
    (λ u e₁. by-if (is t ANIM) _ _ e₁
    (λ v e₂. by_got (read_anim p b) _ e₂ (λ ws ew e₃. let f = anim-fine p b ws h.0 ew in
    let g = moves-fine (n - (8 + length b)) r (anim ws) x f.0 h.2 e₃ in
    record {
      keys = g.keys;
      anim-fits = g.anim-fits;
      size = g.size;
      of = g.of;
      short = λ l. omega (arith, h.1, f.1, g.short l, moves_longer [] seen l, length-chunk code ANIM (write_words ws []) (write_chunks l));
    }))
    (λ v e₂. subst (FineM seen n) (got_inj e₂) (record { keys = tt; anim-fits = ha; size = n; of = h; short = λ l. omega arith })))

-- what a NODE's body of n bytes gives, with so many levels
abbrev pub NodeOK : ℕ → ℕ → Option ℕ → ℕ → Inner → Type 0
NodeOK zero brushes above n x = ⊥
NodeOK (suc l) brushes above n x =
    FitData brushes (bone_limit above) x.self × FitNodes l brushes (bone_limit_below above x.self) x.below × (length (write_node x.self (node_chunks x.below)) ≤ n)

abbrev NodesOK : ℕ → ℕ → Option ℕ → ℕ → Forest → Type 0
NodesOK l brushes above n f = FitNodes l brushes above f × (length (write_chunks (node_chunks f)) ≤ n)

one_more : (l brushes : ℕ) (above : Option ℕ) (n : ℕ) (b : List ℕ) (x : Inner) (g : Forest) → NodeOK l brushes above (length b) x → 8 + length b ≤ n
    → NodesOK l brushes above (n - (8 + length b)) g → NodesOK l brushes above n (node x.self x.below g)
unfolding node_chunks write_chunks_of
one_more zero brushes above n b x g h k hg = absurd h
one_more (suc l) brushes above n b x g h k hg =
    ((h.0, h.1, hg.0), omega (arith, h.2, hg.1, length-chunk code NODE (write_node x.self (node_chunks x.below)) (write_chunks (node_chunks g))))

nodes-fine : (l brushes : ℕ) (above : Option ℕ) (one : ℕ → List ℕ → Result Inner)
    → ((p : ℕ) (b : List ℕ) (x : Inner) → AllBytes b → one p b ≡ accept x → NodeOK l brushes above (length b) x)
    → (n : ℕ) (cs : Chunks) (f : Forest) → Of n cs → read_nodes one cs ≡ accept f → NodesOK l brushes above n f
unfolding read_nodes write_chunks_of node_chunks
nodes-fine l brushes above one go n done f h e = subst (NodesOK l brushes above n) (got_inj e) (no-nodes l brushes above, omega arith)
nodes-fine l brushes above one go n (stop i p) f h e = bad_got e
nodes-fine l brushes above one go n (chunk t p b r) f h e =
    by_got (one p b) _ e (λ x ex e₁.
    by_got (read_nodes one r) _ e₁ (λ g eg e₂.
    subst (NodesOK l brushes above n) (got_inj e₂)
    (one_more l brushes above n b x g (go p b x h.0 ex) h.1 (nodes-fine l brushes above one go (n - (8 + length b)) r g h.2 eg))))

pub node-fine : (l brushes : ℕ) (above : Option ℕ) (p : ℕ) (b : List ℕ) (x : Inner) → AllBytes b → read_node Lenient l brushes above p b ≡ accept x → NodeOK l brushes above (length b) x
unfolding read_node read_below write_node
node-fine zero brushes above p b x h e = bad_got e
node-fine (suc l) brushes above p b x h e =
    by_got (named node_row (p + 8) b) _ e (λ y ey e₁. let f = named-fine node_row (p + 8) b y h ey in
    let cs = inside NODE p y.place y.left in
    by_got (read_kind Lenient brushes (bone_limit above) cs) _ e₁ (λ k ek e₂.
    let g = kind_fine brushes (bone_limit above) (length y.left) cs k (inside-fine NODE p y.place y.left f.bytes) ek in
    by_got (read_animation no_anim k.rest) _ e₂ (λ m em e₃.
    let i = moves-fine g.size k.rest no_anim m tt g.of em in
    let d : Data = record { name = y.value.0; words = y.value.1; kind = k.value; keys = m.value.keys; anim = m.value.anim } in
    by_got (read_nodes (read_node Lenient l brushes (bone_limit_below above d)) m.rest) _ e₃ (λ w ew e₄.
    let j = nodes-fine l brushes (bone_limit_below above d) (read_node Lenient l brushes (bone_limit_below above d)) (node-fine l brushes (bone_limit_below above d)) i.size m.rest w i.of ew in
    let ms = key_chunks d.keys (anim_chunks d.anim (node_chunks w)) in
    subst (NodeOK (suc l) brushes above (length b)) (got_inj e₄) (
      record { name = f.ok.0; words = f.ok.1; kind = g.ok; keys = i.keys; anim = i.anim-fits },
      j.0,
      omega (arith, f.short (write_chunks (kind_chunks d.kind ms)), g.short ms, i.short (node_chunks w), j.1),
    )))))
