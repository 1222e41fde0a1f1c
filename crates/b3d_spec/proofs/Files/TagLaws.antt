-- The readers that do not look at a chunk's tag need not: the nesting rule leaves them no other. After the VRTS of a MESH
-- there are only TRIS, after the kind, KEYS and ANIM of a NODE only NODE, after the root of a BB3D nothing.
use mathlib.Core.Path.{◌≡◌, refl, subst}
use Prim.Native.Nat.{ℕ}
use mathlib.Core.Bool.{Bool, true, false, ◌||◌}
use mathlib.Core.List.{List}
use Rattle.wire.specs.Test.{if}
use Rattle.layout.specs.Chunks.{done, stop, chunk}
use Rattle.layout.specs.Result.{Result, accept, ◌>>=◌}
use Rattle.layout.proofs.ResultLaws.{by_got, bad_got, got_inj}
use Rattle.b3d_spec.specs.declared.Mode.{Mode}
use Rattle.b3d_spec.specs.Nesting.{start, next, onward, order, inside, reached_at}
use Rattle.b3d_spec.specs.Parse.{read_one, Vertices, read_vertices, no_vertices, read_mesh, read_bone, read_keys, read_anim, a_mesh, a_bone, read_kind, Animation, with_keys, read_animation}
use Rattle.b3d_spec.specs.Scene.{Kind, Anim, anim}
use Rattle.b3d_spec.specs.declared.Tag.{Tag}
use Rattle.b3d_spec.specs.declared.Tag.TheVariants.{BB3D, TEXS, BRUS, NODE, MESH, VRTS, TRIS, BONE, KEYS, ANIM}
use Rattle.b3d_spec.specs.Tags.{is, Chunks, split, Found}
use Rattle.b3d_spec.proofs.Files.TagCodeLaws.{by-tag}
use Rattle.b3d_spec.proofs.Files.EntryLaws.{Either}

-- ---- which tags come

-- every chunk has this tag
abbrev pub Only : Tag → Chunks → Type 0
Only k done = Unit {0}
Only k (stop n p) = Unit {0}
Only k (chunk t p b r) = (t ≡ k) × Only k r

-- no chunk
abbrev pub Nothing : Chunks → Type 0
Nothing done = Unit {0}
Nothing (stop n p) = Unit {0}
Nothing (chunk t p b r) = ⊥

-- at most one chunk of this tag, and then P
abbrev Then : Tag → (Chunks → Type 0) → Chunks → Type 0
Then k P done = Unit {0}
Then k P (stop n p) = Unit {0}
Then k P (chunk t p b r) = Either (is t k) (P r) (P (chunk t p b r))

-- KEYS and ANIM, and then only NODE
abbrev Late : Chunks → Type 0
Late done = Unit {0}
Late (stop n p) = Unit {0}
Late (chunk t p b r) = Either (is t NODE) (Only NODE r) (Either (is t KEYS || is t ANIM) (Late r) ⊥)

-- what is left after a chunk that may be missing
one_then : {A : Type 0} (k : Tag) (P : Chunks → Type 0) → P done → (a : A) (one : ℕ → List ℕ → Result A) (cs : Chunks) (x : Found A) → Then k P cs → read_one k a one cs ≡ accept x → P x.rest
unfolding read_one if
one_then {A} k P d a one done x h e = subst (λ (y : Found A). P y.rest) (got_inj e) d
one_then k P d a one (stop n p) x h e = bad_got e
one_then {A} k P d a one (chunk t p b r) x h e = go (is t k) h e
  where
    go : (c : Bool) → Either c (P r) (P (chunk t p b r))
        → if c (one p b >>= λ v. accept (record { value = v; rest = r })) (accept (record { value = a; rest = chunk t p b r })) ≡ accept x → P x.rest
    go true h e = by_got (one p b) _ e (λ v ev e₁. subst (λ (y : Found A). P y.rest) (got_inj e₁) h)
    go false h e = subst (λ (y : Found A). P y.rest) (got_inj e) h

-- ---- a MESH

tris_more : (head : ℕ) (cs : Chunks) → Only TRIS (order MESH head (reached_at 2 false) cs)
unfolding order onward next if
tris_more head done = tt
tris_more head (stop n p) = tt
tris_more head (chunk t p b r) =
    by-tag (λ k. Only TRIS (order MESH head (reached_at 2 false) (chunk k p b r))) (tt, tt, tt, tt, tt, tt, (refl, tris_more head r), tt, tt, tt) t

tris_first : (head : ℕ) (cs : Chunks) → Only TRIS (order MESH head (reached_at 1 true) cs)
unfolding order onward next if
tris_first head done = tt
tris_first head (stop n p) = tt
tris_first head (chunk t p b r) =
    by-tag (λ k. Only TRIS (order MESH head (reached_at 1 true) (chunk k p b r))) (tt, tt, tt, tt, tt, tt, (refl, tris_more head r), tt, tt, tt) t

vrts_first : (head : ℕ) (cs : Chunks) → Then VRTS (Only TRIS) (order MESH head start cs)
unfolding order onward next if
vrts_first head done = tt
vrts_first head (stop n p) = tt
vrts_first head (chunk t p b r) =
    by-tag (λ k. Then VRTS (Only TRIS) (order MESH head start (chunk k p b r))) (tt, tt, tt, tt, tt, tris_first head r, tt, tt, tt, tt) t

pub mesh-tags : (mode : Mode) (head p : ℕ) (s : List ℕ) (x : Found Vertices) → read_one VRTS no_vertices (read_vertices mode) (inside MESH head p s) ≡ accept x → Only TRIS x.rest
unfolding inside
mesh-tags mode head p s x e = one_then VRTS (Only TRIS) tt no_vertices (read_vertices mode) _ x (vrts_first head (split p s)) e

-- ---- a NODE

node-more : (head : ℕ) (cs : Chunks) → Only NODE (order NODE head (reached_at 3 false) cs)
unfolding order onward next if
node-more head done = tt
node-more head (stop n p) = tt
node-more head (chunk t p b r) =
    by-tag (λ k. Only NODE (order NODE head (reached_at 3 false) (chunk k p b r))) (tt, tt, tt, (refl, node-more head r), tt, tt, tt, tt, tt, tt) t

late-moves : (s : Bool) (head : ℕ) (cs : Chunks) → Late (order NODE head (reached_at 2 s) cs)
unfolding order onward next if
late-moves s head done = tt
late-moves s head (stop n p) = tt
late-moves false head (chunk t p b r) =
    by-tag (λ k. Late (order NODE head (reached_at 2 false) (chunk k p b r))) (tt, tt, tt, node-more head r, tt, tt, tt, tt, late-moves false head r, late-moves true head r) t
late-moves true head (chunk t p b r) =
    by-tag (λ k. Late (order NODE head (reached_at 2 true) (chunk k p b r))) (tt, tt, tt, node-more head r, tt, tt, tt, tt, late-moves true head r, tt) t

late-kind : (head : ℕ) (cs : Chunks) → Late (order NODE head (reached_at 1 true) cs)
unfolding order onward next if
late-kind head done = tt
late-kind head (stop n p) = tt
late-kind head (chunk t p b r) =
    by-tag (λ k. Late (order NODE head (reached_at 1 true) (chunk k p b r))) (tt, tt, tt, node-more head r, tt, tt, tt, tt, late-moves false head r, late-moves true head r) t

late-found : (mode : Mode) (brushes n head : ℕ) (cs : Chunks) (x : Found Kind) → read_kind mode brushes n (order NODE head start cs) ≡ accept x → Late x.rest
unfolding order onward next read_kind a_mesh a_bone if
late-found mode brushes n head done x e = subst (λ (y : Found Kind). Late y.rest) (got_inj e) tt
late-found mode brushes n head (stop i p) x e = bad_got e
late-found mode brushes n head (chunk t p b r) x e =
    let P : Tag → Type 0 = λ k. read_kind mode brushes n (order NODE head start (chunk k p b r)) ≡ accept x → Late x.rest in
    let left : Found Kind → Type 0 = λ y. Late y.rest in
    let nodes : P NODE = λ e. subst left (got_inj e) (node-more head r) in
    let mesh : P MESH = λ e. by_got (read_mesh mode brushes p b) _ e (λ m em e₁. subst left (got_inj e₁) (late-kind head r)) in
    let bone : P BONE = λ e. by_got (read_bone n p b) _ e (λ m em e₁. subst left (got_inj e₁) (late-kind head r)) in
    let keys : P KEYS = λ e. subst left (got_inj e) (late-moves false head r) in
    let anim : P ANIM = λ e. subst left (got_inj e) (late-moves true head r) in
    by-tag P (bad_got, bad_got, bad_got, nodes, mesh, bad_got, bad_got, bone, keys, anim) t e

never : {A B : Type 0} → ⊥ → A → B
never h a = absurd h

moves-found : (cs : Chunks) (seen : Anim) (x : Found Animation) → Late cs → read_animation seen cs ≡ accept x → Only NODE x.rest
unfolding read_animation with_keys if
moves-found done seen x h e = subst (λ (y : Found Animation). Only NODE y.rest) (got_inj e) tt
moves-found (stop n p) seen x h e = bad_got e
moves-found (chunk t p b r) seen x h e =
    let P : Tag → Type 0 = λ k. Late (chunk k p b r) → read_animation seen (chunk k p b r) ≡ accept x → Only NODE x.rest in
    let left : Found Animation → Type 0 = λ y. Only NODE y.rest in
    let nodes : P NODE = λ h e. subst left (got_inj e) (refl, h) in
    let keys : P KEYS = λ h e. by_got (read_keys p b) _ e (λ k ek e₁. by_got (read_animation seen r) _ e₁ (λ y ey e₂. subst left (got_inj e₂) (moves-found r seen y h ey))) in
    let anims : P ANIM = λ h e. by_got (read_anim p b) _ e (λ ws ew e₁. moves-found r (anim ws) x h e₁) in
    by-tag P (never, never, never, nodes, never, never, never, never, keys, anims) t h e

pub node-tags : (mode : Mode) (brushes n head p : ℕ) (s : List ℕ) (k : Found Kind) (seen : Anim) (m : Found Animation) → read_kind mode brushes n (inside NODE head p s) ≡ accept k
    → read_animation seen k.rest ≡ accept m → Only NODE m.rest
unfolding inside
node-tags mode brushes n head p s k seen m ek em = moves-found k.rest seen m (late-found mode brushes n head (split p s) k ek) em

-- ---- a BB3D

-- at most a root; at most brushes and then a root
abbrev Root : Chunks → Type 0
Root cs = Then NODE Nothing cs

abbrev Rest : Chunks → Type 0
Rest cs = Then BRUS Root cs

after-root : (head : ℕ) (cs : Chunks) → Nothing (order BB3D head (reached_at 3 true) cs)
unfolding order onward next if
after-root head done = tt
after-root head (stop n p) = tt
after-root head (chunk t p b r) =
    by-tag (λ k. Nothing (order BB3D head (reached_at 3 true) (chunk k p b r))) (tt, tt, tt, tt, tt, tt, tt, tt, tt, tt) t

after-brushes : (head : ℕ) (cs : Chunks) → Root (order BB3D head (reached_at 2 true) cs)
unfolding order onward next if
after-brushes head done = tt
after-brushes head (stop n p) = tt
after-brushes head (chunk t p b r) =
    by-tag (λ k. Root (order BB3D head (reached_at 2 true) (chunk k p b r))) (tt, tt, tt, after-root head r, tt, tt, tt, tt, tt, tt) t

after-textures : (head : ℕ) (cs : Chunks) → Rest (order BB3D head (reached_at 1 true) cs)
unfolding order onward next if
after-textures head done = tt
after-textures head (stop n p) = tt
after-textures head (chunk t p b r) =
    by-tag (λ k. Rest (order BB3D head (reached_at 1 true) (chunk k p b r))) (tt, tt, after-brushes head r, after-root head r, tt, tt, tt, tt, tt, tt) t

file-order : (head : ℕ) (cs : Chunks) → Then TEXS Rest (order BB3D head start cs)
unfolding order onward next if
file-order head done = tt
file-order head (stop n p) = tt
file-order head (chunk t p b r) =
    by-tag (λ k. Then TEXS Rest (order BB3D head start (chunk k p b r))) (tt, after-textures head r, after-brushes head r, after-root head r, tt, tt, tt, tt, tt, tt) t

pub file-tags : {A B C : Type 0} (a : A) (b : B) (c : C) (one : ℕ → List ℕ → Result A) (two : ℕ → List ℕ → Result B) (three : ℕ → List ℕ → Result C) (p : ℕ) (s : List ℕ)
    (x : Found A) (y : Found B) (z : Found C) → read_one TEXS a one (inside BB3D 0 p s) ≡ accept x → read_one BRUS b two x.rest ≡ accept y → read_one NODE c three y.rest ≡ accept z → Nothing z.rest
unfolding inside
file-tags a b c one two three p s x y z ex ey ez =
    one_then NODE Nothing tt c three y.rest z (one_then BRUS Root tt b two x.rest y (one_then TEXS Rest tt a one _ x (file-order 0 (split p s)) ex) ey) ez
