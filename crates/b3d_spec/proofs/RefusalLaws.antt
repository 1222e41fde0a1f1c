-- Refusals in numbers: one of `parse` is 1 to 9; a place is one of the file or a table's number, so no more than the most bytes of a file; no refusal is 0.
use mathlib.Core.Path.{◌≡◌, subst}
use Prim.Native.Nat.{ℕ, zero, suc, ◌+◌, ◌≤◌, ◌<◌}
use native.Mathlib.Omega.{arith}
use mathlib.Core.Bool.{Bool, true, false}
use mathlib.Core.Option.{Option, none, some}
use mathlib.Core.List.{List, [], ◌∷◌}
use lib.ListN.{length, take, drop, length-drop}
use lib.Seq.{length-take-le}
use lib.Dec.{T, leb, eqb, leb→le}
use Rattle.wire.specs.Test.{if}
use Rattle.wire.specs.Bytes.{word}
use Rattle.layout.specs.Chunks.{done, stop, chunk, keep, split_in, split as split_of, ended}
use Rattle.layout.specs.Result.{Result, accept, reject, check, ◌>>=◌}
use Rattle.layout.specs.Parts.{Step, row, number, named}
use Rattle.layout.specs.Rules.{Rule, refusal}
use Rattle.layout.proofs.AllLaws.{All}
use Rattle.layout.proofs.RefusalLaws.{OneToNine, refusal-range}
use Rattle.layout.specs.Rows.{each_of, size_fits, most_bytes}
use Rattle.b3d_spec.specs.declared.Mode.{Mode}
use Rattle.b3d_spec.specs.declared.Tag.{Tag}
use Rattle.b3d_spec.specs.declared.Tag.TheVariants.{BB3D, TEXS, BRUS, NODE, MESH, VRTS, BONE, KEYS, ANIM}
use Rattle.b3d_spec.specs.Answers.{judge, read}
use Rattle.b3d_spec.specs.Nesting.{nesting, Reached, start, required_between, end, next, onward, order, inside}
use Rattle.b3d_spec.specs.Parse.{read_one, read_textures, read_brushes, no_vertices, read_vertices, read_triangles, read_sets, read_mesh, read_bone, read_keys, read_anim, a_mesh, a_bone, read_kind, with_keys, read_animation, Inner, read_nodes, read_below, read_node, read_root, read_body, parse}
use Rattle.b3d_spec.specs.Rules.{header, file_head, node_row, mesh_head, bone_limit, bone_limit_below, levels}
use Rattle.b3d_spec.specs.Scene.{Anim, no_anim, anim, Data, no_nodes, Scene}
use Rattle.b3d_spec.specs.Tables.{tables}
use Rattle.b3d_spec.specs.Tags.{code, tag_of, is, Chunks, split, Found}
use Rattle.b3d_spec.proofs.Files.BodyRefusalLaws as body
use Rattle.b3d_spec.proofs.Files.BodyRefusalLaws.{Any}
use Rattle.b3d_spec.proofs.Files.FileLaws.{size_bound}
use Rattle.b3d_spec.proofs.Rows.TableNumberLaws.{each-table}

-- a refusal from 1 to 9 whose place is no more than the most bytes of a file
abbrev Told : ℕ → ℕ → Type 0
Told n p = OneToNine n × (p ≤ most_bytes)

-- a value with P, or such a refusal
abbrev Low : {A : Type 0} → (A → Type 0) → Result A → Type 0
Low P o = body.Low Told P o

told : {p : ℕ} (n : ℕ) → T (leb 1 n) → T (leb n 9) → p ≤ most_bytes → Told n p
told n a b h = ((leb→le 1 n a, leb→le n 9 b), h)

five : (p : ℕ) → p ≤ most_bytes → Told 5 p
five p h = told 5 tt tt h

ruled : (r : Rule) (p : ℕ) → p < most_bytes → Told (refusal r) p
ruled r p h = (refusal-range r, omega arith)

bind_low : {A B : Type 0} (P : A → Type 0) (Q : B → Type 0) (m : Result A) (k : A → Result B) → Low P m → ((a : A) → P a → Low Q (k a)) → Low Q (m >>= k)
bind_low P Q m k h f = body.bind_low Told P Q m k h f

-- what is left ends there or before
abbrev Left : {A : Type 0} → Step A → Type 0
Left x = x.place + length x.left ≤ most_bytes

-- ---- chunks

-- each chunk ends there or before, and the refusal that they end in has its place there or before
abbrev LowC : Chunks → Type 0
LowC done = Unit {0}
LowC (stop n p) = Told n p
LowC (chunk t p b r) = (p + 8 + length b ≤ most_bytes) × LowC r

abbrev Rest : {A : Type 0} → Found A → Type 0
Rest x = LowC x.rest

if-chunks : (b : Bool) (x y : Chunks) → (T b → LowC x) → LowC y → LowC (if b x y)
unfolding if
if-chunks true x y h k = h tt
if-chunks false x y h k = k

keep_low : (o : Option Tag) (p : ℕ) (b : List ℕ) (r : Chunks) → p + 8 + length b ≤ most_bytes → LowC r → LowC (keep o p b r)
unfolding keep
keep_low none p b r h k = k
keep_low (some t) p b r h k = (h, k)

split_in_low : (f p : ℕ) (s : List ℕ) → p + length s ≤ most_bytes → LowC (split_in tag_of f p s)
unfolding split_in
split_in_low zero p s h = tt
split_in_low (suc f) p [] h = tt
split_in_low (suc f) p (a ∷ []) h = told 3 tt tt (omega arith)
split_in_low (suc f) p (a ∷ b ∷ []) h = told 3 tt tt (omega arith)
split_in_low (suc f) p (a ∷ b ∷ c ∷ []) h = told 3 tt tt (omega arith)
split_in_low (suc f) p (a ∷ b ∷ c ∷ d ∷ []) h = told 3 tt tt (omega arith)
split_in_low (suc f) p (a ∷ b ∷ c ∷ d ∷ e ∷ []) h = told 3 tt tt (omega arith)
split_in_low (suc f) p (a ∷ b ∷ c ∷ d ∷ e ∷ g ∷ []) h = told 3 tt tt (omega arith)
split_in_low (suc f) p (a ∷ b ∷ c ∷ d ∷ e ∷ g ∷ i ∷ []) h = told 3 tt tt (omega arith)
split_in_low (suc f) p (a ∷ b ∷ c ∷ d ∷ e ∷ g ∷ i ∷ j ∷ s) h =
    let n = word e g i j in
    if-chunks (leb n (length s)) _ (stop 3 p)
    (λ t. let l = leb→le n (length s) t in
    keep_low (tag_of (word a b c d)) p (take n s) _ (omega (arith, length-take-le n s l)) (split_in_low f (p + 8 + n) (drop n s) (omega (arith, length-drop n s))))
    (told 3 tt tt (omega arith))

onward-low : (o : Option Reached) (p : ℕ) (go : Reached → Chunks) → p ≤ most_bytes → ((r : Reached) → LowC (go r)) → LowC (onward o p go)
unfolding onward
onward-low none p go k h = told 4 tt tt k
onward-low (some r) p go k h = h r

order-low : (k : Tag) (head : ℕ) (r : Reached) (cs : Chunks) → head ≤ most_bytes → LowC cs → LowC (order k head r cs)
unfolding order
order-low k head r done g h = if-chunks (required_between (nesting k) r.turn end) (stop 8 head) done (λ t. (told 8 tt tt g)) tt
order-low k head r (stop n p) g h = h
order-low k head r (chunk t p b l) g h = onward-low (next (nesting k) (nesting k) r t) p _ (omega (arith, h.0)) (λ q. (h.0, order-low k head q l g h.1))

inside-low : (k : Tag) (head p : ℕ) (s : List ℕ) → head ≤ most_bytes → p + length s ≤ most_bytes → LowC (inside k head p s)
unfolding inside split_of
inside-low k head p s g h = order-low k head start (split p s) g (split_in_low (length s) p s h)

ended-low : {A : Type 0} (cs : Chunks) (a : A) → LowC cs → Low Any (ended cs a)
unfolding ended
ended-low done a h = tt
ended-low (stop n p) a h = h
ended-low (chunk t p b r) a h = ended-low r a h.1

-- a reader of a chunk's body
abbrev Body : {A : Type 0} → (ℕ → List ℕ → Result A) → Type 0
Body one = (p : ℕ) (b : List ℕ) → p + 8 + length b ≤ most_bytes → Low Any (one p b)

one-low : {A : Type 0} (k : Tag) (a : A) (one : ℕ → List ℕ → Result A) → Body one → (cs : Chunks) → LowC cs → Low Rest (read_one k a one cs)
unfolding read_one
one-low k a one low done h = tt
one-low k a one low (stop n p) h = h
one-low k a one low (chunk t p b r) h = body.if-low Told Rest (is t k) _ _ (bind_low Any Rest (one p b) _ (low p b h.0) (λ x _. h.1)) h

-- ---- meshes

sets-low : (brushes n : ℕ) (cs : Chunks) → LowC cs → Low Any (read_sets brushes n cs)
unfolding read_sets
sets-low brushes n done h = tt
sets-low brushes n (stop i p) h = h
sets-low brushes n (chunk t p b r) h =
    bind_low Any Any (read_triangles brushes n p b) _ (body.triangles-low most_bytes Told five ruled brushes n p b h.0) (λ x _.
    bind_low Any Any (read_sets brushes n r) _ (sets-low brushes n r h.1) (λ l _. tt))

mesh-low : (mode : Mode) (brushes : ℕ) → Body (read_mesh mode brushes)
unfolding read_mesh
mesh-low mode brushes p b h =
    bind_low Left Any (row (mesh_head brushes) (p + 8) b) _ (body.row_low most_bytes Told five ruled (mesh_head brushes) (p + 8) b h) (λ x hx.
    let cs = inside MESH p x.place x.left in
    bind_low Rest Any (read_one VRTS no_vertices (read_vertices mode) cs) _ (one-low VRTS no_vertices (read_vertices mode) (body.vertices-low most_bytes Told five ruled mode) cs (inside-low MESH p x.place x.left (omega arith) hx)) (λ v hv.
    bind_low Any Any (read_sets brushes (length v.value.items) v.rest) _ (sets-low brushes (length v.value.items) v.rest hv) (λ l _. tt)))

-- ---- nodes

kind-low : (mode : Mode) (brushes n : ℕ) (cs : Chunks) → LowC cs → Low Rest (read_kind mode brushes n cs)
unfolding read_kind a_mesh a_bone
kind-low mode brushes n done h = tt
kind-low mode brushes n (stop i p) h = h
kind-low mode brushes n (chunk t p b r) h =
    body.if-low Told Rest (is t MESH) _ _ (bind_low Any Rest (read_mesh mode brushes p b) _ (mesh-low mode brushes p b h.0) (λ m _. h.1))
    (body.if-low Told Rest (is t BONE) _ _ (bind_low Any Rest (read_bone n p b) _ (body.bone-low most_bytes Told five ruled n p b h.0) (λ w _. h.1)) h)

moves-low : (cs : Chunks) (seen : Anim) → LowC cs → Low Rest (read_animation seen cs)
unfolding read_animation with_keys
moves-low done seen h = tt
moves-low (stop i p) seen h = h
moves-low (chunk t p b r) seen h =
    body.if-low Told Rest (is t KEYS) _ _
    (bind_low Any Rest (read_keys p b) _ (body.keys-low most_bytes Told five ruled p b h.0) (λ k _. bind_low Rest Rest (read_animation seen r) _ (moves-low r seen h.1) (λ x hx. hx)))
    (body.if-low Told Rest (is t ANIM) _ _ (bind_low Any Rest (read_anim p b) _ (body.anim-low most_bytes Told five ruled p b h.0) (λ ws _. moves-low r (anim ws) h.1)) h)

nodes-low : (one : ℕ → List ℕ → Result Inner) → Body one → (cs : Chunks) → LowC cs → Low Any (read_nodes one cs)
unfolding read_nodes
nodes-low one low done h = tt
nodes-low one low (stop i p) h = h
nodes-low one low (chunk t p b r) h =
    bind_low Any Any (one p b) _ (low p b h.0) (λ x _. bind_low Any Any (read_nodes one r) _ (nodes-low one low r h.1) (λ l _. tt))

node-low : (mode : Mode) (l brushes : ℕ) (above : Option ℕ) → Body (read_node mode l brushes above)
unfolding read_node read_below
node-low mode zero brushes above p b h = told 9 tt tt (omega arith)
node-low mode (suc l) brushes above p b h =
    bind_low Left Any (named node_row (p + 8) b) _ (body.named-low most_bytes Told five ruled node_row (p + 8) b h) (λ x hx.
    let cs = inside NODE p x.place x.left in
    bind_low Rest Any (read_kind mode brushes (bone_limit above) cs) _ (kind-low mode brushes (bone_limit above) cs (inside-low NODE p x.place x.left (omega arith) hx)) (λ k hk.
    bind_low Rest Any (read_animation no_anim k.rest) _ (moves-low k.rest no_anim hk) (λ m hm.
    let d : Data = record { name = x.value.0; words = x.value.1; kind = k.value; keys = m.value.keys; anim = m.value.anim } in
    bind_low Any Any (read_nodes (read_node mode l brushes (bone_limit_below above d)) m.rest) _ (nodes-low (read_node mode l brushes (bone_limit_below above d)) (node-low mode l brushes (bone_limit_below above d)) m.rest hm) (λ f _. tt))))

-- ---- the file

root-low : (mode : Mode) (brushes : ℕ) → Body (read_root mode brushes)
unfolding read_root
root-low mode brushes p b h = bind_low Any Any (read_node mode levels brushes none p b) _ (node-low mode levels brushes none p b h) (λ x _. tt)

body-low : (mode : Mode) (p : ℕ) (b : List ℕ) → p + length b ≤ most_bytes → Low Any (read_body mode p b)
unfolding read_body
body-low mode p b h =
    bind_low Left Any (row file_head p b) _ (body.row_low most_bytes Told five ruled file_head p b h) (λ x hx.
    let cs = inside BB3D 0 x.place x.left in
    bind_low Rest Any (read_one TEXS [] read_textures cs) _ (one-low TEXS [] read_textures (body.textures-low most_bytes Told five ruled) cs (inside-low BB3D 0 x.place x.left (omega arith) hx)) (λ t ht.
    bind_low Rest Any (read_one BRUS (0, []) (read_brushes mode (length t.value)) t.rest) _ (one-low BRUS (0, []) (read_brushes mode (length t.value)) (body.brushes-low most_bytes Told five ruled mode (length t.value)) t.rest ht) (λ u hu.
    bind_low Rest Any (read_one NODE no_nodes (read_root mode (length u.value.1)) u.rest) _ (one-low NODE no_nodes (read_root mode (length u.value.1)) (root-low mode (length u.value.1)) u.rest hu) (λ n hn.
    ended-low n.rest _ hn))))

-- ---- what is answered

-- a file is read only where its size is within the limits
size_low : {A : Type 0} (b : Bool) (m : Result A) → (T b → Low Any m) → Low Any (check b 1 0 >>= λ _. m)
unfolding check
size_low true m h = h tt
size_low false m h = told 1 tt tt (omega arith)

parse-low : (mode : Mode) (s : List ℕ) → Low Any (parse mode s)
unfolding parse
parse-low mode s =
    size_low (size_fits (length s)) _ (λ t.
    bind_low Left Any (row header 0 s) _ (body.row_low most_bytes Told five ruled header 0 s (omega (arith, size_bound (length s) t))) (λ x hx.
    bind_low Any Any (check (eqb (number x 0) (code BB3D)) 2 0) _ (body.check-low Told (eqb (number x 0) (code BB3D)) 2 0 (told 2 tt tt (omega arith))) (λ u _.
    bind_low Any Any (check (eqb (number x 1) (length x.left)) 2 4) _ (body.check-low Told (eqb (number x 1) (length x.left)) 2 4 (told 2 tt tt (omega arith))) (λ v _.
    body-low mode x.place x.left hx))))

pub parse-refusal : (mode : Mode) (s : List ℕ) (n p : ℕ) → parse mode s ≡ reject n p → OneToNine n
parse-refusal mode s n p e = (subst (λ (o : Result Scene). Low Any o) e (parse-low mode s)).0

-- ---- 10 and 11 too

-- a refusal that is not 0, whose place is no more than the most bytes of a file
abbrev Bounded : {A : Type 0} → Result A → Type 0
Bounded (accept a) = Unit {0}
Bounded (reject n p) = (1 ≤ n) × (p ≤ most_bytes)

bind_bounded : {A B : Type 0} (m : Result A) (k : A → Result B) → Bounded m → ((a : A) → Bounded (k a)) → Bounded (m >>= k)
bind_bounded (accept a) k h f = f a
bind_bounded (reject n p) k h f = h

low-bounded : {A : Type 0} (o : Result A) → Low Any o → Bounded o
low-bounded (accept a) h = tt
low-bounded (reject n p) h = (h.0.0, h.1)

-- the number of a table
each-bounded : (n : ℕ) (ok : ℕ → Bool) (ks : List ℕ) → 1 ≤ n → All (λ k. k ≤ most_bytes) ks → Bounded (each_of n ok ks)
unfolding each_of check
each-bounded n ok [] a h = tt
each-bounded n ok (k ∷ ks) a h = bind_bounded (check (ok k) n k) _ (one (ok k)) (λ u. each-bounded n ok ks a h.1)
  where
    one : (b : Bool) → Bounded (check b n k)
    one true = tt
    one false = (a, h.0)

tables-bounded : (n : ℕ) (ok : ℕ → Bool) → 1 ≤ n → Bounded (each_of n ok tables)
tables-bounded n ok a = each-bounded n ok tables a (each-table (λ k. k ≤ most_bytes) (λ k lo hi. omega arith))

judge-bounded : (mode : Mode) (s : List ℕ) → Bounded (judge mode s)
unfolding judge
judge-bounded mode s = bind_bounded (parse mode s) _ (low-bounded (parse mode s) (parse-low mode s)) (λ t. bind_bounded (each_of 10 _ tables) _ (tables-bounded 10 _ (omega arith)) (λ u. tt))

pub judge-place : (mode : Mode) (s : List ℕ) (n p : ℕ) → judge mode s ≡ reject n p → p ≤ most_bytes
judge-place mode s n p e = (subst (λ (o : Result Scene). Bounded o) e (judge-bounded mode s)).1

read-bounded : (mode : Mode) (room : ℕ → ℕ) (s : List ℕ) → Bounded (read mode room s)
unfolding read
read-bounded mode room s = bind_bounded (judge mode s) _ (judge-bounded mode s) (λ t. bind_bounded (each_of 11 _ tables) _ (tables-bounded 11 _ (omega arith)) (λ u. tt))

pub read_number : (mode : Mode) (room : ℕ → ℕ) (s : List ℕ) (n p : ℕ) → read mode room s ≡ reject n p → 1 ≤ n
read_number mode room s n p e = (subst (λ (o : Result Scene). Bounded o) e (read-bounded mode room s)).0
