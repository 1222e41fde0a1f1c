-- What is mended is never a refusal: the mending read answers neither 7, nor 2 at 4.
use mathlib.Core.Path.{◌≡◌, subst}
use Prim.Native.Nat.{ℕ, zero, suc, ◌+◌}
use native.Mathlib.Omega.{arith}
use mathlib.Core.Bool.{Bool, true, false}
use mathlib.Core.Option.{Option, none, some}
use mathlib.Core.List.{List, [], ◌∷◌, ◌++◌}
use lib.ListN.{length, replicate}
use lib.Dec.{eqb}
use Rattle.wire.specs.Test.{if}
use Rattle.layout.specs.Chunks.{done, stop, chunk, ended}
use Rattle.layout.specs.Result.{Result, accept, reject, check, ◌>>=◌}
use Rattle.layout.specs.Parts.{Step, text, words, judged, row, number, named, items_in, items}
use Rattle.layout.specs.Rules.{Rule, any, up_to, exactly, names, names_or_none, unit, holds, refusal}
use Rattle.layout.specs.Rows.{size_fits}
use Rattle.layout.proofs.AllLaws.{All}
use Rattle.b3d_spec.specs.declared.Mode.TheVariants.{Lenient}
use Rattle.b3d_spec.specs.Nesting.{nesting, Reached, start, required_between, end, next, onward, order}
use Rattle.b3d_spec.specs.Parse.{read_texture, read_textures, no_vertices, read_vertices, read_keys, filled, read_anim, Inner}
use Rattle.b3d_spec.specs.Rules.{texture_row, brush_row, brush_ids, texture_id, node_row, vertex_row, vertex_words, key_row, key_words, anim_row, header, file_head, brushes_head, vertices_head, keys_head, mesh_head, triangles_head, triangle_row, weight_row, bone_limit, bone_limit_below, levels}
use Rattle.b3d_spec.specs.Scene.{Anim, no_anim, anim, no_nodes}
use Rattle.b3d_spec.specs.Tags.{code, is, Chunks}
use Rattle.b3d_spec.specs.declared.Tag.{Tag}
use Rattle.b3d_spec.specs.declared.Tag.TheVariants.{BB3D, TEXS, BRUS, NODE, MESH, VRTS, BONE, KEYS, ANIM}
use Rattle.b3d_mend_spec.specs.Mend.{Mended, mend_word, mend_words, mend_row, mend_named, mend_item, mend_items, as_read, mend_brush, mend_brushes, mend_triangles, mend_bone, Taken, found, mend_one, mend_sets, mend_mesh, mend_kind, with_keys, with_anim, mend_moves, mend_nodes, data_of, mend_node, mend_root, mend_body, mend_file}
use Rattle.b3d_mend_spec.specs.Pieces.{Pieces, none_left, spare, past, other, known, pieces, chunks_of}
use Rattle.b3d_mend_spec.specs.Mends.{Unmended}
use Rattle.b3d_mend_spec.proofs.PieceLaws.{within}

abbrev pub Plain : {A : Type 0} → Result A → Type 0
Plain (accept a) = Unit {0}
Plain (reject n p) = Unmended n p

one : (p : ℕ) → Unmended 1 p
one p = ((λ e. omega arith), (λ e q. omega arith), omega arith, omega arith)

three : (p : ℕ) → Unmended 3 p
three p = ((λ e. omega arith), (λ e q. omega arith), omega arith, omega arith)

four : (p : ℕ) → Unmended 4 p
four p = ((λ e. omega arith), (λ e q. omega arith), omega arith, omega arith)

five : (p : ℕ) → Unmended 5 p
five p = ((λ e. omega arith), (λ e q. omega arith), omega arith, omega arith)

six : (p : ℕ) → Unmended 6 p
six p = ((λ e. omega arith), (λ e q. omega arith), omega arith, omega arith)

eight : (p : ℕ) → Unmended 8 p
eight p = ((λ e. omega arith), (λ e q. omega arith), omega arith, omega arith)

nine : (p : ℕ) → Unmended 9 p
nine p = ((λ e. omega arith), (λ e q. omega arith), omega arith, omega arith)

two_at_0 : Unmended 2 0
two_at_0 = ((λ e. omega arith), (λ e q. omega arith), omega arith, omega arith)

bind_plain : {A B : Type 0} (m : Result A) (k : A → Result B) → Plain m → ((a : A) → Plain (k a)) → Plain (m >>= k)
bind_plain (accept a) k h f = f a
bind_plain (reject n p) k h f = h

check-plain : (b : Bool) (n p : ℕ) → Unmended n p → Plain (check b n p)
unfolding check
check-plain true n p h = tt
check-plain false n p h = h

if-plain : {A : Type 0} (b : Bool) (x y : Result A) → Plain x → Plain y → Plain (if b x y)
unfolding if
if-plain true x y h k = h
if-plain false x y h k = k

-- ---- parts

text-plain : (s p : ℕ) (l : List ℕ) → Plain (text s p l)
unfolding text
text-plain s p [] = five s
text-plain s p (zero ∷ l) = tt
text-plain s p (suc c ∷ l) = bind_plain (text s (p + 1) l) _ (text-plain s (p + 1) l) (λ x. tt)

words-plain : (s n p : ℕ) (l : List ℕ) → Plain (words s n p l)
unfolding words
words-plain s zero p l = tt
words-plain s (suc n) p [] = five s
words-plain s (suc n) p (a ∷ []) = five s
words-plain s (suc n) p (a ∷ b ∷ []) = five s
words-plain s (suc n) p (a ∷ b ∷ c ∷ []) = five s
words-plain s (suc n) p (a ∷ b ∷ c ∷ d ∷ l) = bind_plain (words s n (p + 4) l) _ (words-plain s n (p + 4) l) (λ x. tt)

-- rules that are not of ids; rules of ids only that may be -1
abbrev NoId : Rule → Type 0
NoId any = Unit {0}
NoId (up_to m) = Unit {0}
NoId (exactly m) = Unit {0}
NoId (names n) = ⊥
NoId (names_or_none n) = ⊥
NoId unit = Unit {0}

abbrev MayBe : Rule → Type 0
MayBe any = Unit {0}
MayBe (up_to m) = Unit {0}
MayBe (exactly m) = Unit {0}
MayBe (names n) = ⊥
MayBe (names_or_none n) = Unit {0}
MayBe unit = Unit {0}

refusal-plain : (r : Rule) (p : ℕ) → NoId r → Unmended (refusal r) p
refusal-plain any p h = six p
refusal-plain (up_to m) p h = six p
refusal-plain (exactly m) p h = six p
refusal-plain (names n) p h = absurd h
refusal-plain (names_or_none n) p h = absurd h
refusal-plain unit p h = six p

judged-plain : {A : Type 0} (rs : List Rule) (p : ℕ) (ws : List ℕ) (a : A) → All NoId rs → Plain (judged rs p ws a)
unfolding judged
judged-plain [] p ws a h = tt
judged-plain (r ∷ rs) p [] a h = tt
judged-plain (r ∷ rs) p (w ∷ ws) a h = bind_plain (check (holds r w) (refusal r) p) _ (check-plain (holds r w) (refusal r) p (refusal-plain r p h.0)) (λ u. judged-plain rs (p + 4) ws a h.1)

row_plain : (rs : List Rule) → All NoId rs → (p : ℕ) (s : List ℕ) → Plain (row rs p s)
unfolding row
row_plain rs h p s = bind_plain (words p (length rs) p s) _ (words-plain p (length rs) p s) (λ x. judged-plain rs p x.value x h)

named-plain : (rs : List Rule) → All NoId rs → (p : ℕ) (s : List ℕ) → Plain (named rs p s)
unfolding named
named-plain rs h p s =
    bind_plain (text p p s) _ (text-plain p p s) (λ n. bind_plain (words p (length rs) n.place n.left) _ (words-plain p (length rs) n.place n.left) (λ x. judged-plain rs n.place x.value _ h))

in_plain : {A : Type 0} (item : ℕ → List ℕ → Result (Step A)) → ((p : ℕ) (s : List ℕ) → Plain (item p s)) → (f p : ℕ) (s : List ℕ) → Plain (items_in f item p s)
unfolding items_in
in_plain item h zero p [] = tt
in_plain item h zero p (c ∷ s) = five p
in_plain item h (suc f) p [] = tt
in_plain item h (suc f) p (c ∷ s) = bind_plain (item p (c ∷ s)) _ (h p (c ∷ s)) (λ x. bind_plain (items_in f item x.place x.left) _ (in_plain item h f x.place x.left) (λ l. tt))

items-plain : {A : Type 0} (item : ℕ → List ℕ → Result (Step A)) → ((p : ℕ) (s : List ℕ) → Plain (item p s)) → (p : ℕ) (s : List ℕ) → Plain (items item p s)
unfolding items
items-plain item h p s = in_plain item h (length s) p s

word-plain : (r : Rule) (p w : ℕ) → MayBe r → Plain (mend_word r p w)
unfolding mend_word if
word-plain any p w h = tt
word-plain (up_to m) p w h = if-plain (holds (up_to m) w) _ _ tt (six p)
word-plain (exactly m) p w h = if-plain (holds (exactly m) w) _ _ tt (six p)
word-plain (names n) p w h = absurd h
word-plain (names_or_none n) p w h = if-plain (holds (names_or_none n) w) _ _ tt tt
word-plain unit p w h = if-plain (holds unit w) _ _ tt (six p)

mend-words-plain : (rs : List Rule) (p : ℕ) (ws : List ℕ) → All MayBe rs → Plain (mend_words rs p ws)
unfolding mend_words
mend-words-plain [] p ws h = tt
mend-words-plain (r ∷ rs) p [] h = tt
mend-words-plain (r ∷ rs) p (w ∷ ws) h = bind_plain (mend_word r p w) _ (word-plain r p w h.0) (λ v. bind_plain (mend_words rs (p + 4) ws) _ (mend-words-plain rs (p + 4) ws h.1) (λ x. tt))

mend-row-plain : (rs : List Rule) → All MayBe rs → (p : ℕ) (s : List ℕ) → Plain (mend_row rs p s)
unfolding mend_row
mend-row-plain rs h p s = bind_plain (words p (length rs) p s) _ (words-plain p (length rs) p s) (λ x. bind_plain (mend_words rs p x.value) _ (mend-words-plain rs p x.value h) (λ v. tt))

mend-named-plain : (rs : List Rule) → All MayBe rs → (p : ℕ) (s : List ℕ) → Plain (mend_named rs p s)
unfolding mend_named
mend-named-plain rs h p s =
    bind_plain (text p p s) _ (text-plain p p s) (λ n. bind_plain (words p (length rs) n.place n.left) _ (words-plain p (length rs) n.place n.left) (λ x.
    bind_plain (mend_words rs n.place x.value) _ (mend-words-plain rs n.place x.value h) (λ v. tt)))

item-plain : (rs : List Rule) (p : ℕ) (s : List ℕ) → Plain (mend_item rs p s)
unfolding mend_item
item-plain rs p s = bind_plain (words p (length rs) p s) _ (words-plain p (length rs) p s) (λ x. tt)

mend-items-plain : {A : Type 0} (item : ℕ → List ℕ → Result (Step (Mended (List A)))) → ((p : ℕ) (s : List ℕ) → Plain (item p s)) → (p : ℕ) (s : List ℕ) → Plain (mend_items item p s)
unfolding mend_items
mend-items-plain item h p s = bind_plain (items item p s) _ (items-plain item h p s) (λ l. tt)

any-all : (P : Rule → Type 0) (r : Rule) → P r → (n : ℕ) → All P (replicate n r)
any-all P r h zero = tt
any-all P r h (suc n) = (h, any-all P r h n)

all_both : (P : Rule → Type 0) (xs ys : List Rule) → All P xs → All P ys → All P (xs ++ ys)
all_both P [] ys h k = k
all_both P (x ∷ xs) ys h k = (h.0, all_both P xs ys h.1 k)

-- ---- chunks that hold items only

as-read-plain : {A : Type 0} (read : ℕ → List ℕ → Result A) → ((p : ℕ) (b : List ℕ) → Plain (read p b)) → (p : ℕ) (b : List ℕ) → Plain (as_read read p b)
unfolding as_read
as-read-plain read h p b = bind_plain (read p b) _ (h p b) (λ v. tt)

textures-plain : (p : ℕ) (b : List ℕ) → Plain (read_textures p b)
unfolding read_textures read_texture
textures-plain p b = items-plain read_texture (λ q s. bind_plain (named texture_row q s) _ (named-plain texture_row (any-all NoId any tt 7) q s) (λ x. tt)) (p + 8) b

vertices-plain : (p : ℕ) (b : List ℕ) → Plain (read_vertices Lenient p b)
unfolding read_vertices
vertices-plain p b =
    bind_plain (row vertices_head (p + 8) b) _ (row_plain vertices_head (tt, (tt, (tt, tt))) (p + 8) b) (λ h.
    let rs = vertex_row Lenient (number h 0) (number h 1) (number h 2) in
    bind_plain (items (row rs) h.place h.left) _ (items-plain (row rs) (row_plain rs (any-all NoId any tt (vertex_words (number h 0) (number h 1) (number h 2)))) h.place h.left) (λ l. tt))

keys-plain : (p : ℕ) (b : List ℕ) → Plain (read_keys p b)
unfolding read_keys
keys-plain p b =
    bind_plain (row keys_head (p + 8) b) _ (row_plain keys_head (tt, tt) (p + 8) b) (λ h.
    let rs = key_row (number h 0) in
    bind_plain (items (row rs) h.place h.left) _ (items-plain (row rs) (row_plain rs (any-all NoId any tt (key_words (number h 0)))) h.place h.left) (λ l. tt))

filled-plain : (p : ℕ) (s ws : List ℕ) → Plain (filled p s ws)
unfolding filled
filled-plain p [] ws = tt
filled-plain p (c ∷ s) ws = five p

anim-plain : (p : ℕ) (b : List ℕ) → Plain (read_anim p b)
unfolding read_anim
anim-plain p b = bind_plain (row anim_row (p + 8) b) _ (row_plain anim_row (any-all NoId any tt 3) (p + 8) b) (λ x. filled-plain (p + 8) x.left x.value)

brushes-plain : (textures p : ℕ) (b : List ℕ) → Plain (mend_brushes textures p b)
unfolding mend_brushes mend_brush
brushes-plain textures p b =
    bind_plain (row brushes_head (p + 8) b) _ (row_plain brushes_head (tt, tt) (p + 8) b) (λ h.
    let rs = brush_row Lenient ++ brush_ids (number h 0) textures in
    bind_plain (mend_items (mend_brush (number h 0) textures) h.place h.left) _
    (mend-items-plain (mend_brush (number h 0) textures) (λ q s. bind_plain (mend_named rs q s) _
    (mend-named-plain rs (all_both MayBe (brush_row Lenient) (brush_ids (number h 0) textures) (any-all MayBe any tt 7) (any-all MayBe (texture_id textures) tt (number h 0))) q s) (λ x. tt)) h.place h.left) (λ l. tt))

triangles-plain : (brushes vertices p : ℕ) (b : List ℕ) → Plain (mend_triangles brushes vertices p b)
unfolding mend_triangles
triangles-plain brushes vertices p b =
    bind_plain (mend_row (triangles_head brushes) (p + 8) b) _ (mend-row-plain (triangles_head brushes) (tt, tt) (p + 8) b) (λ h.
    bind_plain (mend_items (mend_item (triangle_row vertices)) h.place h.left) _ (mend-items-plain (mend_item (triangle_row vertices)) (item-plain (triangle_row vertices)) h.place h.left) (λ l. tt))

bone-plain : (vertices p : ℕ) (b : List ℕ) → Plain (mend_bone vertices p b)
unfolding mend_bone
bone-plain vertices p b = mend-items-plain (mend_item (weight_row vertices)) (item-plain (weight_row vertices)) (p + 8) b

-- ---- chunks among others

abbrev PlainC : Chunks → Type 0
PlainC done = Unit {0}
PlainC (stop n p) = Unmended n p
PlainC (chunk t p b r) = PlainC r

-- the rest of what was found is such
abbrev Rest : {A : Type 0} → Result (Taken A) → Type 0
Rest (accept x) = PlainC x.rest
Rest (reject n p) = Unmended n p

pieces-plain : (P : Pieces) → PlainC (chunks_of P)
unfolding chunks_of
pieces-plain none_left = tt
pieces-plain (spare p s) = tt
pieces-plain (past p s) = three p
pieces-plain (other o r) = pieces-plain r
pieces-plain (known t p b r) = pieces-plain r

end-plain : (b : Bool) (h : ℕ) → PlainC (if b (stop 8 h) done)
unfolding if
end-plain true h = eight h
end-plain false h = tt

onward-plain : (o : Option Reached) (p : ℕ) (go : Reached → Chunks) → ((q : Reached) → PlainC (go q)) → PlainC (onward o p go)
unfolding onward
onward-plain none p go h = four p
onward-plain (some q) p go h = h q

order-plain : (k : Tag) (head : ℕ) (r : Reached) (cs : Chunks) → PlainC cs → PlainC (order k head r cs)
unfolding order
order-plain k head r done h = end-plain (required_between (nesting k) r.turn end) head
order-plain k head r (stop n p) h = h
order-plain k head r (chunk t p b l) h = onward-plain (next (nesting k) (nesting k) r t) p _ (λ q. order-plain k head q l h)

within-plain : (k : Tag) (head p : ℕ) (s : List ℕ) → PlainC (within k head p s)
within-plain k head p s = order-plain k head start (chunks_of (pieces p s)) (pieces-plain (pieces p s))

rest_bind : {A B : Type 0} (m : Result (Taken A)) (k : Taken A → Result B) → Rest m → ((x : Taken A) → PlainC x.rest → Plain (k x)) → Plain (m >>= k)
rest_bind (accept x) k h f = f x h
rest_bind (reject n p) k h f = h

rest_of : {A B : Type 0} (m : Result A) (k : A → Result (Taken B)) → Plain m → ((a : A) → Rest (k a)) → Rest (m >>= k)
rest_of (accept a) k h f = f a
rest_of (reject n p) k h f = h

rest_more : {A B : Type 0} (m : Result (Taken A)) (k : Taken A → Result (Taken B)) → Rest m → ((x : Taken A) → PlainC x.rest → Rest (k x)) → Rest (m >>= k)
rest_more (accept x) k h f = f x h
rest_more (reject n p) k h f = h

if-rest : {A : Type 0} (b : Bool) (x y : Result (Taken A)) → Rest x → Rest y → Rest (if b x y)
unfolding if
if-rest true x y h k = h
if-rest false x y h k = k

module _ {A : Type 0} (k : Tag) (a : A) (fix : ℕ → List ℕ → Result (Mended A)) (h : (p : ℕ) (b : List ℕ) → Plain (fix p b)) where
  one_plain : (cs : Chunks) → PlainC cs → Rest (mend_one k a fix cs)
  unfolding mend_one found
  one_plain done c = tt
  one_plain (stop n p) c = c
  one_plain (chunk t p b r) c = if-rest (is t k) _ _ (rest_of (fix p b) _ (h p b) (λ x. c)) c

sets-plain : (brushes vertices : ℕ) (cs : Chunks) → PlainC cs → Plain (mend_sets brushes vertices cs)
unfolding mend_sets
sets-plain brushes vertices done c = tt
sets-plain brushes vertices (stop n p) c = c
sets-plain brushes vertices (chunk t p b r) c =
    bind_plain (mend_triangles brushes vertices p b) _ (triangles-plain brushes vertices p b) (λ x. bind_plain (mend_sets brushes vertices r) _ (sets-plain brushes vertices r c) (λ l. tt))

mesh_plain : (brushes p : ℕ) (b : List ℕ) → Plain (mend_mesh brushes p b)
unfolding mend_mesh
mesh_plain brushes p b =
    bind_plain (mend_row (mesh_head brushes) (p + 8) b) _ (mend-row-plain (mesh_head brushes) (tt, tt) (p + 8) b) (λ h.
    rest_bind (mend_one VRTS no_vertices (as_read (read_vertices Lenient)) (within MESH p h.place h.left)) _
    (one_plain VRTS no_vertices (as_read (read_vertices Lenient)) (as-read-plain (read_vertices Lenient) vertices-plain) (within MESH p h.place h.left) (within-plain MESH p h.place h.left)) (λ v c.
    bind_plain (mend_sets brushes (length v.value.items) v.rest) _ (sets-plain brushes (length v.value.items) v.rest c) (λ l. tt)))

kind-plain : (brushes vertices : ℕ) (cs : Chunks) → PlainC cs → Rest (mend_kind brushes vertices cs)
unfolding mend_kind found
kind-plain brushes vertices done c = tt
kind-plain brushes vertices (stop n p) c = c
kind-plain brushes vertices (chunk t p b r) c =
    if-rest (is t MESH) _ _ (rest_of (mend_mesh brushes p b) _ (mesh_plain brushes p b) (λ x. c))
    (if-rest (is t BONE) _ _ (rest_of (mend_bone vertices p b) _ (bone-plain vertices p b) (λ x. c)) c)

moves-plain : (seen : Anim) (cs : Chunks) → PlainC cs → Rest (mend_moves seen cs)
unfolding mend_moves with_keys with_anim
moves-plain seen done c = tt
moves-plain seen (stop n p) c = c
moves-plain seen (chunk t p b r) c =
    if-rest (is t KEYS) _ _ (rest_of (as_read read_keys p b) _ (as-read-plain read_keys keys-plain p b) (λ x. rest_more (mend_moves seen r) _ (moves-plain seen r c) (λ l d. d)))
    (if-rest (is t ANIM) _ _ (rest_of (as_read read_anim p b) _ (as-read-plain read_anim anim-plain p b) (λ x. rest_more (mend_moves (anim x.value) r) _ (moves-plain (anim x.value) r c) (λ l d. d))) c)

nodes-plain : (fix : ℕ → List ℕ → Result (Mended Inner)) → ((p : ℕ) (b : List ℕ) → Plain (fix p b)) → (cs : Chunks) → PlainC cs → Plain (mend_nodes fix cs)
unfolding mend_nodes
nodes-plain fix h done c = tt
nodes-plain fix h (stop n p) c = c
nodes-plain fix h (chunk t p b r) c = bind_plain (fix p b) _ (h p b) (λ x. bind_plain (mend_nodes fix r) _ (nodes-plain fix h r c) (λ l. tt))

node-plain : (l brushes : ℕ) (above : Option ℕ) (p : ℕ) (b : List ℕ) → Plain (mend_node l brushes above p b)
unfolding mend_node
node-plain zero brushes above p b = nine p
node-plain (suc l) brushes above p b =
    bind_plain (named node_row (p + 8) b) _ (named-plain node_row (any-all NoId any tt 10) (p + 8) b) (λ h.
    rest_bind (mend_kind brushes (bone_limit above) (within NODE p h.place h.left)) _ (kind-plain brushes (bone_limit above) (within NODE p h.place h.left) (within-plain NODE p h.place h.left)) (λ k c.
    rest_bind (mend_moves no_anim k.rest) _ (moves-plain no_anim k.rest c) (λ m d.
    let told = bone_limit_below above (data_of h.value k.value m.value) in
    bind_plain (mend_nodes (mend_node l brushes told) m.rest) _ (nodes-plain (mend_node l brushes told) (node-plain l brushes told) m.rest d) (λ f. tt))))

root-plain : (brushes p : ℕ) (b : List ℕ) → Plain (mend_root brushes p b)
unfolding mend_root
root-plain brushes p b = bind_plain (mend_node levels brushes none p b) _ (node-plain levels brushes none p b) (λ x. tt)

ended-plain : {A : Type 0} (cs : Chunks) (a : A) → PlainC cs → Plain (ended cs a)
unfolding ended
ended-plain done a c = tt
ended-plain (stop n p) a c = c
ended-plain (chunk t p b r) a c = ended-plain r a c

body-plain : (p : ℕ) (b : List ℕ) → Plain (mend_body p b)
unfolding mend_body
body-plain p b =
    bind_plain (row file_head p b) _ (row_plain file_head (tt, tt) p b) (λ h.
    rest_bind (mend_one TEXS [] (as_read read_textures) (within BB3D 0 h.place h.left)) _
    (one_plain TEXS [] (as_read read_textures) (as-read-plain read_textures textures-plain) (within BB3D 0 h.place h.left) (within-plain BB3D 0 h.place h.left)) (λ t c.
    rest_bind (mend_one BRUS (0, []) (mend_brushes (length t.value)) t.rest) _ (one_plain BRUS (0, []) (mend_brushes (length t.value)) (brushes-plain (length t.value)) t.rest c) (λ u d.
    rest_bind (mend_one NODE no_nodes (mend_root (length u.value.1)) u.rest) _ (one_plain NODE no_nodes (mend_root (length u.value.1)) (root-plain (length u.value.1)) u.rest d) (λ n e.
    ended-plain n.rest _ e))))

file-plain : (s : List ℕ) → Plain (mend_file s)
unfolding mend_file
file-plain s =
    bind_plain (check (size_fits (length s)) 1 0) _ (check-plain (size_fits (length s)) 1 0 (one 0)) (λ _.
    bind_plain (row header 0 s) _ (row_plain header (tt, (tt, tt)) 0 s) (λ h.
    bind_plain (check (eqb (number h 0) (code BB3D)) 2 0) _ (check-plain (eqb (number h 0) (code BB3D)) 2 0 two_at_0) (λ _.
    bind_plain (mend_body h.place h.left) _ (body-plain h.place h.left) (λ x. tt))))

-- a refusal is never of a brush, texture or vertex id, nor of BB3D's length
pub file-refusal : (s : List ℕ) (n p : ℕ) → mend_file s ≡ reject n p → Unmended n p
file-refusal s n p e = subst Plain e (file-plain s)
