-- The laws of the nesting rule: what `encode` writes keeps it; it adds nothing to the chunks that it is given.
use mathlib.Core.Path.{◌≡◌, refl, ap, ◌∙◌}
use Prim.Native.Nat.{ℕ, ◌+◌, ◌-◌, ◌<◌}
use native.Mathlib.Omega.{arith}
use mathlib.Core.Bool.{Bool, true, false}
use mathlib.Core.Option.{Option, none, some}
use mathlib.Core.List.{List, [], ◌∷◌}
use lib.ListN.{length}
use Rattle.wire.specs.Bytes.{AllBytes}
use Rattle.wire.specs.Test.{if}
use Rattle.layout.specs.Chunks.{done, stop, chunk}
use Rattle.layout.proofs.ChunkLaws.{lay, split-back, Of, split-fine}
use Rattle.b3d_spec.specs.Encode.{set_chunks, kind_chunks, key_chunks, anim_chunks, node_chunks, texture_chunks, brush_chunks}
use Rattle.b3d_spec.specs.Nesting.{nesting, Reached, start, required_between, end, next, onward, order, inside, reached_at}
use Rattle.b3d_spec.specs.Scene.{Texture, Brush, TriangleSet, Kind, pivot, mesh, bone, Keys, Anim, no_anim, anim, Forest, no_nodes, node}
use Rattle.b3d_spec.specs.declared.Tag.{Tag}
use Rattle.b3d_spec.specs.declared.Tag.TheVariants.{BB3D, TEXS, BRUS, NODE, MESH, VRTS, TRIS, BONE, KEYS, ANIM}
use Rattle.b3d_spec.specs.Tags.{Chunks, split, Chunk, write_chunks, code, tag_of}
use Rattle.b3d_spec.proofs.WellFormedLaws.{OneRoot}
use Rattle.b3d_spec.proofs.Files.TagCodeLaws.{tag-code, code-word}

-- ---- back

-- chunks that keep the rule inside k, from where r has come
abbrev pub Keeps : Tag → Reached → List Chunk → Type 0
Keeps k r l = (head p : ℕ) → order k head r (lay p l) ≡ lay p l

-- one more chunk
more : (k : Tag) (r q : Reached) (c : Chunk) (l : List Chunk) → next (nesting k) (nesting k) r c.tag ≡ some q → Keeps k q l → Keeps k r (c ∷ l)
unfolding order onward
more k r q c l e h head p = rw e (ap (λ (z : Chunks). chunk c.tag p c.body z) (h head (p + 8 + length c.body)))

step : (k : Tag) (r q : Reached) (t : Tag) (b : List ℕ) (l : List Chunk) → next (nesting k) (nesting k) r t ≡ some q → Keeps k q l → Keeps k r (record { tag = t; body = b } ∷ l)
step k r q t b l e h = more k r q (record { tag = t; body = b }) l e h

sets-keep : (l : List TriangleSet) → Keeps MESH (reached_at 2 false) (set_chunks l)
unfolding order next if
sets-keep [] = λ head p. refl
sets-keep (x ∷ l) = step MESH (reached_at 2 false) (reached_at 2 false) TRIS _ (set_chunks l) refl (sets-keep l)

pub mesh-keeps : (b : List ℕ) (l : List TriangleSet) → 0 < length l → Keeps MESH start (record { tag = VRTS; body = b } ∷ set_chunks l)
unfolding order next if
mesh-keeps b [] n = absurd (omega arith)
mesh-keeps b (x ∷ l) n =
    step MESH start (reached_at 1 true) VRTS b (set_chunks (x ∷ l)) refl (step MESH (reached_at 1 true) (reached_at 2 false) TRIS _ (set_chunks l) refl (sets-keep l))

nodes-keep : (f : Forest) → Keeps NODE (reached_at 3 false) (node_chunks f)
unfolding order next if node_chunks
nodes-keep no_nodes = λ head p. refl
nodes-keep (node d f g) = step NODE (reached_at 3 false) (reached_at 3 false) NODE _ (node_chunks g) refl (nodes-keep g)

-- nodes after anything before them
below-keeps : (n : ℕ) (b : Bool) → next (nesting NODE) (nesting NODE) (reached_at n b) NODE ≡ some (reached_at 3 false) → (f : Forest) → Keeps NODE (reached_at n b) (node_chunks f)
unfolding order if node_chunks
below-keeps n b e no_nodes = λ head p. refl
below-keeps n b e (node d f g) = step NODE (reached_at n b) (reached_at 3 false) NODE _ (node_chunks g) e (nodes-keep g)

anim-keeps : (n : ℕ) → next (nesting NODE) (nesting NODE) (reached_at n false) ANIM ≡ some (reached_at 2 true) → next (nesting NODE) (nesting NODE) (reached_at n false) NODE ≡ some (reached_at 3 false)
    → (a : Anim) (f : Forest) → Keeps NODE (reached_at n false) (anim_chunks a (node_chunks f))
unfolding next if
anim-keeps n ea en no_anim f = below-keeps n false en f
anim-keeps n ea en (anim ws) f = step NODE (reached_at n false) (reached_at 2 true) ANIM _ (node_chunks f) ea (below-keeps 2 true refl f)

keys-keep : (ks : List Keys) (a : Anim) (f : Forest) → Keeps NODE (reached_at 2 false) (key_chunks ks (anim_chunks a (node_chunks f)))
unfolding next if
keys-keep [] a f = anim-keeps 2 refl refl a f
keys-keep (k ∷ ks) a f = step NODE (reached_at 2 false) (reached_at 2 false) KEYS _ (key_chunks ks (anim_chunks a (node_chunks f))) refl (keys-keep ks a f)

-- after no kind, and after one
fresh_keeps : (ks : List Keys) (a : Anim) (f : Forest) → Keeps NODE start (key_chunks ks (anim_chunks a (node_chunks f)))
unfolding next if
fresh_keeps [] a f = anim-keeps 0 refl refl a f
fresh_keeps (k ∷ ks) a f = step NODE start (reached_at 2 false) KEYS _ (key_chunks ks (anim_chunks a (node_chunks f))) refl (keys-keep ks a f)

kind-keeps : (ks : List Keys) (a : Anim) (f : Forest) → Keeps NODE (reached_at 1 true) (key_chunks ks (anim_chunks a (node_chunks f)))
unfolding next if
kind-keeps [] no_anim f = below-keeps 1 true refl f
kind-keeps [] (anim ws) f = step NODE (reached_at 1 true) (reached_at 2 true) ANIM _ (node_chunks f) refl (below-keeps 2 true refl f)
kind-keeps (k ∷ ks) a f = step NODE (reached_at 1 true) (reached_at 2 false) KEYS _ (key_chunks ks (anim_chunks a (node_chunks f))) refl (keys-keep ks a f)

pub node-keeps : (k : Kind) (ks : List Keys) (a : Anim) (f : Forest) → Keeps NODE start (kind_chunks k (key_chunks ks (anim_chunks a (node_chunks f))))
unfolding next if
node-keeps pivot ks a f = fresh_keeps ks a f
node-keeps (mesh m) ks a f = step NODE start (reached_at 1 true) MESH _ (key_chunks ks (anim_chunks a (node_chunks f))) refl (kind-keeps ks a f)
node-keeps (bone ws) ks a f = step NODE start (reached_at 1 true) BONE _ (key_chunks ks (anim_chunks a (node_chunks f))) refl (kind-keeps ks a f)

root-keeps : (n : ℕ) (b : Bool) → next (nesting BB3D) (nesting BB3D) (reached_at n b) NODE ≡ some (reached_at 3 true) → (f : Forest) → OneRoot f → Keeps BB3D (reached_at n b) (node_chunks f)
unfolding order if node_chunks
root-keeps n b e no_nodes o = λ head p. refl
root-keeps n b e (node d f no_nodes) o = step BB3D (reached_at n b) (reached_at 3 true) NODE _ [] e (λ head p. refl)
root-keeps n b e (node d f (node c g h)) o = absurd o

brushes-keep : (n : ℕ) (b : Bool) → next (nesting BB3D) (nesting BB3D) (reached_at n b) BRUS ≡ some (reached_at 2 true) → next (nesting BB3D) (nesting BB3D) (reached_at n b) NODE ≡ some (reached_at 3 true)
    → (slots : ℕ) (l : List Brush) (f : Forest) → OneRoot f → Keeps BB3D (reached_at n b) (brush_chunks slots l (node_chunks f))
unfolding next if
brushes-keep n b eb en slots [] f o = root-keeps n b en f o
brushes-keep n b eb en slots (x ∷ l) f o = step BB3D (reached_at n b) (reached_at 2 true) BRUS _ (node_chunks f) eb (root-keeps 2 true refl f o)

pub file-keeps : (ts : List Texture) (slots : ℕ) (l : List Brush) (f : Forest) → OneRoot f → Keeps BB3D start (texture_chunks ts (brush_chunks slots l (node_chunks f)))
unfolding next if
file-keeps [] slots l f o = brushes-keep 0 false refl refl slots l f o
file-keeps (t ∷ ts) slots l f o = step BB3D start (reached_at 1 true) TEXS _ (brush_chunks slots l (node_chunks f)) refl (brushes-keep 1 true refl refl slots l f o)

-- what was written is found inside
pub inside_back : (k : Tag) (head p : ℕ) (l : List Chunk) → Keeps k start l → length (write_chunks l) < 4294967296 → inside k head p (write_chunks l) ≡ lay p l
unfolding inside
inside_back k head p l h n = ap (λ (z : Chunks). order k head start z) (split-back code tag_of tag-code code-word l p n) ∙ h head p

-- ---- fine

end_of : (n : ℕ) (b : Bool) (head : ℕ) → Of {Tag = Tag} n (if b (stop 8 head) done)
unfolding if
end_of n true head = tt
end_of n false head = tt

onward-of : (n : ℕ) (o : Option Reached) (p : ℕ) (go : Reached → Chunks) → ((r : Reached) → Of n (go r)) → Of n (onward o p go)
unfolding onward
onward-of n none p go h = tt
onward-of n (some r) p go h = h r

pub order-of : (k : Tag) (head : ℕ) (r : Reached) (n : ℕ) (cs : Chunks) → Of n cs → Of n (order k head r cs)
unfolding order
order-of k head r n done h = end_of n (required_between (nesting k) r.turn end) head
order-of k head r n (stop i p) h = tt
order-of k head r n (chunk t p b l) h = onward-of n (next (nesting k) (nesting k) r t) p _ (λ q. (h.0, h.1, order-of k head q (n - (8 + length b)) l h.2))

pub inside-fine : (k : Tag) (head p : ℕ) (s : List ℕ) → AllBytes s → Of (length s) (inside k head p s)
unfolding inside
inside-fine k head p s h = order-of k head start (length s) (split p s) (split-fine tag_of p s h)
