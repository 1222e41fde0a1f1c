-- The chunks of a stretch and of the same without some of what is private.
use mathlib.Core.Path.{◌≡◌, ap, ◌∙◌, subst}
use Prim.Native.Nat.{ℕ, zero, suc, ◌+◌, ◌≤◌, ◌<◌}
use native.Mathlib.Omega.{arith}
use mathlib.Core.Bool.{Bool, true, false}
use mathlib.Core.Option.{Option, none, some}
use mathlib.Core.List.{List, [], ◌∷◌, ◌++◌}
use lib.ListN.{length, take, drop, length-append, length-take, length-drop}
use lib.Seq.{drop-append_seam}
use lib.Dec.{leb}
use Rattle.wire.specs.Bytes.{word, bytes, IsWord}
use Rattle.wire.specs.Test.{if}
use Rattle.wire.proofs.WordLaws.{word_bytes}
use Rattle.layout.specs.Chunks.{done, stop, chunk as chunk_of, keep, split_in, split as split_of}
use Rattle.layout.proofs.ChunkLaws.{split-chunk, split_unknown}
use Rattle.layout.proofs.PartLaws.{length-text}
use Rattle.b3d_spec.specs.declared.Tag.{Tag}
use Rattle.b3d_spec.specs.declared.Tag.TheVariants.{BB3D, TEXS, BRUS, NODE, KEYS, ANIM}
use Rattle.b3d_spec.specs.Tags.{code, tag_of, Chunks, split, write_chunk}
use Rattle.b3d_spec.proofs.Files.TagCodeLaws.{tag-code, code-word}
use Rattle.b3d_spec_demands.specs.Private.{FileStretch, body_of, chunks_in, Unknown, passed_over, Without, same, chunk, passed, later, passed-behind, no_texture, no-brush, file, mesh, node, textures, brushes, item}

-- it is no longer
pub no_longer : {x : FileStretch} {s v : List ℕ} → Without x s v → length v ≤ length s
no_longer same = omega arith
no_longer (chunk {b = b} {c = c} {r = r} {q = q} x y) = omega (arith, no_longer x, no_longer y, length-append b r, length-append c q)
no_longer (passed {r = r} n b u y) = omega (arith, no_longer y, length-append b r)
no_longer (later {q = q} a b r y) = omega (arith, no_longer y, length-append a r, length-append b r, length-append b q, length-append a (write_chunk KEYS b r))
no_longer (passed-behind a r n b u y) = omega (arith, no_longer y, length-append a r, length-append b r, length-append a (passed_over n b r))
no_longer (no_texture y) = omega (arith, no_longer y)
no_longer (no-brush n w y) = omega (arith, no_longer y)
no_longer (file {r = r} {q = q} w l y) = omega (arith, no_longer y, length-append w r, length-append w q)
no_longer (mesh {r = r} {q = q} w l y) = omega (arith, no_longer y, length-append w r, length-append w q)
no_longer (node {r = r} {q = q} n m w hn hm le l y) = omega (arith, no_longer y, length-append w r, length-append w q, length-text n (w ++ r), length-text m (w ++ q))
no_longer (textures y) = no_longer y
no_longer (brushes z w y) = omega (arith, no_longer y)
no_longer (item {r = r} {q = q} n m w hn hm le l y) = omega (arith, no_longer y, length-append w r, length-append w q, length-text n (w ++ r), length-text m (w ++ q))

-- a stretch whose length four bytes can say
abbrev pub Short : List ℕ → Type 0
Short s = length s < 4294967296

-- ---- split

pub data Rel : Tag → Chunks → Chunks → Type 0 where
  ends : {k : Tag} → Rel k done done
  stops : {k : Tag} {n p : ℕ} {ds : Chunks} → Rel k (stop n p) ds
  one : {k t : Tag} {p p' : ℕ} {b c : List ℕ} {r q : Chunks} → Without (body_of t) b c → Short b → Rel k r q → Rel k (chunk_of t p b r) (chunk_of t p' c q)
  after : {p p' q : ℕ} {a b : List ℕ} {r ds : Chunks} → Rel NODE (chunk_of ANIM p a r) ds → Rel NODE (chunk_of ANIM p a (chunk_of KEYS p' b r)) (chunk_of KEYS q b ds)
  texs : {p : ℕ} {r q : Chunks} → Rel BB3D r q → Rel BB3D (chunk_of TEXS p [] r) q
  brus : {p : ℕ} {r q : Chunks} (n : ℕ) → IsWord n → Rel BB3D r q → Rel BB3D (chunk_of BRUS p (bytes n []) r) q

-- the ANIM at another place
moved : {p : ℕ} {a : List ℕ} {r ds : Chunks} (i : ℕ) → Rel NODE (chunk_of ANIM p a r) ds → Rel NODE (chunk_of ANIM i a r) ds
moved i (one x h y) = one x h y
moved i (after y) = after (moved i y)

keep_twice : (k : Tag) (o : Option Tag) (p q : ℕ) (b : List ℕ) (r s : Chunks) → Short b → Rel k r s → Rel k (keep o p b r) (keep o q b s)
unfolding keep
keep_twice k none p q b r s h x = x
keep_twice k (some t) p q b r s h x = one same h x

if_twice : (k : Tag) (b : Bool) (p q : ℕ) (r s : Chunks) → Rel k r s → Rel k (if b r (stop 3 p)) (if b s (stop 3 q))
unfolding if
if_twice k true p q r s x = x
if_twice k false p q r s x = stops

in_twice : (k : Tag) (f p q : ℕ) (s : List ℕ) → Short s → Rel k (split_in tag_of f p s) (split_in tag_of f q s)
unfolding split_in
in_twice k zero p q s h = ends
in_twice k (suc f) p q [] h = ends
in_twice k (suc f) p q (a ∷ []) h = stops
in_twice k (suc f) p q (a ∷ b ∷ []) h = stops
in_twice k (suc f) p q (a ∷ b ∷ c ∷ []) h = stops
in_twice k (suc f) p q (a ∷ b ∷ c ∷ d ∷ []) h = stops
in_twice k (suc f) p q (a ∷ b ∷ c ∷ d ∷ e ∷ []) h = stops
in_twice k (suc f) p q (a ∷ b ∷ c ∷ d ∷ e ∷ g ∷ []) h = stops
in_twice k (suc f) p q (a ∷ b ∷ c ∷ d ∷ e ∷ g ∷ j ∷ []) h = stops
in_twice k (suc f) p q (a ∷ b ∷ c ∷ d ∷ e ∷ g ∷ j ∷ i ∷ s) h =
    let n = word e g j i in
    if_twice k (leb n (length s)) p q _ _
    (keep_twice k (tag_of (word a b c d)) p q (take n s) _ _ (omega (arith, length-take n s))
    (in_twice k f (p + 8 + n) (q + 8 + n) (drop n s) (omega (arith, length-drop n s))))

split_twice : (k : Tag) (p q : ℕ) (s : List ℕ) → Short s → Rel k (split p s) (split q s)
unfolding split_of
split_twice k p q s h = in_twice k (length s) p q s h

split-written : (p : ℕ) (t : Tag) (b r : List ℕ) → Short b → split p (write_chunk t b r) ≡ chunk_of t p b (split (p + 8 + length b) r)
split-written p t b r h = split-chunk code tag_of tag-code code-word p t b r h

split-passed : (p n : ℕ) (b r : List ℕ) → Unknown n → Short b → split p (passed_over n b r) ≡ split (p + 8 + length b) r
split-passed p n b r u h =
    let e = word_bytes n u.0 in
    let l = word_bytes (length b) h in
    let k = length-append b r in
    split_unknown tag_of p _ _ _ _ _ _ _ _ (b ++ r) (omega arith) (ap tag_of e ∙ u.1) ∙ rw (l, drop-append_seam b r)

pub split-rel : {k : Tag} {s v : List ℕ} → Without (chunks_in k) s v → (p q : ℕ) → Short s → Rel k (split p s) (split q v)
split-rel {k} {s} same p q hs = split_twice k p q s hs
split-rel (chunk {t = t} {b = b} {c = c} {r = r} {q = z} x y) p q hs =
    let i = length-append b r in
    rw (split-written p t b r (omega arith), split-written q t c z (omega (arith, no_longer x))) (one x (omega arith) (split-rel y (p + 8 + length b) (q + 8 + length c) (omega arith)))
split-rel (passed {r = r} n b u y) p q hs =
    let i = length-append b r in
    rw (split-passed p n b r u (omega arith)) (split-rel y (p + 8 + length b) q (omega arith))
split-rel (later {q = z} a b r y) p q hs =
    let i = length-append a (write_chunk KEYS b r) in
    let i' = length-append b r in
    let i'' = length-append a r in
    let e : p + 8 + length b + 8 + length a ≡ p + 8 + length a + 8 + length b = omega arith in
    let m : Rel NODE (chunk_of ANIM (p + 8 + length b) a (split (p + 8 + length a + 8 + length b) r)) (split (q + 8 + length b) z) =
    subst (λ (n : ℕ). Rel NODE (chunk_of ANIM (p + 8 + length b) a (split n r)) (split (q + 8 + length b) z)) e
    (subst (λ (c : Chunks). Rel NODE c (split (q + 8 + length b) z)) (split-written (p + 8 + length b) ANIM a r (omega arith)) (split-rel y (p + 8 + length b) (q + 8 + length b) (omega arith))) in
    rw (split-written p ANIM a (write_chunk KEYS b r) (omega arith), split-written (p + 8 + length a) KEYS b r (omega arith), split-written q KEYS b z (omega arith)) (after (moved p m))
split-rel (passed-behind {q = z} a r n b u y) p q hs =
    let i = length-append a (passed_over n b r) in
    let i' = length-append b r in
    let i'' = length-append a r in
    let e : p + 8 + length b + 8 + length a ≡ p + 8 + length a + 8 + length b = omega arith in
    let m : Rel NODE (chunk_of ANIM (p + 8 + length b) a (split (p + 8 + length a + 8 + length b) r)) (split q z) =
    subst (λ (w : ℕ). Rel NODE (chunk_of ANIM (p + 8 + length b) a (split w r)) (split q z)) e
    (subst (λ (c : Chunks). Rel NODE c (split q z)) (split-written (p + 8 + length b) ANIM a r (omega arith)) (split-rel y (p + 8 + length b) q (omega arith))) in
    rw (split-written p ANIM a (passed_over n b r) (omega arith), split-passed (p + 8 + length a) n b r u (omega arith)) (moved p m)
split-rel (no_texture {r = r} y) p q hs = rw (split-written p TEXS [] r (omega arith)) (texs (split-rel y _ q (omega arith)))
split-rel (no-brush {r = r} n w y) p q hs = rw (split-written p BRUS (bytes n []) r (omega arith)) (brus n w (split-rel y _ q (omega arith)))
