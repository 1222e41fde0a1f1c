-- The laws of pieces: their bytes are those that were split; woven with mended bodies they are split again into the same chunks with those bodies.
use mathlib.Core.Path.{◌≡◌, refl, ap, ap₂, sym, ◌∙◌, subst}
use Prim.Native.Nat.{ℕ, zero, suc, ◌+◌, ◌<◌, ◌≤◌}
use native.Mathlib.Omega.{arith}
use mathlib.Core.Bool.{Bool, true, false}
use mathlib.Core.Option.{Option, none, some}
use mathlib.Core.List.{List, [], ◌∷◌, ◌++◌, append-nil}
use lib.ListN.{length, take, drop, length-append, length-take, length-drop, take-append-drop}
use lib.Seq.{take-append_seam, drop-append_seam}
use lib.Dec.{leb, eqb, leb→le, le→leb, eqb→eq}
use Rattle.wire.specs.Bytes.{word, bytes, AllBytes}
use Rattle.wire.specs.Test.{if}
use Rattle.wire.proofs.WordLaws.{word_bytes, take-bytes, drop-bytes}
use Rattle.layout.specs.Chunks.{done, stop, chunk, keep as keep_of}
use Rattle.layout.proofs.ChunkLaws.{split_step, split-none, split_unknown}
use Rattle.layout.proofs.AllLaws.{All, all_append}
use Rattle.layout.proofs.ResultLaws.{by_test, by-if, if_yes, if_no}
use Rattle.b3d_spec.specs.Nesting.{nesting, Reached, start, required_between, end, next, onward, order, inside}
use Rattle.b3d_spec.specs.Tags.{tag_of, code, Chunks, split}
use Rattle.b3d_spec.specs.declared.Tag.{Tag}
use Rattle.b3d_spec.specs.declared.Tag.TheVariants.{BB3D, TEXS, BRUS, NODE, MESH, VRTS, TRIS, BONE, KEYS, ANIM}
use Rattle.b3d_spec.proofs.Files.TagCodeLaws.{tag-code, code-word}
use Rattle.b3d_mend_spec.specs.Edits.{Edit, was, becomes, before, after}
use Rattle.b3d_mend_spec.specs.Pieces.{Pieces, none_left, spare, past, other, known, piece, pieces_in, pieces, chunks_of, wrapped, woven}
use Rattle.b3d_mend_spec.proofs.EditLaws.{before-append, after-append, Small, keep-small, follow-small, spare-small, after_less}
use Rattle.b3d_mend_spec.proofs.ExactLaws.{bytes-of}

-- ---- a tag by its letters

some_inj : {A : Type 0} {a b : A} → some a ≡ some b → a ≡ b
some_inj e = cc

none-some : {A B : Type 0} {a : A} → none ≡ some a → B
none-some e = let z : ◌≡◌ {A = ℕ} 0 1 = cc in absurd (omega arith)

one_tag : (n : ℕ) (t k : Tag) (o : Option Tag) → if (eqb n (code k)) (some k) o ≡ some t → (o ≡ some t → n ≡ code t) → n ≡ code t
one_tag n t k o e go = by-if (eqb n (code k)) (some k) o e (λ h e₁. eqb→eq n (code k) h ∙ ap code (some_inj e₁)) (λ h e₁. go e₁)

pub tag_is : (n : ℕ) (t : Tag) → tag_of n ≡ some t → n ≡ code t
unfolding tag_of
tag_is n t e =
    one_tag n t BB3D _ e (λ e₁. one_tag n t TEXS _ e₁ (λ e₂. one_tag n t BRUS _ e₂ (λ e₃. one_tag n t NODE _ e₃ (λ e₄. one_tag n t MESH _ e₄ (λ e₅.
    one_tag n t VRTS _ e₅ (λ e₆. one_tag n t TRIS _ e₆ (λ e₇. one_tag n t BONE _ e₇ (λ e₈. one_tag n t KEYS _ e₈ (λ e₉. one_tag n t ANIM _ e₉ (λ e₀. none-some e₀))))))))))

-- ---- what pieces are

unfoldable pub bytes_of : Pieces → List ℕ
bytes_of none_left = []
bytes_of (spare p s) = s
bytes_of (past p s) = s
bytes_of (other o r) = o ++ bytes_of r
bytes_of (known t p b r) = bytes (code t) (bytes (length b) (b ++ bytes_of r))

-- bytes that the splitter passes over
pub record Passed (o : List ℕ) : Type 0 where
  pub passed : (q : ℕ) (z : List ℕ) → split q (o ++ z) ≡ split (q + length o) z

abbrev pub Whole : Pieces → Type 0
Whole none_left = Unit {0}
Whole (spare p s) = (1 ≤ length s) × (length s ≤ 7)
Whole (past p s) = Unit {0}
Whole (other o r) = Passed o × Whole r
Whole (known t p b r) = AllBytes b × Whole r

module _ (a b c d e g h i : ℕ) (ha : a < 256) (hb : b < 256) (hc : c < 256) (hd : d < 256) (he : e < 256) (hg : g < 256) (hh : h < 256) (hi : i < 256) where
  other-passed : (s : List ℕ) → length s ≡ word e g h i → tag_of (word a b c d) ≡ none → Passed (a ∷ b ∷ c ∷ d ∷ e ∷ g ∷ h ∷ i ∷ s)
  other-passed s n o = record {
    passed = λ q z.
        let k : word e g h i ≤ length (s ++ z) = omega (arith, length-append s z) in
        let m : q + 8 + length s ≡ q + suc (suc (suc (suc (suc (suc (suc (suc (length s)))))))) = omega arith in
        split_unknown tag_of q a b c d e g h i (s ++ z) k o
        ∙ ap₂ (λ (u : ℕ) (l : List ℕ). split (q + 8 + u) l) (sym n) (ap (λ (u : ℕ). drop u (s ++ z)) (sym n) ∙ drop-append_seam s z)
        ∙ ap (λ (u : ℕ). split u z) m;
  }

  head_bytes : (t : Tag) (s r : List ℕ) → length s ≡ word e g h i → word a b c d ≡ code t → bytes (code t) (bytes (length s) (s ++ r)) ≡ a ∷ b ∷ c ∷ d ∷ e ∷ g ∷ h ∷ i ∷ (s ++ r)
  head_bytes t s r n w =
      ap₂ (λ (u v : ℕ). bytes u (bytes v (s ++ r))) (sym w) n
      ∙ bytes-of a b c d (bytes (word e g h i) (s ++ r)) ha hb hc hd
      ∙ ap (λ (l : List ℕ). a ∷ b ∷ c ∷ d ∷ l) (bytes-of e g h i (s ++ r) he hg hh hi)

  piece-whole : (p : ℕ) (o : Option Tag) (s : List ℕ) (r : Pieces) → tag_of (word a b c d) ≡ o → length s ≡ word e g h i → AllBytes s → Whole r
      → Whole (piece o p (a ∷ b ∷ c ∷ d ∷ e ∷ g ∷ h ∷ i ∷ []) s r) × (bytes_of (piece o p (a ∷ b ∷ c ∷ d ∷ e ∷ g ∷ h ∷ i ∷ []) s r) ≡ a ∷ b ∷ c ∷ d ∷ e ∷ g ∷ h ∷ i ∷ (s ++ bytes_of r))
  unfolding piece bytes_of
  piece-whole p none s r o n hs hr = ((other-passed s n o, hr), refl)
  piece-whole p (some t) s r o n hs hr = ((hs, hr), head_bytes t s (bytes_of r) n (tag_is (word a b c d) t o))

in_whole : (f p : ℕ) (s : List ℕ) → length s ≤ f → AllBytes s → Whole (pieces_in f p s) × (bytes_of (pieces_in f p s) ≡ s)
unfolding pieces_in bytes_of
in_whole zero p [] n h = (tt, refl)
in_whole zero p (c ∷ s) n h = absurd (omega arith)
in_whole (suc f) p [] n h = (tt, refl)
in_whole (suc f) p (a ∷ []) n h = ((omega arith, omega arith), refl)
in_whole (suc f) p (a ∷ b ∷ []) n h = ((omega arith, omega arith), refl)
in_whole (suc f) p (a ∷ b ∷ c ∷ []) n h = ((omega arith, omega arith), refl)
in_whole (suc f) p (a ∷ b ∷ c ∷ d ∷ []) n h = ((omega arith, omega arith), refl)
in_whole (suc f) p (a ∷ b ∷ c ∷ d ∷ e ∷ []) n h = ((omega arith, omega arith), refl)
in_whole (suc f) p (a ∷ b ∷ c ∷ d ∷ e ∷ g ∷ []) n h = ((omega arith, omega arith), refl)
in_whole (suc f) p (a ∷ b ∷ c ∷ d ∷ e ∷ g ∷ j ∷ []) n h = ((omega arith, omega arith), refl)
in_whole (suc f) p (a ∷ b ∷ c ∷ d ∷ e ∷ g ∷ j ∷ i ∷ s) n h =
    let m = word e g j i in
    let o = tag_of (word a b c d) in
    let hd = a ∷ b ∷ c ∷ d ∷ e ∷ g ∷ j ∷ i ∷ [] in
    let r = pieces_in f (p + 8 + m) (drop m s) in
    let hs : AllBytes s = h.1.1.1.1.1.1.1.1 in
    let Q : Pieces → Type 0 = (λ P. Whole P × (bytes_of P ≡ a ∷ b ∷ c ∷ d ∷ e ∷ g ∷ j ∷ i ∷ s)) in
    by_test (leb m (length s))
    (λ t. let le : m ≤ length s = leb→le m (length s) t in
    let ih = in_whole f (p + 8 + m) (drop m s) (omega (arith, length-drop m s)) (drop-bytes m s hs) in
    let x = piece-whole a b c d e g j i h.0 h.1.0 h.1.1.0 h.1.1.1.0 h.1.1.1.1.0 h.1.1.1.1.1.0 h.1.1.1.1.1.1.0 h.1.1.1.1.1.1.1.0
    p o (take m s) r refl (omega (arith, length-take m s)) (take-bytes m s hs) ih.0 in
    subst Q (sym (if_yes (leb m (length s)) (piece o p hd (take m s) r) (past p (a ∷ b ∷ c ∷ d ∷ e ∷ g ∷ j ∷ i ∷ s)) t))
    (x.0, x.1 ∙ ap (λ (l : List ℕ). a ∷ b ∷ c ∷ d ∷ e ∷ g ∷ j ∷ i ∷ l) (ap (λ (l : List ℕ). take m s ++ l) ih.1 ∙ take-append-drop m s)))
    (λ t. subst Q (sym (if_no (leb m (length s)) (piece o p hd (take m s) r) (past p (a ∷ b ∷ c ∷ d ∷ e ∷ g ∷ j ∷ i ∷ s)) t)) (tt, refl))

pub pieces_whole : (p : ℕ) (s : List ℕ) → AllBytes s → Whole (pieces p s) × (bytes_of (pieces p s) ≡ s)
unfolding pieces
pieces_whole p s h = in_whole (length s) p s (omega arith) h

-- ---- chunks with other bodies

-- a body of bytes that a length can tell
abbrev pub Fine : List ℕ → Type 0
Fine b = AllBytes b × (length b < 4294967296)

abbrev pub FineC : Chunks → Type 0
FineC done = Unit {0}
FineC (stop n p) = Unit {0}
FineC (chunk t p b r) = Fine b × FineC r

pub pieces-fine : (P : Pieces) → Whole P → length (bytes_of P) < 4294967296 → FineC (chunks_of P)
unfolding chunks_of bytes_of
pieces-fine none_left w n = tt
pieces-fine (spare p s) w n = tt
pieces-fine (past p s) w n = tt
pieces-fine (other o r) w n = pieces-fine r w.1 (omega (arith, length-append o (bytes_of r)))
pieces-fine (known t p b r) w n = let k = length-append b (bytes_of r) in ((w.0, omega arith), pieces-fine r w.1 (omega arith))

-- every chunk has its mended body, and no refusal stands among them
abbrev pub Fill : Chunks → List (List Edit) → Type 0
Fill done [] = Unit {0}
Fill done (x ∷ xs) = ⊥
Fill (stop n p) xs = ⊥
Fill (chunk t p b r) [] = ⊥
Fill (chunk t p b r) (x ∷ xs) = (before x ≡ b) × All Small x × Fill r xs

-- the same chunks with their mended bodies, at places of which we say nothing
abbrev pub swap : Chunks → List (List Edit) → (ℕ → ℕ) → Chunks
swap done xs place = done
swap (stop n p) xs place = stop n p
swap (chunk t p b r) [] place = done
swap (chunk t p b r) (x ∷ xs) place = chunk t (place 0) (after x) (swap r xs (λ i. place (suc i)))

-- this place first
abbrev first : ℕ → (ℕ → ℕ) → ℕ → ℕ
first q f zero = q
first q f (suc i) = f i

split-chunk : (q : ℕ) (t : Tag) (b r : List ℕ) → length b < 4294967296 → split q (bytes (code t) (bytes (length b) (b ++ r))) ≡ chunk t q b (split (q + 8 + length b) r)
unfolding keep_of
split-chunk q t b r hb =
    let k : length b ≤ length (b ++ r) = omega (arith, length-append b r) in
    rw (split_step tag_of, word_bytes (code t) (code-word t), word_bytes (length b) hb, tag-code t, take-append_seam b r, drop-append_seam b r)
    (if_yes _ _ _ (le→leb _ _ k))

wrapped-after : (t : Tag) (n : ℕ) (x y : List Edit) → after (wrapped t n x ++ y) ≡ bytes (code t) (bytes (length (after x)) (after x ++ after y))
unfolding wrapped after becomes
wrapped-after t n x y = ap (λ (l : List ℕ). bytes (code t) (bytes (length (after x)) l)) (after-append x y)

wrapped-before : (t : Tag) (n : ℕ) (x y : List Edit) → before (wrapped t n x ++ y) ≡ bytes (code t) (bytes n (before x ++ before y))
unfolding wrapped before was
wrapped-before t n x y = ap (λ (l : List ℕ). bytes (code t) (bytes n l)) (before-append x y)

wrapped-small : (t : Tag) (n : ℕ) (x : List Edit) → All Small x → All Small (wrapped t n x)
unfolding wrapped
wrapped-small t n x h = (keep-small _, (follow-small _ _, h))

-- all that stands in the given bytes
pub woven-before : (P : Pieces) (xs : List (List Edit)) → Fill (chunks_of P) xs → before (woven P xs) ≡ bytes_of P
unfolding chunks_of woven bytes_of before was
woven-before none_left xs h = refl
woven-before (spare p s) xs h = append-nil s
woven-before (past p s) xs h = absurd h
woven-before (other o r) xs h = ap (λ (l : List ℕ). o ++ l) (woven-before r xs h)
woven-before (known t p b r) [] h = absurd h
woven-before (known t p b r) (x ∷ xs) h =
    wrapped-before t (length b) x (woven r xs) ∙ ap₂ (λ (u v : List ℕ). bytes (code t) (bytes (length b) (u ++ v))) h.0 (woven-before r xs h.2)

pub woven-small : (P : Pieces) (xs : List (List Edit)) → Whole P → Fill (chunks_of P) xs → All Small (woven P xs)
unfolding chunks_of woven
woven-small none_left xs w h = tt
woven-small (spare p s) xs w h = (spare-small s w.0 w.1, tt)
woven-small (past p s) xs w h = absurd h
woven-small (other o r) xs w h = (keep-small o, woven-small r xs w.1 h)
woven-small (known t p b r) [] w h = absurd h
woven-small (known t p b r) (x ∷ xs) w h = all_append Small (wrapped t (length b) x) (woven r xs) (wrapped-small t (length b) x h.1) (woven-small r xs w.1 h.2)

-- the mended bytes are split into the same chunks, with their mended bodies
pub woven-split : (P : Pieces) (xs : List (List Edit)) → Whole P → FineC (chunks_of P) → Fill (chunks_of P) xs → (q : ℕ)
    → (place : ℕ → ℕ) × (split q (after (woven P xs)) ≡ swap (chunks_of P) xs place)
unfolding chunks_of woven after becomes
woven-split none_left xs w f h q = ((λ i. i), split-none tag_of q)
woven-split (spare p s) xs w f h q = ((λ i. i), split-none tag_of q)
woven-split (past p s) xs w f h q = absurd h
woven-split (other o r) xs w f h q =
    let x = woven-split r xs w.1 f h (q + length o) in
    (x.0, w.0.passed q (after (woven r xs)) ∙ x.1)
woven-split (known t p b r) [] w f h q = absurd h
woven-split (known t p b r) (x ∷ xs) w f h q =
    let y = woven-split r xs w.1 f.1 h.2 (q + 8 + length (after x)) in
    let n : length (after x) < 4294967296 = omega (arith, after_less x h.1, ap (λ (l : List ℕ). length l) h.0, f.0.1) in (
      first q y.0,
      ap (split q) (wrapped-after t (length b) x (woven r xs)) ∙ split-chunk q t (after x) (after (woven r xs)) n ∙ ap (λ (z : Chunks). chunk t q (after x) z) y.1,
    )

-- ---- the nesting rule

-- chunks that keep the rule keep it with other bodies
pub record Kept (k : Tag) (head : ℕ) (r : Reached) (cs : Chunks) (xs : List (List Edit)) : Type 0 where
  pub same : order k head r cs ≡ cs
  pub fill : Fill cs xs
  pub swapped : (h : ℕ) (place : ℕ → ℕ) → order k h r (swap cs xs place) ≡ swap cs xs place

abbrev Next : Tag → Reached → Tag → Option Reached
Next k r t = next (nesting k) (nesting k) r t

one_kept : (k : Tag) (head : ℕ) (r : Reached) (t : Tag) (p : ℕ) (b : List ℕ) (l : Chunks) (xs : List (List Edit)) (o : Option Reached) → Next k r t ≡ o
    → ((q : Reached) (ys : List (List Edit)) → Fill (order k head q l) ys → Kept k head q l ys)
    → Fill (onward o p (λ q. chunk t p b (order k head q l))) xs → Kept k head r (chunk t p b l) xs
unfolding onward order
one_kept k head r t p b l xs none e go h = absurd h
one_kept k head r t p b l [] (some q) e go h = absurd h
one_kept k head r t p b l (x ∷ xs) (some q) e go h =
    let g = go q xs h.2 in
    record {
      same = rw (e, g.same);
      fill = (h.0, h.1, g.fill);
      swapped = λ hd place. rw (e, g.swapped hd (λ i. place (suc i)));
    }

done-kept : (k : Tag) (head : ℕ) (r : Reached) (xs : List (List Edit)) (b : Bool) → required_between (nesting k) r.turn end ≡ b → Fill (if b (stop 8 head) done) xs → Kept k head r done xs
unfolding if order
done-kept k head r xs true e h = absurd h
done-kept k head r [] false e h = record { same = rw e; fill = tt; swapped = λ hd place. rw e }
done-kept k head r (x ∷ xs) false e h = absurd h

pub order-kept : (k : Tag) (head : ℕ) (r : Reached) (cs : Chunks) (xs : List (List Edit)) → Fill (order k head r cs) xs → Kept k head r cs xs
unfolding order
order-kept k head r done xs h = done-kept k head r xs (required_between (nesting k) r.turn end) refl h
order-kept k head r (stop n p) xs h = absurd h
order-kept k head r (chunk t p b l) xs h = one_kept k head r t p b l xs (Next k r t) refl (λ q ys. order-kept k head q l ys) h

-- chunks that are fine stay so under the rule
if-fine : (b : Bool) (h : ℕ) → FineC (if b (stop 8 h) done)
unfolding if
if-fine true h = tt
if-fine false h = tt

onward-fine : (o : Option Reached) (p : ℕ) (go : Reached → Chunks) → ((q : Reached) → FineC (go q)) → FineC (onward o p go)
unfolding onward
onward-fine none p go h = tt
onward-fine (some q) p go h = h q

pub order-fine : (k : Tag) (head : ℕ) (r : Reached) (cs : Chunks) → FineC cs → FineC (order k head r cs)
unfolding order
order-fine k head r done h = if-fine (required_between (nesting k) r.turn end) head
order-fine k head r (stop n p) h = tt
order-fine k head r (chunk t p b l) h = onward-fine (Next k r t) p (λ q. chunk t p b (order k head q l)) (λ q. (h.0, order-fine k head q l h.1))

-- ---- inside a chunk

-- the chunks inside a chunk of tag k, spare bytes left out
abbrev pub within : Tag → ℕ → ℕ → List ℕ → Chunks
within k head p s = order k head start (chunks_of (pieces p s))

pub within-fine : (k : Tag) (head p : ℕ) (s : List ℕ) → Fine s → FineC (within k head p s)
within-fine k head p s f =
    let w = pieces_whole p s f.0 in
    order-fine k head start (chunks_of (pieces p s)) (pieces-fine (pieces p s) w.0 (omega (arith, f.1, ap (λ (l : List ℕ). length l) w.1)))

-- what is inside a chunk of tag k, of bytes s at p, with mended bodies
pub record Held (k : Tag) (head p : ℕ) (s : List ℕ) (xs : List (List Edit)) : Type 0 where
  pub given : before (woven (pieces p s) xs) ≡ s
  pub small : All Small (woven (pieces p s) xs)
  pub again : (h q : ℕ) → (place : ℕ → ℕ) × (inside k h q (after (woven (pieces p s) xs)) ≡ swap (within k head p s) xs place)

pub held : (k : Tag) (head p : ℕ) (s : List ℕ) (xs : List (List Edit)) → Fine s → Fill (within k head p s) xs → Held k head p s xs
unfolding inside
held k head p s xs f h =
    let w = pieces_whole p s f.0 in
    let c = pieces-fine (pieces p s) w.0 (omega (arith, f.1, ap (λ (l : List ℕ). length l) w.1)) in
    let g = order-kept k head start (chunks_of (pieces p s)) xs h in
    record {
      given = woven-before (pieces p s) xs g.fill ∙ w.1;
      small = woven-small (pieces p s) xs w.0 g.fill;
      again = λ hd q.
          let y = woven-split (pieces p s) xs w.0 c g.fill q in
          (y.0, ap (order k hd start) y.1 ∙ g.swapped hd y.0 ∙ ap (λ (z : Chunks). swap z xs y.0) (sym g.same));
    }
