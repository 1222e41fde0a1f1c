-- Brushes and the whole file: the mending read beside what is counted of it.
use mathlib.Core.Path.{◌≡◌, refl, sym, ap, ap₂, subst}
use Prim.Native.Nat.{ℕ, zero, suc, ◌+◌}
use native.Mathlib.Omega.{arith}
use mathlib.Core.Bool.{Bool, true, false, ◌||◌}
use mathlib.Core.Option.{Option, none, some}
use mathlib.Core.List.{List, [], ◌∷◌, ◌++◌}
use lib.ListN.{length, replicate, length-append, length-replicate}
use lib.Dec.{ltb, eqb}
use borrow.Author.Tests.{lt-ltb}
use Rattle.wire.specs.Bytes.{bytes, AllBytes, IsWord}
use Rattle.wire.specs.Test.{if}
use Rattle.layout.specs.Chunks.{done, stop, chunk, ended}
use Rattle.layout.specs.Lists.{All}
use Rattle.layout.specs.Result.{Result, accept, reject, check, ◌>>=◌}
use Rattle.layout.specs.Parts.{Name, Step, text, words, row, judged, number, named, items_in, items}
use Rattle.layout.specs.Rules.{Rule, any, up_to, exactly, names, names_or_none, unit, NONE, holds}
use Rattle.layout.proofs.ResultLaws.{by_got}
use Rattle.layout.proofs.StepLaws.{judged_got}
use Rattle.b3d_spec.specs.declared.Mode.TheVariants.{Lenient}
use Rattle.b3d_spec.specs.declared.Tag.{Tag}
use Rattle.b3d_spec.specs.declared.Tag.TheVariants.{BB3D, TEXS, BRUS, NODE}
use Rattle.b3d_spec.specs.Nesting.{Reached, nesting, start, required_between, end, next, onward, order}
use Rattle.b3d_spec.specs.Parse.{read_one, read_textures, read_brush, read_brushes, slots_of}
use Rattle.b3d_spec.specs.Rules.{brush_row, brush_ids, brushes_head, file_head}
use Rattle.b3d_spec.specs.Scene.{Texture, Brush, Forest, no_nodes, Scene}
use Rattle.b3d_spec.specs.Tags.{is, Chunks, Found}
use Rattle.b3d_judge_tally.specs.Tally.{plus, bytes_tally, texs_tally, brus_of, brus_tally, forest_tally, scene_tally}
use Rattle.b3d_judge_tally.specs.declared.Tally.{Tally}
use Rattle.b3d_mend_spec.specs.Edits.{Edit, keep}
use Rattle.b3d_mend_spec.specs.Mend.{Mended, mend_named, gathered, mend_items, one_brush, mend_brush, mend_brushes, as_read, Taken, found, mend_one, mend_root, scene_of, mend_body}
use Rattle.b3d_mend_spec.specs.Pieces.{Pieces, none_left, spare, past, other, known, pieces, chunks_of}
use Rattle.b3d_mend_spec.proofs.PartLaws.{words-read, text-read}
use Rattle.b3d_mend_spec.proofs.PieceLaws.{Whole, pieces_whole}
use Rattle.b3d_mend_judge_items.specs.Lax.{every, lax_inside, lax_root, lax_body}
use Rattle.b3d_mend_judge_items.proofs.AlikeLaws.{Alike, alike_bind, alike-after, alike-if}
use Rattle.b3d_mend_judge_items.proofs.LaxPartLaws.{Mild, mild_words, read_alike}
use Rattle.b3d_mend_judge_items.proofs.LaxNodeLaws.{root_alike}

-- ---- rules that every number keeps

abbrev Taking : Rule → Type 0
Taking any = Unit {0}
Taking (up_to m) = ⊥
Taking (exactly m) = ⊥
Taking (names n) = ⊥
Taking (names_or_none n) = n ≡ every
Taking unit = ⊥

taken : (r : Rule) (w : ℕ) → Taking r → IsWord w → holds r w ≡ true
taken any w t h = refl
taken (up_to m) w t h = absurd t
taken (exactly m) w t h = absurd t
taken (names n) w t h = absurd t
taken (names_or_none n) w t h = rw t (go (eqb w NONE) (lt-ltb w every h))
  where
    go : (b : Bool) → ltb w every ≡ true → (b || ltb w every) ≡ true
    go true e = refl
    go false e = e
taken unit w t h = absurd t

taking : {A : Type 0} (rs : List Rule) (p : ℕ) (ws : List ℕ) (a : A) → All Taking rs → All IsWord ws → judged rs p ws a ≡ accept a
unfolding judged check
taking [] p ws a t h = refl
taking (r ∷ rs) p [] a t h = refl
taking (r ∷ rs) p (w ∷ ws) a t h = rw (taken r w t.0 h.0) (taking rs (p + 4) ws a t.1 h.1)

all_append : {A : Type 0} (P : A → Type 0) (l m : List A) → All P l → All P m → All P (l ++ m)
all_append P [] m h k = k
all_append P (a ∷ l) m h k = (h.0, all_append P l m h.1 k)

all-times : {A : Type 0} (P : A → Type 0) (n : ℕ) (a : A) → P a → All P (replicate n a)
all-times P zero a h = tt
all-times P (suc n) a h = (h, all-times P n a h)

brush_taking : (slots : ℕ) → All Taking (brush_row Lenient ++ brush_ids slots every)
brush_taking slots = all_append Taking (brush_row Lenient) (brush_ids slots every) (tt, (tt, (tt, (tt, (tt, (tt, (tt, tt))))))) (all-times Taking slots (names_or_none every) refl)

brush_mild : (slots textures : ℕ) → All Mild (brush_row Lenient ++ brush_ids slots textures)
brush_mild slots textures = all_append Mild (brush_row Lenient) (brush_ids slots textures) (tt, (tt, (tt, (tt, (tt, (tt, (tt, tt))))))) (all-times Mild slots (names_or_none textures) tt)

brush-long : (slots textures : ℕ) → length (brush_row Lenient ++ brush_ids slots textures) ≡ 7 + slots
brush-long slots textures = simp (length-append, length-replicate) (omega arith)

-- ---- a name and words

record SameNamed (x : Step (Name × List ℕ)) (y : Step (Mended (Name × List ℕ))) : Type 0 where
  place : x.place ≡ y.place
  left : x.left ≡ y.left
  bytes : AllBytes y.left

named-alike : (rs rs' : List Rule) (k : ℕ) → length rs ≡ k → length rs' ≡ k → All Taking rs → All Mild rs' → (p : ℕ) (s : List ℕ) → AllBytes s
    → Alike SameNamed (named rs p s) (mend_named rs' p s)
unfolding named mend_named
named-alike rs rs' k e e' t m p s h =
    alike-after SameNamed (text p p s) _ _ (λ n en.
    rw (e, e') (alike-after SameNamed (words p k n.place n.left) _ _ (λ x ex.
    let b = text-read p p s n h en in
    let r = words-read p k n.place n.left x b.bytes ex in
    let v = mild_words rs' m n.place x.value in
    rw (taking {A = Step (Name × List ℕ)} rs n.place x.value (record { value = (record { place = p; bytes = n.value }, x.value); place = x.place; left = x.left }) t r.all, v.1)
    (record { place = refl; left = refl; bytes = r.bytes }))))

-- ---- brushes

record SameBrush (x : Step Brush) (y : Step (Mended (List Brush))) : Type 0 where
  one : length y.value.value ≡ 1
  place : x.place ≡ y.place
  left : x.left ≡ y.left
  bytes : AllBytes y.left

brush-alike : (slots textures p : ℕ) (s : List ℕ) → AllBytes s → Alike SameBrush (read_brush Lenient slots every p s) (mend_brush slots textures p s)
unfolding read_brush mend_brush one_brush
brush-alike slots textures p s h =
    alike_bind SameNamed SameBrush (named (brush_row Lenient ++ brush_ids slots every) p s) (mend_named (brush_row Lenient ++ brush_ids slots textures) p s) _ _
    (named-alike (brush_row Lenient ++ brush_ids slots every) (brush_row Lenient ++ brush_ids slots textures) (7 + slots) (brush-long slots every) (brush-long slots textures) (brush_taking slots) (brush_mild slots textures) p s h)
    (λ x y e. record { one = refl; place = e.place; left = e.left; bytes = e.bytes })

abbrev SameMany : List Brush → List (Mended (List Brush)) → Type 0
SameMany l m = length l ≡ length (gathered m).value

brushes-in : (slots textures f p : ℕ) (s : List ℕ) → AllBytes s → Alike SameMany (items_in f (read_brush Lenient slots every) p s) (items_in f (mend_brush slots textures) p s)
unfolding items_in gathered
brushes-in slots textures zero p [] h = refl
brushes-in slots textures zero p (c ∷ s) h = (refl, refl)
brushes-in slots textures (suc f) p [] h = refl
brushes-in slots textures (suc f) p (c ∷ s) h =
    alike_bind SameBrush SameMany (read_brush Lenient slots every p (c ∷ s)) (mend_brush slots textures p (c ∷ s)) _ _ (brush-alike slots textures p (c ∷ s) h) (λ x y e.
    alike_bind SameMany SameMany (items_in f (read_brush Lenient slots every) x.place x.left) (items_in f (mend_brush slots textures) y.place y.left) _ _
    (rw (e.place, e.left) (brushes-in slots textures f y.place y.left e.bytes))
    (λ l m g. omega (arith, length-append y.value.value (gathered m).value, e.one)))

row-bytes : (rs : List Rule) (p : ℕ) (s : List ℕ) (x : Step (List ℕ)) → AllBytes s → row rs p s ≡ accept x → AllBytes x.left
unfolding row
row-bytes rs p s x h e = by_got (words p (length rs) p s) _ e (λ y ey e₁. subst (λ (z : Step (List ℕ)). AllBytes z.left) (judged_got rs p y.value y x e₁) (words-read p (length rs) p s y h ey).bytes)

abbrev pub SameBrushes : ℕ × List Brush → ℕ × List Brush → Type 0
SameBrushes x y = (x.0 ≡ y.0) × (length x.1 ≡ length y.1)

pub brus_alike : (textures p : ℕ) (b : List ℕ) → AllBytes b → Alike (λ (x : ℕ × List Brush) (m : Mended (ℕ × List Brush)). SameBrushes x m.value) (read_brushes Lenient every p b) (mend_brushes textures p b)
unfolding read_brushes mend_brushes mend_items items
brus_alike textures p b hb =
    alike-after (λ (x : ℕ × List Brush) (m : Mended (ℕ × List Brush)). SameBrushes x m.value) (row brushes_head (p + 8) b) _ _ (λ h eh.
    many h (items_in (length h.left) (read_brush Lenient (number h 0) every) h.place h.left) (items_in (length h.left) (mend_brush (number h 0) textures) h.place h.left)
    (brushes-in (number h 0) textures (length h.left) h.place h.left (row-bytes brushes_head (p + 8) b h hb eh)))
  where
    many : (h : Step (List ℕ)) (o : Result (List Brush)) (u : Result (List (Mended (List Brush)))) → Alike SameMany o u
        → Alike (λ (x : ℕ × List Brush) (m : Mended (ℕ × List Brush)). SameBrushes x m.value) (o >>= λ l. accept (number h 0, l))
        (u >>= (λ l. accept (gathered l)) >>= λ l. accept (record { value = (number h 0, l.value); edits = keep (bytes (number h 0) []) ∷ l.edits }))
    many h (accept l) (accept m) g = (refl, g)
    many h (accept l) (reject n q) g = absurd g
    many h (reject n q) (accept m) g = absurd g
    many h (reject n q) (reject i j) g = g

-- ---- chunks of bytes

abbrev BytesIn : Chunks → Type 0
BytesIn done = Unit {0}
BytesIn (stop n p) = Unit {0}
BytesIn (chunk t p b r) = AllBytes b × BytesIn r

whole-bytes : (P : Pieces) → Whole P → BytesIn (chunks_of P)
unfolding chunks_of
whole-bytes none_left h = tt
whole-bytes (spare p s) h = tt
whole-bytes (past p s) h = tt
whole-bytes (other o r) h = whole-bytes r h.1
whole-bytes (known t p b r) h = (h.0, whole-bytes r h.1)

if-bytes : (b : Bool) (h : ℕ) → BytesIn (if b (stop 8 h) done)
unfolding if
if-bytes true h = tt
if-bytes false h = tt

onward-bytes : (o : Option Reached) (p : ℕ) (go : Reached → Chunks) → ((q : Reached) → BytesIn (go q)) → BytesIn (onward o p go)
unfolding onward
onward-bytes none p go h = tt
onward-bytes (some q) p go h = h q

order-bytes : (k : Tag) (head : ℕ) (r : Reached) (cs : Chunks) → BytesIn cs → BytesIn (order k head r cs)
unfolding order
order-bytes k head r done h = if-bytes (required_between (nesting k) r.turn end) head
order-bytes k head r (stop n p) h = tt
order-bytes k head r (chunk t p b l) h = onward-bytes (next (nesting k) (nesting k) r t) p (λ q. chunk t p b (order k head q l)) (λ q. (h.0, order-bytes k head q l h.1))

inside-bytes : (k : Tag) (head p : ℕ) (s : List ℕ) → AllBytes s → BytesIn (order k head start (chunks_of (pieces p s)))
inside-bytes k head p s h = order-bytes k head start (chunks_of (pieces p s)) (whole-bytes (pieces p s) (pieces_whole p s h).0)

-- ---- one chunk of a file

module _ {A B : Type 0} (R : A → B → Type 0) (k : Tag) (a : A) (a' : B) (h : R a a') (one : ℕ → List ℕ → Result A) (two : ℕ → List ℕ → Result (Mended B))
    (t : (p : ℕ) (b : List ℕ) → AllBytes b → Alike (λ (x : A) (m : Mended B). R x m.value) (one p b) (two p b)) where
  record SameOne (x : Found A) (y : Taken B) : Type 0 where
    value : R x.value y.value
    rest : x.rest ≡ y.rest
    bytes : BytesIn y.rest

  one_of : (cs : Chunks) → BytesIn cs → Alike SameOne (read_one k a one cs) (mend_one k a' two cs)
  unfolding read_one mend_one found
  one_of done g = record { value = h; rest = refl; bytes = tt }
  one_of (stop n p) g = (refl, refl)
  one_of (chunk u p b r) g =
      alike-if SameOne (is u k) _ _ _ _
      (alike_bind (λ (x : A) (m : Mended B). R x m.value) SameOne (one p b) (two p b) _ _ (t p b g.0) (λ x m e. record { value = e; rest = refl; bytes = g.1 }))
      (record { value = h; rest = refl; bytes = g })

ended-alike : {A B : Type 0} (S : A → B → Type 0) (cs : Chunks) (a : A) (b : B) → S a b → Alike S (ended cs a) (ended cs b)
unfolding ended
ended-alike S done a b h = h
ended-alike S (stop n p) a b h = (refl, refl)
ended-alike S (chunk t p c r) a b h = ended-alike S r a b h

-- ---- the file

slots-alike : (n n' : ℕ) (l l' : List Brush) → n ≡ n' → length l ≡ length l' → slots_of n l ≡ slots_of n' l'
unfolding slots_of
slots-alike n n' [] [] e g = refl
slots-alike n n' [] (b ∷ l') e g = absurd (omega arith)
slots-alike n n' (a ∷ l) [] e g = absurd (omega arith)
slots-alike n n' (a ∷ l) (b ∷ l') e g = e

pub record SameScene (t : Scene) (m : Mended Scene) : Type 0 where
  pub version : t.version ≡ m.value.version
  pub slots : t.slots ≡ m.value.slots
  pub tally : scene_tally t ≡ scene_tally m.value

scene-alike : (v : ℕ) (t : List Texture) (u u' : ℕ × List Brush) (f f' : Forest) → SameBrushes u u' → forest_tally f ≡ forest_tally f'
    → scene_tally (record { version = v; textures = t; slots = slots_of u.0 u.1; brushes = u.1; nodes = f }) ≡ scene_tally (scene_of v t u' f')
unfolding scene_tally scene_of brus_tally
scene-alike v t u u' f f' e g =
    ap₂ (λ (b c : Tally). plus (plus (plus (bytes_tally 12) (texs_tally t)) b) c)
    (ap₂ brus_of (slots-alike u.0 u'.0 u.1 u'.1 e.0 e.1) e.1) g

abbrev SameTextures : List Texture → List Texture → Type 0
SameTextures x y = x ≡ y

abbrev SameNodes : Forest → Forest → Type 0
SameNodes f g = forest_tally f ≡ forest_tally g

same-scene : (v : ℕ) (t : List Texture) (u u' : ℕ × List Brush) (f f' : Forest) (x : List Edit) → SameBrushes u u' → SameNodes f f'
    → SameScene (record { version = v; textures = t; slots = slots_of u.0 u.1; brushes = u.1; nodes = f }) (record { value = scene_of v t u' f'; edits = x })
unfolding scene_of
same-scene v t u u' f f' x e g = record { version = refl; slots = slots-alike u.0 u'.0 u.1 u'.1 e.0 e.1; tally = scene-alike v t u u' f f' e g }

last : (v : ℕ) (t t' : List Texture) (u u' : ℕ × List Brush) (f f' : Forest) (x : List Edit) (cs cs' : Chunks) → t ≡ t' → SameBrushes u u' → SameNodes f f' → cs ≡ cs'
    → Alike SameScene (ended cs (record { version = v; textures = t; slots = slots_of u.0 u.1; brushes = u.1; nodes = f })) (ended cs' (record { value = scene_of v t' u' f'; edits = x }))
last v t t' u u' f f' x cs cs' et eu ef ec =
    rw (et, ec) (ended-alike SameScene cs' (record { version = v; textures = t'; slots = slots_of u.0 u.1; brushes = u.1; nodes = f }) (record { value = scene_of v t' u' f'; edits = x }) (same-scene v t' u u' f f' x eu ef))

pub body_alike : (p : ℕ) (b : List ℕ) → AllBytes b → Alike SameScene (lax_body p b) (mend_body p b)
unfolding lax_body mend_body lax_inside
body_alike p b hb =
    alike-after SameScene (row file_head p b) _ _ (λ h eh.
    let cs = order BB3D 0 start (chunks_of (pieces h.place h.left)) in
    alike_bind (SameOne SameTextures TEXS [] [] refl read_textures (as_read read_textures) (λ q c _. read_alike read_textures q c)) SameScene
    (read_one TEXS [] read_textures cs) (mend_one TEXS [] (as_read read_textures) cs) _ _
    (one_of SameTextures TEXS [] [] refl read_textures (as_read read_textures) (λ q c _. read_alike read_textures q c) cs (inside-bytes BB3D 0 h.place h.left (row-bytes file_head p b h hb eh)))
    (λ t t' et.
    alike_bind (SameOne SameBrushes BRUS (0, []) (0, []) (refl, refl) (read_brushes Lenient every) (mend_brushes (length t'.value)) (brus_alike (length t'.value))) SameScene
    (read_one BRUS (0, []) (read_brushes Lenient every) t.rest) (mend_one BRUS (0, []) (mend_brushes (length t'.value)) t'.rest) _ _
    (subst (λ (z : Chunks). Alike (SameOne SameBrushes BRUS (0, []) (0, []) (refl, refl) (read_brushes Lenient every) (mend_brushes (length t'.value)) (brus_alike (length t'.value))) (read_one BRUS (0, []) (read_brushes Lenient every) z) (mend_one BRUS (0, []) (mend_brushes (length t'.value)) t'.rest)) (sym et.rest)
    (one_of SameBrushes BRUS (0, []) (0, []) (refl, refl) (read_brushes Lenient every) (mend_brushes (length t'.value)) (brus_alike (length t'.value)) t'.rest et.bytes))
    (λ u u' eu.
    alike_bind (SameOne SameNodes NODE no_nodes no_nodes refl lax_root (mend_root (length u'.value.1)) (λ q c _. root_alike (length u'.value.1) q c)) SameScene
    (read_one NODE no_nodes lax_root u.rest) (mend_one NODE no_nodes (mend_root (length u'.value.1)) u'.rest) _ _
    (subst (λ (z : Chunks). Alike (SameOne SameNodes NODE no_nodes no_nodes refl lax_root (mend_root (length u'.value.1)) (λ q c _. root_alike (length u'.value.1) q c)) (read_one NODE no_nodes lax_root z) (mend_one NODE no_nodes (mend_root (length u'.value.1)) u'.rest)) (sym eu.rest)
    (one_of SameNodes NODE no_nodes no_nodes refl lax_root (mend_root (length u'.value.1)) (λ q c _. root_alike (length u'.value.1) q c) u'.rest eu.bytes))
    (λ n n' en.
    last (number h 0) t.value t'.value u.value u'.value n.value n'.value _ n.rest n'.rest et.value eu.value en.value en.rest))))
