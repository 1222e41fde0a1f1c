-- Chunks that hold items only, beside their mending; and the chunks inside a chunk, with and without what is spare.
use mathlib.Core.Path.{◌≡◌, refl, ap, ap₂, sym, ◌∙◌, subst}
use mathlib.Core.Logic.{◌⊎◌, inl, inr}
use Prim.Native.Nat.{ℕ, zero, suc, ◌+◌, ◌<◌}
use native.Mathlib.Omega.{arith}
use mathlib.Core.Bool.{Bool, true, false}
use mathlib.Core.Option.{Option, none, some}
use mathlib.Core.List.{List, [], ◌∷◌, ◌++◌}
use lib.ListN.{length, take, drop, get_or, length-append}
use lib.Dec.{leb}
use Rattle.wire.specs.Bytes.{word}
use Rattle.wire.specs.Test.{if}
use Rattle.layout.specs.Chunks.{done, stop, chunk, keep as keep_of, split_in, split as split_of}
use Rattle.layout.specs.Result.{Result, accept, reject}
use Rattle.layout.specs.Parts.{Name, row, number, named, items}
use Rattle.layout.proofs.AllLaws.{All, all_append}
use Rattle.b3d_spec.specs.declared.Mode.TheVariants.{Lenient}
use Rattle.b3d_spec.specs.Nesting.{nesting, Reached, start, required_between, end, next, onward, order, inside}
use Rattle.b3d_spec.specs.Parse.{read_textures, read_brush, read_brushes, read_vertices, read_triangles, read_bone, read_keys, read_anim}
use Rattle.b3d_spec.specs.Rules.{brush_row, brush_ids, triangle_row, weight_row, brushes_head, triangles_head}
use Rattle.b3d_spec.specs.Scene.{Brush}
use Rattle.b3d_spec.specs.Tags.{tag_of, Chunks, split}
use Rattle.b3d_spec.specs.declared.Tag.{Tag}
use Rattle.b3d_mend_spec.specs.Edits.{Edit, after}
use Rattle.b3d_mend_spec.specs.Mend.{Mended, mend_row, mend_named, mend_item, mend_items, as_read, one_brush, mend_brush, mend_brushes, mend_triangles, mend_bone}
use Rattle.b3d_mend_spec.specs.Pieces.{Pieces, none_left, spare, past, other, known, piece, pieces_in, pieces, chunks_of, wrapped, woven}
use Rattle.b3d_mend_spec.proofs.AgreeLaws.{Mendable, Beside, bind_beside, same_beside, moved}
use Rattle.b3d_mend_spec.proofs.EditLaws.{Quiet, keep_quiet, follow_quiet, quiet_same}
use Rattle.b3d_mend_spec.proofs.LeafLaws.{plain, bare_textures, bare_brushes, textures-mend, vertices-mend, keys-mend, anim-mend, triangles-mend, bone-mend, brushes-mend}
use Rattle.b3d_mend_spec.proofs.PieceLaws.{bytes_of, Whole, pieces_whole, Fine, FineC, order-fine, within}
use Rattle.b3d_mend_spec.proofs.QuietPartLaws.{Same, SameStep, row-beside, named-beside, SameItem, item-beside, items-beside, as-read-beside}
use Rattle.b3d_mend_spec.proofs.StageLaws.{MendsFine}

-- nothing changed, so no length either
abbrev pub Left : {A : Type 0} → List ℕ → A → Mended A → Type 0
Left b v m = (m.value ≡ v) × All Quiet m.edits × (length b ≡ length (after m.edits))

abbrev pub Leaves : {A : Type 0} → (ℕ → List ℕ → Result A) → (ℕ → List ℕ → Result (Mended A)) → Type 0
Leaves read fix = (p : ℕ) (b : List ℕ) → Fine b → Beside (Left b) (read p b) (fix p b)

pub with_length : {A : Type 0} (without_places : A → A) (read : ℕ → List ℕ → Result A) (fix : ℕ → List ℕ → Result (Mended A)) → MendsFine without_places read fix
    → ((p : ℕ) (b : List ℕ) → Fine b → Beside Same (read p b) (fix p b)) → Leaves read fix
with_length {A} without_places read fix mends h p b f = go (read p b) (fix p b) refl (h p b f)
  where
    go : (o : Result A) (q : Result (Mended A)) → fix p b ≡ q → Beside Same o q → Beside (Left b) o q
    go (accept v) (accept m) e k =
        (k.0, k.1, ap (λ (l : List ℕ). length l) (sym (mends p b m f e).given ∙ sym (quiet_same m.edits k.1)))
    go (accept v) (reject n i) e k = absurd k
    go (reject n i) q e k = k

-- ---- leaves

pub textures_leave : Leaves read_textures (as_read read_textures)
textures_leave = with_length bare_textures read_textures (as_read read_textures) (λ p b m f e. textures-mend p b m f.0 e) (λ p b f. as-read-beside read_textures p b)

pub vertices_leave : Leaves (read_vertices Lenient) (as_read (read_vertices Lenient))
vertices_leave = with_length plain (read_vertices Lenient) (as_read (read_vertices Lenient)) (λ p b m f e. vertices-mend p b m f.0 e) (λ p b f. as-read-beside (read_vertices Lenient) p b)

pub keys_leave : Leaves read_keys (as_read read_keys)
keys_leave = with_length plain read_keys (as_read read_keys) (λ p b m f e. keys-mend p b m f.0 e) (λ p b f. as-read-beside read_keys p b)

pub anim_leave : Leaves read_anim (as_read read_anim)
anim_leave = with_length plain read_anim (as_read read_anim) (λ p b m f e. anim-mend p b m f.0 e) (λ p b f. as-read-beside read_anim p b)

pub triangles_leave : (brushes vertices : ℕ) → Leaves (read_triangles brushes vertices) (mend_triangles brushes vertices)
unfolding read_triangles mend_triangles
triangles_leave brushes vertices = with_length plain (read_triangles brushes vertices) (mend_triangles brushes vertices) (λ p b m f e. triangles-mend brushes vertices p b m f.0 e) (λ p b f.
    bind_beside SameStep Same (row (triangles_head brushes) (p + 8) b) (mend_row (triangles_head brushes) (p + 8) b) _ _ (row-beside (triangles_head brushes) (p + 8) b) (λ x y h.
    bind_beside Same Same (items (row (triangle_row vertices)) x.place x.left) (mend_items (mend_item (triangle_row vertices)) y.place y.left) _ _
    (moved Same (items (row (triangle_row vertices)) x.place x.left) (mend_items (mend_item (triangle_row vertices))) x.place y.place x.left y.left h.1 h.2
    (items-beside (row (triangle_row vertices)) (mend_item (triangle_row vertices)) (item-beside (triangle_row vertices) (tt, (tt, (tt, tt)))) x.place x.left))
    (λ l m k.
    (ap₂ (λ (ws : List ℕ) (ts : List (List ℕ)). record { brush = get_or ws 0 0; triangles = ts }) h.0.0 k.0, all_append Quiet y.value.edits m.edits h.0.1 k.1))))

pub bone_leave : (vertices : ℕ) → Leaves (read_bone vertices) (mend_bone vertices)
unfolding read_bone mend_bone
bone_leave vertices = with_length plain (read_bone vertices) (mend_bone vertices) (λ p b m f e. bone-mend vertices p b m f.0 e) (λ p b f.
    items-beside (row (weight_row vertices)) (mend_item (weight_row vertices)) (item-beside (weight_row vertices) (tt, (tt, tt))) (p + 8) b)

brush-beside : (n textures p : ℕ) (s : List ℕ) → Beside SameItem (read_brush Lenient n textures p s) (mend_brush n textures p s)
unfolding read_brush mend_brush one_brush
brush-beside n textures p s =
    bind_beside SameStep SameItem (named (brush_row Lenient ++ brush_ids n textures) p s) (mend_named (brush_row Lenient ++ brush_ids n textures) p s) _ _ (named-beside (brush_row Lenient ++ brush_ids n textures) p s) (λ x y h.
    (ap (λ (v : Name × List ℕ). record { name = v.0; words = take 7 v.1; ids = drop 7 v.1 } ∷ []) h.0.0, h.0.1, h.1, h.2))

pub brushes_leave : (textures : ℕ) → Leaves (read_brushes Lenient textures) (mend_brushes textures)
unfolding read_brushes mend_brushes
brushes_leave textures = with_length bare_brushes (read_brushes Lenient textures) (mend_brushes textures) (λ p b m f e. brushes-mend textures p b m f.0 e) (λ p b f.
    same_beside Same (row brushes_head (p + 8) b) _ _ (λ h eh.
    bind_beside Same Same (items (read_brush Lenient (number h 0) textures) h.place h.left) (mend_items (mend_brush (number h 0) textures) h.place h.left) _ _
    (items-beside (read_brush Lenient (number h 0) textures) (mend_brush (number h 0) textures) (brush-beside (number h 0) textures) h.place h.left)
    (λ l m k. (ap (λ (z : List Brush). (number h 0, z)) k.0, (keep_quiet _, k.1)))))

-- ---- the chunks inside a chunk

-- as the reading has them: spare bytes are refused
unfoldable pub strict_of : Pieces → Chunks
strict_of none_left = done
strict_of (spare p s) = stop 3 p
strict_of (past p s) = stop 3 p
strict_of (other o r) = strict_of r
strict_of (known t p b r) = chunk t p b (strict_of r)

piece_strict : (o : Option Tag) (p : ℕ) (h b : List ℕ) (r : Pieces) (c : Chunks) → c ≡ strict_of r → keep_of o p b c ≡ strict_of (piece o p h b r)
unfolding keep_of piece strict_of
piece_strict none p h b r c e = e
piece_strict (some t) p h b r c e = ap (λ (z : Chunks). chunk t p b z) e

if_strict : (b : Bool) (c : Chunks) (P : Pieces) (p : ℕ) (s : List ℕ) → c ≡ strict_of P → if b c (stop 3 p) ≡ strict_of (if b P (past p s))
unfolding if strict_of
if_strict true c P p s e = e
if_strict false c P p s e = refl

in_strict : (f p : ℕ) (s : List ℕ) → split_in tag_of f p s ≡ strict_of (pieces_in f p s)
unfolding split_in pieces_in strict_of
in_strict zero p s = refl
in_strict (suc f) p [] = refl
in_strict (suc f) p (a ∷ []) = refl
in_strict (suc f) p (a ∷ b ∷ []) = refl
in_strict (suc f) p (a ∷ b ∷ c ∷ []) = refl
in_strict (suc f) p (a ∷ b ∷ c ∷ d ∷ []) = refl
in_strict (suc f) p (a ∷ b ∷ c ∷ d ∷ e ∷ []) = refl
in_strict (suc f) p (a ∷ b ∷ c ∷ d ∷ e ∷ g ∷ []) = refl
in_strict (suc f) p (a ∷ b ∷ c ∷ d ∷ e ∷ g ∷ h ∷ []) = refl
in_strict (suc f) p (a ∷ b ∷ c ∷ d ∷ e ∷ g ∷ h ∷ i ∷ s) =
    let n = word e g h i in
    if_strict (leb n (length s)) _ _ p (a ∷ b ∷ c ∷ d ∷ e ∷ g ∷ h ∷ i ∷ s)
    (piece_strict (tag_of (word a b c d)) p (a ∷ b ∷ c ∷ d ∷ e ∷ g ∷ h ∷ i ∷ []) (take n s) (pieces_in f (p + 8 + n) (drop n s)) _ (in_strict f (p + 8 + n) (drop n s)))

pub split_strict : (p : ℕ) (s : List ℕ) → split p s ≡ strict_of (pieces p s)
unfolding split_of pieces
split_strict p s = in_strict (length s) p s

-- the same chunks, up to a refusal that is mended
abbrev pub Alike : Chunks → Chunks → Type 0
Alike done c = c ≡ done
Alike (stop n p) c = Mendable n p ⊎ (c ≡ stop n p)
Alike (chunk t p b r) c = (z : Chunks) × (c ≡ chunk t p b z) × Alike r z

pieces-alike : (P : Pieces) → Alike (strict_of P) (chunks_of P)
unfolding strict_of chunks_of
pieces-alike none_left = refl
pieces-alike (spare p s) = inl (inl refl)
pieces-alike (past p s) = inr refl
pieces-alike (other o r) = pieces-alike r
pieces-alike (known t p b r) = (chunks_of r, refl, pieces-alike r)

end-alike : (b : Bool) (h : ℕ) → Alike (if b (stop 8 h) done) (if b (stop 8 h) done)
unfolding if
end-alike true h = inr refl
end-alike false h = refl

onward-alike : (o : Option Reached) (t : Tag) (p : ℕ) (b : List ℕ) (f g : Reached → Chunks) → ((q : Reached) → Alike (f q) (g q)) → Alike (onward o p (λ q. chunk t p b (f q))) (onward o p (λ q. chunk t p b (g q)))
unfolding onward
onward-alike none t p b f g h = inr refl
onward-alike (some q) t p b f g h = (g q, refl, h q)

order_alike : (k : Tag) (head : ℕ) (r : Reached) (cs c : Chunks) → Alike cs c → Alike (order k head r cs) (order k head r c)
unfolding order
order_alike k head r done c h = subst (λ (z : Chunks). Alike (order k head r done) (order k head r z)) (sym h) (end-alike (required_between (nesting k) r.turn end) head)
order_alike k head r (stop n p) c h = elim h [ inl i ↦ inl i | inr e ↦ inr (ap (order k head r) e) ]
order_alike k head r (chunk t p b l) c h =
    subst (λ (z : Chunks). Alike (order k head r (chunk t p b l)) (order k head r z)) (sym h.1)
    (onward-alike (next (nesting k) (nesting k) r t) t p b (λ q. order k head q l) (λ q. order k head q h.0) (λ q. order_alike k head q l h.0 h.2))

pub within-alike : (k : Tag) (head p : ℕ) (s : List ℕ) → Alike (inside k head p s) (within k head p s)
unfolding inside
within-alike k head p s =
    subst (λ (z : Chunks). Alike (order k head start z) (within k head p s)) (sym (split_strict p s)) (order_alike k head start (strict_of (pieces p s)) (chunks_of (pieces p s)) (pieces-alike (pieces p s)))

strict_fine : (P : Pieces) → Whole P → length (bytes_of P) < 4294967296 → FineC (strict_of P)
unfolding strict_of bytes_of
strict_fine none_left w n = tt
strict_fine (spare p s) w n = tt
strict_fine (past p s) w n = tt
strict_fine (other o r) w n = strict_fine r w.1 (omega (arith, length-append o (bytes_of r)))
strict_fine (known t p b r) w n = let k = length-append b (bytes_of r) in ((w.0, omega arith), strict_fine r w.1 (omega arith))

pub inside-fine : (k : Tag) (head p : ℕ) (s : List ℕ) → Fine s → FineC (inside k head p s)
unfolding inside
inside-fine k head p s f =
    let w = pieces_whole p s f.0 in
    order-fine k head start (split p s)
    (subst FineC (sym (split_strict p s)) (strict_fine (pieces p s) w.0 (omega (arith, f.1, ap (λ (l : List ℕ). length l) w.1))))

-- chunks of which none was changed
abbrev pub Hush : Chunks → List (List Edit) → Type 0
Hush done [] = Unit {0}
Hush done (x ∷ xs) = ⊥
Hush (stop n p) xs = ⊥
Hush (chunk t p b r) [] = ⊥
Hush (chunk t p b r) (x ∷ xs) = All Quiet x × (length b ≡ length (after x)) × Hush r xs

wrapped_quiet : (t : Tag) (n : ℕ) (x : List Edit) → All Quiet x → n ≡ length (after x) → All Quiet (wrapped t n x)
unfolding wrapped
wrapped_quiet t n x h e = (keep_quiet _, (follow_quiet n (length (after x)) e, h))

woven_quiet : (P : Pieces) (xs : List (List Edit)) → Hush (strict_of P) xs → All Quiet (woven P xs)
unfolding strict_of woven
woven_quiet none_left xs h = tt
woven_quiet (spare p s) xs h = absurd h
woven_quiet (past p s) xs h = absurd h
woven_quiet (other o r) xs h = (keep_quiet o, woven_quiet r xs h)
woven_quiet (known t p b r) [] h = absurd h
woven_quiet (known t p b r) (x ∷ xs) h = all_append Quiet (wrapped t (length b) x) (woven r xs) (wrapped_quiet t (length b) x h.0 h.1) (woven_quiet r xs h.2)

end_hush : (b : Bool) (h : ℕ) (xs : List (List Edit)) → Hush (if b (stop 8 h) done) xs → Hush done xs
unfolding if
end_hush true h xs k = absurd k
end_hush false h xs k = k

onward_hush : (o : Option Reached) (t : Tag) (p : ℕ) (b : List ℕ) (f : Reached → Chunks) (r : Chunks) (xs : List (List Edit)) → ((q : Reached) (ys : List (List Edit)) → Hush (f q) ys → Hush r ys)
    → Hush (onward o p (λ q. chunk t p b (f q))) xs → Hush (chunk t p b r) xs
unfolding onward
onward_hush none t p b f r xs go h = absurd h
onward_hush (some q) t p b f r [] go h = absurd h
onward_hush (some q) t p b f r (x ∷ xs) go h = (h.0, h.1, go q xs h.2)

order_hush : (k : Tag) (head : ℕ) (r : Reached) (cs : Chunks) (xs : List (List Edit)) → Hush (order k head r cs) xs → Hush cs xs
unfolding order
order_hush k head r done xs h = end_hush (required_between (nesting k) r.turn end) head xs h
order_hush k head r (stop n p) xs h = absurd h
order_hush k head r (chunk t p b l) xs h = onward_hush (next (nesting k) (nesting k) r t) t p b (λ q. order k head q l) l xs (λ q ys. order_hush k head q l ys) h

pub inside_quiet : (k : Tag) (head p : ℕ) (s : List ℕ) (xs : List (List Edit)) → Hush (inside k head p s) xs → All Quiet (woven (pieces p s) xs)
unfolding inside
inside_quiet k head p s xs h = woven_quiet (pieces p s) xs (subst (λ (z : Chunks). Hush z xs) (split_strict p s) (order_hush k head start (split p s) xs h))
