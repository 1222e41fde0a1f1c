-- The TEXS and the BRUS by the rows of their tables.
use mathlib.Core.Path.{◌≡◌, refl, ap, ap₂, sym, ◌∙◌}
use Prim.Native.Nat.{ℕ, zero, suc, ◌+◌, ◌*◌, ◌/◌, ◌≤◌}
use native.Mathlib.Nat.{suc-mul}
use native.Mathlib.Omega.{arith}
use mathlib.Core.List.{List, [], ◌∷◌, ◌++◌, map}
use lib.ListN.{length, take, drop, get_or, length-drop}
use lib.Seq.{take_all, take-add, drop-drop, length-take-le}
use Rattle.wire.specs.Bytes.{bytes}
use Rattle.layout.specs.Write.{write_words, write_text, write_items, write_chunks}
use Rattle.layout.proofs.AllLaws.{All, all_map, all_pure}
use Rattle.layout.proofs.PartLaws.{words_append}
use Rattle.shared_output.specs.Writing.{chunk}
use Rattle.shared_output.proofs.AppendLaws.{words-both, text-append, before-append}
use Rattle.shared_output.proofs.PartLaws.{chunk-is}
use Rattle.b3d_spec.specs.Encode.{write_texture, write_brush}
use Rattle.b3d_spec.specs.Rebuild.{cut, name_from, texture_from, brush_from}
use Rattle.b3d_spec.specs.Scene.{Texture, Brush}
use Rattle.b3d_spec.specs.Tags.{code}
use Rattle.b3d_spec.specs.declared.Tag.TheVariants.{TEXS, BRUS}
use Rattle.b3d_write_row_runs.specs.Lent.{rows_in, each_row}
use Rattle.b3d_write_materials.specs.Named.{row_bytes}
use Rattle.b3d_write_materials.specs.Lists.{texs_bytes, brus_bytes, textures_bytes, brushes_bytes}
use Rattle.b3d_write_row_runs.proofs.RowByRowLaws.{items-each}

-- ---- rows

each_same : (f g : List ℕ → List ℕ) (rs : List (List ℕ)) → All (λ x. f x ≡ g x) rs → each_row f rs ≡ each_row g rs
unfolding each_row
each_same f g [] h = refl
each_same f g (x ∷ rs) h = ap₂ ◌++◌ h.0 (each_same f g rs h.1)

-- rows that are there have their width
pub cut-wide : (w c : ℕ) (ws : List ℕ) → c * w ≤ length ws → All (λ x. length x ≡ w) (cut w c ws)
unfolding cut
cut-wide w zero ws h = tt
cut-wide w (suc c) ws h =
    let k : suc c * w ≡ c * w + w = suc-mul c w in
    (length-take-le w ws (omega arith), cut-wide w c (drop w ws) (simp length-drop (omega arith)))

-- ---- one row

texture_append : (t : Texture) (r : List ℕ) → write_texture t r ≡ write_texture t [] ++ r
texture_append t r = before-append (write_text t.name.bytes) (write_words t.words) (text-append t.name.bytes) (words_append t.words) r

texture-row : (ns x : List ℕ) → length x ≡ 9 → write_texture (texture_from ns x) [] ≡ row_bytes ns 7 x
unfolding texture_from name_from row_bytes
texture-row ns x h = rw (take_all 7 (drop 2 x) (simp length-drop (omega arith)))

brush-append : (b : Brush) (r : List ℕ) → write_brush b r ≡ write_brush b [] ++ r
brush-append b r =
    before-append (write_text b.name.bytes) (λ l. write_words b.words (write_words b.ids l)) (text-append b.name.bytes)
    (before-append (write_words b.words) (write_words b.ids) (words_append b.words) (words_append b.ids)) r

brush-row : (ns : List ℕ) (slots : ℕ) (x : List ℕ) → write_brush (brush_from ns slots x) [] ≡ row_bytes ns (7 + slots) x
unfolding brush_from name_from row_bytes
brush-row ns slots x =
    let both : write_words (take 7 (drop 2 x)) (write_words (take slots (drop 9 x)) []) ≡ write_words (take (7 + slots) (drop 2 x)) [] =
    words_append (take 7 (drop 2 x)) (write_words (take slots (drop 9 x)) []) ∙ sym (words-both (take 7 (drop 2 x)) (take slots (drop 9 x)))
    ∙ ap (λ (l : List ℕ). write_words l []) (sym (take-add 7 slots (drop 2 x) ∙ ap (λ (l : List ℕ). take 7 (drop 2 x) ++ take slots l) (drop-drop 7 2 x))) in
    ap (write_text (take (get_or x 1 0) (drop (get_or x 0 0) ns))) both

-- ---- all of them

texs-of : (ns : List ℕ) (c : ℕ) (ts : List ℕ) → (c ≡ 0 → ⊥) → c * 9 ≤ length ts → textures_bytes ns (cut 9 c ts) ≡ texs_bytes ns (cut 9 c ts)
unfolding textures_bytes cut write_chunks
texs-of ns zero ts k l = absurd (k refl)
texs-of ns (suc c) ts k l =
    let rs : List (List ℕ) = cut 9 (suc c) ts in
    chunk-is code TEXS [] (write_items write_texture (map (texture_from ns) rs))
    ∙ ap (λ (b : List ℕ). chunk (code TEXS) [] b)
    (items-each write_texture texture_append (texture_from ns) rs
    ∙ each_same (λ x. write_texture (texture_from ns x) []) (row_bytes ns 7) rs (all_map (λ x. length x ≡ 9) _ (texture-row ns) rs (cut-wide 9 (suc c) ts l)))

brus-of : (ns : List ℕ) (slots c : ℕ) (bs : List ℕ) → (c ≡ 0 → ⊥) → brushes_bytes ns slots (cut 17 c bs) ≡ brus_bytes ns slots (cut 17 c bs)
unfolding brushes_bytes cut write_chunks
brus-of ns slots zero bs k = absurd (k refl)
brus-of ns slots (suc c) bs k =
    let rs : List (List ℕ) = cut 17 (suc c) bs in
    chunk-is code BRUS (bytes slots []) (write_items write_brush (map (brush_from ns slots) rs))
    ∙ ap (λ (b : List ℕ). chunk (code BRUS) (bytes slots []) b)
    (items-each write_brush brush-append (brush_from ns slots) rs
    ∙ each_same (λ x. write_brush (brush_from ns slots x) []) (row_bytes ns (7 + slots)) rs (all_pure _ (brush-row ns slots) rs))

pub textures-nil : (ns ts : List ℕ) → length ts / 9 ≡ 0 → textures_bytes ns (rows_in 9 ts) ≡ []
unfolding textures_bytes rows_in cut write_chunks
textures-nil ns ts h = rw h

pub textures_are : (ns ts : List ℕ) → (length ts / 9 ≡ 0 → ⊥) → textures_bytes ns (rows_in 9 ts) ≡ texs_bytes ns (cut 9 (length ts / 9) ts)
unfolding rows_in
textures_are ns ts h = texs-of ns (length ts / 9) ts h (omega arith)

pub brushes-nil : (ns : List ℕ) (slots : ℕ) (bs : List ℕ) → length bs / 17 ≡ 0 → brushes_bytes ns slots (rows_in 17 bs) ≡ []
unfolding brushes_bytes rows_in cut write_chunks
brushes-nil ns slots bs h = rw h

pub brushes_are : (ns : List ℕ) (slots : ℕ) (bs : List ℕ) → (length bs / 17 ≡ 0 → ⊥) → brushes_bytes ns slots (rows_in 17 bs) ≡ brus_bytes ns slots (cut 17 (length bs / 17) bs)
unfolding rows_in
brushes_are ns slots bs h = brus-of ns slots (length bs / 17) bs h

pub ruleset list_shapes = (textures-nil, textures_are, brushes-nil, brushes_are)
