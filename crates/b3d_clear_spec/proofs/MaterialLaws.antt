-- TEXS and BRUS that were read become what the copy has of them.
use mathlib.Core.Path.{◌≡◌, refl, ap, sym, ◌∙◌}
use Prim.Native.Nat.{ℕ, ◌+◌}
use native.Mathlib.Omega.{arith}
use mathlib.Core.List.{List, [], ◌∷◌, ◌++◌, map}
use lib.ListN.{length, take, drop, length-append, length-replicate, take-append-drop}
use Rattle.wire.specs.Bytes.{bytes, AllBytes}
use Rattle.layout.specs.Result.{accept}
use Rattle.layout.specs.Parts.{row, number, items}
use Rattle.layout.specs.Write.{write_words, write_items}
use Rattle.layout.proofs.ResultLaws.{by_got, got_inj}
use Rattle.layout.proofs.PartLaws.{row_fine, words_append}
use Rattle.b3d_spec.specs.declared.Mode.TheVariants.{Lenient}
use Rattle.b3d_spec.specs.declared.Tag.TheVariants.{TEXS, BRUS}
use Rattle.b3d_spec.specs.Encode.{write_texture, write_brush}
use Rattle.b3d_spec.specs.Names.{rename_texture, rename_brush, no_name}
use Rattle.b3d_spec.specs.Parse.{read_texture, read_textures, read_brush, read_brushes, slots_of, texture_of, brush_of}
use Rattle.b3d_spec.specs.Rules.{texture_row, brushes_head, brush_row, brush_ids, texture_id}
use Rattle.b3d_spec.specs.Scene.{Texture, Brush}
use Rattle.b3d_spec.specs.Tags.{code}
use Rattle.b3d_clear_spec.specs.Copies.{chunk_of, unnamed_items, if_any, texs_copy, brus_of, brus_copy}
use Rattle.b3d_clear_spec.proofs.ItemLaws.{items-read, none_read, some_read}
use Rattle.b3d_clear_spec.proofs.PartLaws.{texs_bytes, brus_bytes}

-- words before words
words-then : (ws vs r : List ℕ) → write_words ws (write_words vs r) ≡ write_words (ws ++ vs) r
words-then [] vs r = refl
words-then (w ∷ ws) vs r = ap (λ (l : List ℕ). bytes w l) (words-then ws vs r)

items_map : {A : Type 0} (write : A → List ℕ → List ℕ) (f : A → A) (l : List A) → write_items (λ a. write (f a)) l ≡ write_items write (map f l)
items_map write f [] = refl
items_map write f (a ∷ l) = ap (write (f a)) (items_map write f l)

-- ---- textures

textures-items : (p : ℕ) (s : List ℕ) (l : List Texture) → AllBytes s → items read_texture p s ≡ accept l → unnamed_items 7 p s ≡ write_items write_texture (map (rename_texture no_name) l)
unfolding read_texture
textures-items p s l h e =
    items-read texture_of texture_row (λ t. write_texture (rename_texture no_name t)) (λ x r n. ap (λ (y : List ℕ). 0 ∷ y) (words_append x.1 r)) p s l h e
    ∙ items_map write_texture (rename_texture no_name) l

pub texs_copied : (p : ℕ) (b : List ℕ) (l : List Texture) → AllBytes b → read_textures p b ≡ accept l → texs_copy p b ≡ texs_bytes l
unfolding read_textures texs_copy if_any texs_bytes
texs_copied p [] l h e = ap texs_bytes (sym (none_read read_texture (p + 8) l e))
texs_copied p (c ∷ s) [] h e = absurd (omega (arith, some_read read_texture (p + 8) c s [] e))
texs_copied p (c ∷ s) (t ∷ l) h e = ap (chunk_of (code TEXS)) (textures-items (p + 8) (c ∷ s) (t ∷ l) h e)

-- ---- brushes

brushes-items : (slots textures p : ℕ) (s : List ℕ) (l : List Brush) → AllBytes s → items (read_brush Lenient slots textures) p s ≡ accept l
    → unnamed_items (7 + slots) p s ≡ write_items write_brush (map (rename_brush no_name) l)
unfolding read_brush
brushes-items slots textures p s l h e =
    let rs = brush_row Lenient ++ brush_ids slots textures in
    let n : length rs ≡ 7 + slots = length-append (brush_row Lenient) (brush_ids slots textures) ∙ ap (λ (k : ℕ). 7 + k) (length-replicate slots (texture_id textures)) in
    ap (λ (k : ℕ). unnamed_items k p s) (sym n)
    ∙ items-read brush_of rs (λ b. write_brush (rename_brush no_name b))
    (λ x r m. ap (λ (y : List ℕ). 0 ∷ y) (words-then (take 7 x.1) (drop 7 x.1) r ∙ ap (λ (ws : List ℕ). write_words ws r) (take-append-drop 7 x.1) ∙ words_append x.1 r)) p s l h e
    ∙ items_map write_brush (rename_brush no_name) l

brus_some : (slots textures p : ℕ) (s : List ℕ) (l : List Brush) → AllBytes s → items (read_brush Lenient slots textures) p s ≡ accept l
    → if_any s (chunk_of (code BRUS) (bytes slots (unnamed_items (7 + slots) p s))) ≡ brus_bytes (slots_of slots l) l
unfolding if_any brus_bytes slots_of
brus_some slots textures p [] l h e = ap (λ (x : List Brush). brus_bytes (slots_of slots x) x) (sym (none_read (read_brush Lenient slots textures) p l e))
brus_some slots textures p (c ∷ s) [] h e = absurd (omega (arith, some_read (read_brush Lenient slots textures) p c s [] e))
brus_some slots textures p (c ∷ s) (b ∷ l) h e = ap (λ (y : List ℕ). chunk_of (code BRUS) (bytes slots y)) (brushes-items slots textures p (c ∷ s) (b ∷ l) h e)

pub brus_copied : (textures p : ℕ) (b : List ℕ) (x : ℕ × List Brush) → AllBytes b → read_brushes Lenient textures p b ≡ accept x → brus_copy p b ≡ brus_bytes (slots_of x.0 x.1) x.1
unfolding read_brushes brus_copy brus_of
brus_copied textures p b x all e =
    by_got (row brushes_head (p + 8) b) _ e (λ h eh e₁.
    by_got (items (read_brush Lenient (number h 0) textures) h.place h.left) _ e₁ (λ l el e₂.
    ap brus_of eh
    ∙ brus_some (number h 0) textures h.place h.left l (row_fine brushes_head (p + 8) b h all eh).bytes el
    ∙ ap (λ (u : ℕ × List Brush). brus_bytes (slots_of u.0 u.1) u.1) (got_inj e₂)))
