-- The rows of TEXS and BRUS that were read are those that the bytes plainly hold.
use mathlib.Core.Path.{◌≡◌, ap, ap₂, sym, ◌∙◌}
use Prim.Native.Nat.{ℕ, zero, suc, ◌+◌, ◌≤◌}
use native.Mathlib.Omega.{arith}
use mathlib.Core.List.{List, [], ◌∷◌, ◌++◌, map}
use lib.ListN.{length, get_or, length-append, length-replicate}
use lib.Dec.{leb, le→leb}
use Rattle.layout.specs.Result.{Result, accept, ◌>>=◌}
use Rattle.layout.specs.Parts.{Name, Step, text, named, row, number, items_in, items}
use Rattle.layout.specs.Rules.{Rule}
use Rattle.layout.proofs.ResultLaws.{by_got, bad_got, got_inj, if_yes}
use Rattle.layout.proofs.StepLaws.{named-plain}
use Rattle.b3d_spec.specs.declared.Mode.TheVariants.{Lenient}
use Rattle.b3d_spec.specs.Parse.{read_texture, read_textures, read_brush, read_brushes, texture_of, brush_of}
use Rattle.b3d_spec.specs.Rules.{texture_row, brushes_head, brush_row, brush_ids, texture_id}
use Rattle.b3d_spec.specs.Scene.{Texture, Brush}
use Rattle.b3d_spec.specs.Tables as tables
use Rattle.b3d_spec_plain_rows.proofs.ItemLaws.{row_read}
use Rattle.b3d_spec_plain_rows.specs.Plain.{next_item, named_in, named_items}
use Rattle.b3d_spec_plain_rows.specs.Rows.{texture_rows, brushes_of, brush_rows}
use Rattle.b3d_spec_plain_rows.proofs.LeafLaws.{first_low, judged-row}

module _ {A : Type 0} (make : Name × List ℕ → A) (rs : List Rule) where
  abbrev read_by : ℕ → List ℕ → Result (Step A)
  read_by p s = named rs p s >>= λ x. accept (record { value = make x.value; place = x.place; left = x.left })

  read-in : (f p : ℕ) (s : List ℕ) (l : List A) → items_in f read_by p s ≡ accept l → map make (named_in f (length rs) p s) ≡ l
  unfolding items_in named_in next_item named text
  read-in zero p [] l e = got_inj e
  read-in zero p (c ∷ s) l e = bad_got e
  read-in (suc f) p [] l e = got_inj e
  read-in (suc f) p (c ∷ s) l e =
      by_got (read_by p (c ∷ s)) _ e (λ x ex e₁.
      by_got (named rs p (c ∷ s)) _ ex (λ y ey ez.
      by_got (items_in f read_by x.place x.left) _ e₁ (λ m em e₂.
      let g = got_inj ez in
      let rest = read-in f y.place y.left m (rw (← g) at em) in
      ap (λ (o : Result (Step (Name × List ℕ))). map make (next_item (named_in f (length rs)) o)) (named-plain rs p (c ∷ s) y ey)
      ∙ ap (λ (r : List A). make y.value ∷ r) rest
      ∙ ap (λ (a : Step A). a.value ∷ m) g
      ∙ got_inj e₂)))

  items-plain : (p : ℕ) (s : List ℕ) (l : List A) → items read_by p s ≡ accept l → map make (named_items (length rs) p s) ≡ l
  unfolding items named_items
  items-plain p s l e = read-in (length s) p s l e

pub textures-plain : (p : ℕ) (b : List ℕ) (l : List Texture) → read_textures p b ≡ accept l → texture_rows p b ≡ map tables.texture_row l
unfolding read_textures read_texture texture_rows
textures-plain p b l e = ap (map tables.texture_row) (items-plain texture_of texture_row (p + 8) b l e)

brushes_made : (slots textures p : ℕ) (s : List ℕ) (l : List Brush) → items (read_brush Lenient slots textures) p s ≡ accept l → map brush_of (named_items (7 + slots) p s) ≡ l
unfolding read_brush
brushes_made slots textures p s l e =
    let rs = brush_row Lenient ++ brush_ids slots textures in
    let n : length rs ≡ 7 + slots = length-append (brush_row Lenient) (brush_ids slots textures) ∙ ap (λ (k : ℕ). 7 + k) (length-replicate slots (texture_id textures)) in
    ap (λ (k : ℕ). map brush_of (named_items k p s)) (sym n) ∙ items-plain brush_of rs p s l e

few-ids : (ids p : ℕ) (s : List ℕ) → ids ≤ 8 → brushes_of ids p s ≡ map tables.brush_row (map brush_of (named_items (7 + ids) p s))
unfolding brushes_of
few-ids ids p s h = if_yes (leb ids 8) _ _ (le→leb ids 8 h)

pub brushes-plain : (textures p : ℕ) (b : List ℕ) (v : ℕ × List Brush) → read_brushes Lenient textures p b ≡ accept v → brush_rows p b ≡ map tables.brush_row v.1
unfolding read_brushes brush_rows
brushes-plain textures p b v e =
    by_got (row brushes_head (p + 8) b) _ e (λ h eh e₁.
    by_got (items (read_brush Lenient (number h 0) textures) h.place h.left) _ e₁ (λ l el e₂.
    let r = row_read brushes_head (p + 8) b h eh in
    let q : h.place ≡ p + 12 = omega (arith, r.place) in
    let f : number h 0 ≤ 8 = first_low 8 (p + 8) [] h.value h h (judged-row brushes_head (p + 8) b h eh) in
    ap₂ (λ (ws s : List ℕ). brushes_of (get_or ws 0 0) (p + 12) s) (sym r.value) (sym r.left)
    ∙ ap (λ (k : ℕ). brushes_of (number h 0) k h.left) (sym q)
    ∙ few-ids (number h 0) h.place h.left f
    ∙ ap (map tables.brush_row) (brushes_made (number h 0) textures h.place h.left l el ∙ ap (λ (w : ℕ × List Brush). w.1) (got_inj e₂))))
