-- Where the mending read gives a value, the walk without refusals gives its edits; and the walk one item at a time.
use mathlib.Core.Path.{◌≡◌, refl, ap, ap₂, sym, ◌∙◌, subst}
use Prim.Native.Nat.{ℕ, zero, suc, ◌+◌, ◌*◌, ◌<◌, ◌≤◌}
use native.Mathlib.Omega.{arith}
use mathlib.Core.Bool.{Bool, true, false}
use mathlib.Core.List.{List, [], ◌∷◌, ◌++◌}
use lib.ListN.{length, drop, replicate, length-drop, length-replicate}
use lib.Dec.{leb, leb→le, le→leb, not_T}
use Rattle.wire.specs.Bytes.{bytes}
use Rattle.wire.specs.Test.{if}
use Rattle.layout.specs.Result.{accept}
use Rattle.layout.specs.Parts.{Name, Step, text, words, words_of, row, number, named, items_in, items}
use Rattle.layout.specs.Rules.{Rule, any, NONE, holds}
use Rattle.layout.specs.Write.{write_words, write_text}
use Rattle.layout.proofs.ResultLaws.{by_got, by-if, if_yes, if_no, bad_got, got_inj}
use Rattle.layout.proofs.StepLaws.{words-enough, judged-any}
use Rattle.b3d_spec.specs.declared.Mode.TheVariants.{Lenient}
use Rattle.b3d_spec.specs.Rules.{brush_row, brush_ids, brushes_head, triangles_head, triangle_row, weight_row}
use Rattle.b3d_spec.specs.Scene.{Brush, TriangleSet}
use Rattle.b3d_mend_spec.specs.Edits.{Edit, keep, id_set, item_out}
use Rattle.b3d_mend_spec.specs.Mend.{Mended, may_be_none, mend_word, and_words, mend_words, mend_row, with_name, mend_named, all_hold, stays, mend_item, gathered, mend_items, one_brush, mend_brush, mend_brushes, mend_triangles, mend_bone}
use Rattle.b3d_mend_spec.specs.Walks.{word_edit, word_edits, item_edit, item_edits_in, item_edits, tris_edits, bone_edits, brush_of, brush_edits_in, brus_of, brus_edits}
use Rattle.b3d_mend_spec.proofs.StepLaws.{left_in}

-- ---- words that were read are the first words

pub words_are : (start n p : ℕ) (s : List ℕ) (x : Step (List ℕ)) → words start n p s ≡ accept x → (x.value ≡ words_of n s) × (x.left ≡ drop (4 * n) s)
words_are start n p s x e =
    let k = left_in start n p s x e in
    let y = got_inj (sym e ∙ words-enough start n p s (omega arith)) in
    (ap (λ (z : Step (List ℕ)). z.value) y, ap (λ (z : Step (List ℕ)). z.left) y)

word-edit : (r : Rule) (p w : ℕ) (v : Mended ℕ) → mend_word r p w ≡ accept v → v.edits ≡ word_edit r w ∷ []
unfolding mend_word word_edit
word-edit r p w v e =
    by-if (holds r w) _ _ e
    (λ t e₁. ap (λ (z : Mended ℕ). z.edits) (sym (got_inj e₁)) ∙ ap (λ (z : Edit). z ∷ []) (sym (if_yes (holds r w) (keep (bytes w [])) (id_set w NONE) t)))
    (λ t e₁. by-if (may_be_none r) _ _ e₁
    (λ u e₂. ap (λ (z : Mended ℕ). z.edits) (sym (got_inj e₂)) ∙ ap (λ (z : Edit). z ∷ []) (sym (if_no (holds r w) (keep (bytes w [])) (id_set w NONE) t)))
    (λ u e₂. bad_got e₂))

pub word-edits : (rs : List Rule) (p : ℕ) (ws : List ℕ) (v : Mended (List ℕ)) → mend_words rs p ws ≡ accept v → v.edits ≡ word_edits rs ws
unfolding mend_words word_edits and_words
word-edits [] p ws v e = ap (λ (z : Mended (List ℕ)). z.edits) (sym (got_inj e))
word-edits (r ∷ rs) p [] v e = ap (λ (z : Mended (List ℕ)). z.edits) (sym (got_inj e))
word-edits (r ∷ rs) p (w ∷ ws) v e =
    by_got (mend_word r p w) _ e (λ y ey e₁.
    by_got (mend_words rs (p + 4) ws) _ e₁ (λ x ex e₂.
    ap (λ (z : Mended (List ℕ)). z.edits) (sym (got_inj e₂)) ∙ ap₂ ◌++◌ (word-edit r p w y ey) (word-edits rs (p + 4) ws x ex)))

stay_edit : (rs : List Rule) (ws : List ℕ) → (stays (all_hold rs ws) ws).edits ≡ item_edit rs ws ∷ []
unfolding item_edit stays if
stay_edit rs ws = go (all_hold rs ws)
  where
    go : (b : Bool) → (stays b ws).edits ≡ if b (keep (write_words ws [])) (item_out (write_words ws [])) ∷ []
    go true = refl
    go false = refl

item-edits_in : (rs : List Rule) (f p : ℕ) (s : List ℕ) (l : List (Mended (List (List ℕ)))) → items_in f (mend_item rs) p s ≡ accept l → (gathered l).edits ≡ item_edits_in f rs s
unfolding items_in mend_item gathered item_edits_in
item-edits_in rs zero p [] l e = ap (λ (z : List (Mended (List (List ℕ)))). (gathered z).edits) (sym (got_inj e))
item-edits_in rs zero p (c ∷ s) l e = bad_got e
item-edits_in rs (suc f) p [] l e = ap (λ (z : List (Mended (List (List ℕ)))). (gathered z).edits) (sym (got_inj e))
item-edits_in rs (suc f) p (c ∷ s) l e =
    by_got (mend_item rs p (c ∷ s)) _ e (λ x ex e₁.
    by_got (items_in f (mend_item rs) x.place x.left) _ e₁ (λ m em e₂.
    by_got (words p (length rs) p (c ∷ s)) _ ex (λ y ey e₃.
    let w = words_are p (length rs) p (c ∷ s) y ey in
    let first : x.value.edits ≡ item_edit rs (words_of (length rs) (c ∷ s)) ∷ [] =
    ap (λ (z : Step (Mended (List (List ℕ)))). z.value.edits) (sym (got_inj e₃)) ∙ stay_edit rs y.value ∙ ap (λ (v : List ℕ). item_edit rs v ∷ []) w.0 in
    let long : 4 * length rs ≤ length (c ∷ s) = omega (arith, left_in p (length rs) p (c ∷ s) y ey) in
    let rest : x.left ≡ drop (4 * length rs) (c ∷ s) = ap (λ (z : Step (Mended (List (List ℕ)))). z.left) (sym (got_inj e₃)) ∙ w.1 in
    ap (λ (z : List (Mended (List (List ℕ)))). (gathered z).edits) (sym (got_inj e₂))
    ∙ ap₂ ◌++◌ first (item-edits_in rs f x.place x.left m em ∙ ap (item_edits_in f rs) rest)
    ∙ sym (if_yes (leb (4 * length rs) (length (c ∷ s))) _ _ (le→leb _ _ long)))))

pub item-edits : (rs : List Rule) (p : ℕ) (s : List ℕ) (m : Mended (List (List ℕ))) → mend_items (mend_item rs) p s ≡ accept m → m.edits ≡ item_edits rs s
unfolding mend_items items item_edits
item-edits rs p s m e =
    by_got (items_in (length s) (mend_item rs) p s) _ e (λ l el e₁. ap (λ (z : Mended (List (List ℕ))). z.edits) (sym (got_inj e₁)) ∙ item-edits_in rs (length s) p s l el)

pub tris-edits : (brushes vertices p : ℕ) (b : List ℕ) (m : Mended TriangleSet) → mend_triangles brushes vertices p b ≡ accept m → m.edits ≡ tris_edits brushes vertices b
unfolding mend_triangles mend_row tris_edits
tris-edits brushes vertices p b m e =
    by_got (mend_row (triangles_head brushes) (p + 8) b) _ e (λ h eh e₁.
    by_got (mend_items (mend_item (triangle_row vertices)) h.place h.left) _ e₁ (λ l el e₂.
    by_got (words (p + 8) 1 (p + 8) b) _ eh (λ y ey e₃.
    by_got (mend_words (triangles_head brushes) (p + 8) y.value) _ e₃ (λ v ev e₄.
    let w = words_are (p + 8) 1 (p + 8) b y ey in
    let q = sym (got_inj e₄) in
    ap (λ (z : Mended TriangleSet). z.edits) (sym (got_inj e₂))
    ∙ ap₂ ◌++◌ (ap (λ (z : Step (Mended (List ℕ))). z.value.edits) q ∙ word-edits (triangles_head brushes) (p + 8) y.value v ev ∙ ap (word_edits (triangles_head brushes)) w.0)
    (item-edits (triangle_row vertices) h.place h.left l el ∙ ap (item_edits (triangle_row vertices)) (ap (λ (z : Step (Mended (List ℕ))). z.left) q ∙ w.1))))))

pub bone-edits : (vertices p : ℕ) (b : List ℕ) (m : Mended (List (List ℕ))) → mend_bone vertices p b ≡ accept m → m.edits ≡ bone_edits vertices b
unfolding mend_bone bone_edits
bone-edits vertices p b m e = item-edits (weight_row vertices) (p + 8) b m e

-- ---- one item at a time, without fuel

fuel : (rs : List Rule) → 0 < length rs → (f g : ℕ) (s : List ℕ) → length s ≤ f → length s ≤ g → item_edits_in f rs s ≡ item_edits_in g rs s
unfolding item_edits_in
fuel rs n zero zero s hf hg = refl
fuel rs n zero (suc g) [] hf hg = refl
fuel rs n zero (suc g) (c ∷ s) hf hg = absurd (omega arith)
fuel rs n (suc f) zero [] hf hg = refl
fuel rs n (suc f) zero (c ∷ s) hf hg = absurd (omega arith)
fuel rs n (suc f) (suc g) [] hf hg = refl
fuel rs n (suc f) (suc g) (c ∷ s) hf hg =
    let k = length-drop (4 * length rs) (c ∷ s) in
    ap (λ (l : List Edit). if (leb (4 * length rs) (length (c ∷ s))) (item_edit rs (words_of (length rs) (c ∷ s)) ∷ l) [])
    (fuel rs n f g (drop (4 * length rs) (c ∷ s)) (omega arith) (omega arith))

pub edits-none : (rs : List Rule) → item_edits rs [] ≡ []
unfolding item_edits item_edits_in
edits-none rs = refl

pub edits-cut : (rs : List Rule) (s : List ℕ) → length s < 4 * length rs → item_edits rs s ≡ []
unfolding item_edits item_edits_in
edits-cut rs [] h = refl
edits-cut rs (c ∷ s) h = if_no (leb (4 * length rs) (length (c ∷ s))) _ _ (not_T (leb (4 * length rs) (length (c ∷ s))) (λ t. let q = leb→le (4 * length rs) (length (c ∷ s)) t in omega arith))

pub edits-step : (rs : List Rule) → 0 < length rs → (s : List ℕ) → 4 * length rs ≤ length s → item_edits rs s ≡ item_edit rs (words_of (length rs) s) ∷ item_edits rs (drop (4 * length rs) s)
unfolding item_edits item_edits_in
edits-step rs n [] h = absurd (omega arith)
edits-step rs n (c ∷ s) h =
    let k = length-drop (4 * length rs) (c ∷ s) in
    if_yes (leb (4 * length rs) (length (c ∷ s))) _ _ (le→leb _ _ h)
    ∙ ap (λ (l : List Edit). item_edit rs (words_of (length rs) (c ∷ s)) ∷ l) (fuel rs n (length s) (length (drop (4 * length rs) (c ∷ s))) (drop (4 * length rs) (c ∷ s)) (omega arith) (omega arith))

-- ---- brushes

-- a brush that was mended, as it is read where its words are not looked at
record Seen (rs : List Rule) (p : ℕ) (s : List ℕ) (x : Step (Mended (Name × List ℕ))) : Type 0 where
  as_read : Step (Name × List ℕ)
  is_read : named (replicate (length rs) any) p s ≡ accept as_read
  same_place : as_read.place ≡ x.place
  same_left : as_read.left ≡ x.left
  edits_are : x.value.edits ≡ keep (write_text as_read.value.0.bytes []) ∷ word_edits rs as_read.value.1

seen : (rs : List Rule) (p : ℕ) (s : List ℕ) (x : Step (Mended (Name × List ℕ))) → mend_named rs p s ≡ accept x → Seen rs p s x
unfolding mend_named with_name named
seen rs p s x e =
    by_got (text p p s) _ e (λ n en e₁.
    by_got (words p (length rs) n.place n.left) _ e₁ (λ y ey e₂.
    by_got (mend_words rs n.place y.value) _ e₂ (λ v ev e₃.
    subst (Seen rs p s) (got_inj e₃)
    (record {
      as_read = record { value = (record { place = p; bytes = n.value }, y.value); place = y.place; left = y.left };
      is_read = rw (length-replicate (length rs) any, en, ey) (judged-any (length rs) n.place y.value _);
      same_place = refl;
      same_left = refl;
      edits_are = ap (λ (l : List Edit). keep (write_text n.value []) ∷ l) (word-edits rs n.place y.value v ev);
    }))))

brush-edits_in : (slots textures f p : ℕ) (s : List ℕ) (l : List (Mended (List Brush))) → items_in f (mend_brush slots textures) p s ≡ accept l
    → (gathered l).edits ≡ brush_edits_in f (brush_row Lenient ++ brush_ids slots textures) p s
unfolding items_in mend_brush one_brush gathered brush_edits_in brush_of
brush-edits_in slots textures zero p [] l e = ap (λ (z : List (Mended (List Brush))). (gathered z).edits) (sym (got_inj e))
brush-edits_in slots textures zero p (c ∷ s) l e = bad_got e
brush-edits_in slots textures (suc f) p [] l e = ap (λ (z : List (Mended (List Brush))). (gathered z).edits) (sym (got_inj e))
brush-edits_in slots textures (suc f) p (c ∷ s) l e =
    let rs = brush_row Lenient ++ brush_ids slots textures in
    by_got (mend_brush slots textures p (c ∷ s)) _ e (λ x ex e₁.
    by_got (items_in f (mend_brush slots textures) x.place x.left) _ e₁ (λ m em e₂.
    by_got (mend_named rs p (c ∷ s)) _ ex (λ y ey e₃.
    let z = seen rs p (c ∷ s) y ey in
    let q = sym (got_inj e₃) in
    let ep : x.place ≡ z.as_read.place = ap (λ (v : Step (Mended (List Brush))). v.place) q ∙ sym z.same_place in
    let el : x.left ≡ z.as_read.left = ap (λ (v : Step (Mended (List Brush))). v.left) q ∙ sym z.same_left in
    ap (λ (v : List (Mended (List Brush))). (gathered v).edits) (sym (got_inj e₂))
    ∙ ap₂ ◌++◌ (ap (λ (v : Step (Mended (List Brush))). v.value.edits) q ∙ z.edits_are)
    (brush-edits_in slots textures f x.place x.left m em ∙ ap₂ (brush_edits_in f rs) ep el)
    ∙ sym (ap (brush_of rs (brush_edits_in f rs)) z.is_read))))

pub brus-edits : (textures p : ℕ) (b : List ℕ) (m : Mended (ℕ × List Brush)) → mend_brushes textures p b ≡ accept m → m.edits ≡ brus_edits textures p b
unfolding mend_brushes mend_items items brus_edits brus_of
brus-edits textures p b m e =
    by_got (row brushes_head (p + 8) b) _ e (λ h eh e₁.
    by_got (mend_items (mend_brush (number h 0) textures) h.place h.left) _ e₁ (λ l el e₂.
    by_got (items_in (length h.left) (mend_brush (number h 0) textures) h.place h.left) _ el (λ k ek e₃.
    ap (λ (z : Mended (ℕ × List Brush)). z.edits) (sym (got_inj e₂))
    ∙ ap (λ (x : List Edit). keep (bytes (number h 0) []) ∷ x) (ap (λ (z : Mended (List Brush)). z.edits) (sym (got_inj e₃)) ∙ brush-edits_in (number h 0) textures (length h.left) h.place h.left k ek)
    ∙ sym (ap (brus_of textures) eh))))
