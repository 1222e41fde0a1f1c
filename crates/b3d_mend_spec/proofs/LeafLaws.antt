-- Chunks that hold items only: their mended bodies are read as what the mending read found, wherever they stand.
use mathlib.Core.Path.{◌≡◌, refl, ap, ap₂, sym, ◌∙◌, subst}
use mathlib.Core.Logic.{inl, inr}
use Prim.Native.Nat.{ℕ, zero, suc, ◌+◌, ◌<◌}
use native.Mathlib.Omega.{arith}
use mathlib.Core.List.{List, [], ◌∷◌, ◌++◌, map, append_assoc, append-nil}
use lib.ListN.{length, take, drop, get_or, take-append-drop}
use Rattle.wire.specs.Bytes.{bytes, AllBytes}
use Rattle.layout.specs.Result.{Result, accept}
use Rattle.layout.specs.Parts.{Name, Step, text, words, row, number, named, items_in, items}
use Rattle.layout.specs.Rules.{Rule}
use Rattle.layout.specs.Write.{write_words, write_text, write_items}
use Rattle.layout.proofs.WellFormedLaws.{Fits}
use Rattle.layout.proofs.AllLaws.{All}
use Rattle.layout.proofs.ResultLaws.{by_got, bad_got, got_inj}
use Rattle.layout.proofs.PartLaws.{words_append, row_back, row_fine, named-fine}
use Rattle.layout.proofs.StepLaws.{judged_got}
use Rattle.b3d_spec.specs.declared.Mode.TheVariants.{Lenient}
use Rattle.b3d_spec.specs.Encode.{write_texture, write_brush}
use Rattle.b3d_spec.specs.Names.{rename_texture, rename_brush, bare_name}
use Rattle.b3d_spec.specs.Parse.{read_texture, read_textures, read_brushes, Vertices, read_vertices, read_triangles, read_bone, read_keys, filled, read_anim}
use Rattle.b3d_spec.specs.Rules.{slots, texture_row, brush_row, brush_ids, brush_id, vertex_row, key_row, triangle_row, weight_row, brushes_head, vertices_head, triangles_head, keys_head, anim_row}
use Rattle.b3d_spec.specs.Scene.{Texture, Brush, Keys}
use Rattle.b3d_spec.proofs.Files.LeafLaws.{rows_back, rows-fine, vertex-some, key-some, textures-back, textures-fine, brushes-back, bone-back}
use Rattle.b3d_spec.proofs.WellFormedLaws.{FitBrush}
use Rattle.b3d_mend_spec.specs.Edits.{Edit, was, becomes, before, after}
use Rattle.b3d_mend_spec.specs.Mend.{Mended, mend_row, mend_named, mend_item, mend_items, as_read, one_brush, mend_brush, mend_brushes, mend_triangles, mend_bone}
use Rattle.b3d_mend_spec.proofs.EditLaws.{before-append, after-append, Small, keep-small}
use Rattle.b3d_mend_spec.proofs.ExactLaws.{words_exact, text_exact, text-append}
use Rattle.b3d_mend_spec.proofs.PartLaws.{text-read, GoodStep, row-good, named-good, item-good, items-good}

-- a body that was mended: its given bytes are these, it does not grow, and at any place it is read as the value found, name places aside
pub record Body {A : Type 0} (without_places : A → A) (read : ℕ → List ℕ → Result A) (b : List ℕ) (m : Mended A) : Type 0 where
  pub given : before m.edits ≡ b
  pub small : All Small m.edits
  pub again : (q : ℕ) → (v : A) × (read q (after m.edits) ≡ accept v) × (without_places v ≡ without_places m.value)

abbrev pub Mends : {A : Type 0} → (A → A) → (ℕ → List ℕ → Result A) → (ℕ → List ℕ → Result (Mended A)) → Type 0
Mends {A} without_places read fix = (p : ℕ) (b : List ℕ) (m : Mended A) → AllBytes b → fix p b ≡ accept m → Body without_places read b m

abbrev pub plain : {A : Type 0} → A → A
plain a = a

-- ---- read again at another place

pub row_exact : (rs : List Rule) (p : ℕ) (s : List ℕ) (x : Step (List ℕ)) → AllBytes s → row rs p s ≡ accept x → write_words x.value x.left ≡ s
unfolding row
row_exact rs p s x h e =
    by_got (words p (length rs) p s) _ e (λ y ey e₁.
    ap (λ (z : Step (List ℕ)). write_words z.value z.left) (sym (judged_got rs p y.value y x e₁)) ∙ words_exact p (length rs) p s y h ey)

pub row-again : (rs : List Rule) (p : ℕ) (s : List ℕ) (x : Step (List ℕ)) → AllBytes s → row rs p s ≡ accept x → (q : ℕ)
    → (r : ℕ) × (row rs q s ≡ accept (record { value = x.value; place = r; left = x.left }))
row-again rs p s x h e q =
    let f = row_fine rs p s x h e in
    let y = row_back rs x.value f.ok q x.left in
    (y.0, ap (row rs q) (sym (row_exact rs p s x h e)) ∙ y.1)

in_exact : {A : Type 0} (read : ℕ → List ℕ → Result (Step A)) (write : A → List ℕ → List ℕ)
    → ((p : ℕ) (s : List ℕ) (x : Step A) → AllBytes s → read p s ≡ accept x → AllBytes x.left × (write x.value x.left ≡ s))
    → (f p : ℕ) (s : List ℕ) (l : List A) → AllBytes s → items_in f read p s ≡ accept l → write_items write l ≡ s
unfolding items_in
in_exact read write one zero p [] l h e = ap (write_items write) (sym (got_inj e))
in_exact read write one zero p (c ∷ s) l h e = bad_got e
in_exact read write one (suc f) p [] l h e = ap (write_items write) (sym (got_inj e))
in_exact read write one (suc f) p (c ∷ s) l h e =
    by_got (read p (c ∷ s)) _ e (λ x ex e₁.
    by_got (items_in f read x.place x.left) _ e₁ (λ m em e₂.
    let o = one p (c ∷ s) x h ex in
    ap (write_items write) (sym (got_inj e₂)) ∙ ap (write x.value) (in_exact read write one f x.place x.left m o.0 em) ∙ o.1))

rows_exact : (rs : List Rule) (p : ℕ) (s : List ℕ) (l : List (List ℕ)) → AllBytes s → items (row rs) p s ≡ accept l → write_items write_words l ≡ s
unfolding items
rows_exact rs p s l h e = in_exact (row rs) write_words (λ p s x h e. ((row_fine rs p s x h e).bytes, row_exact rs p s x h e)) (length s) p s l h e

pub rows-again : (rs : List Rule) → 0 < length rs → (p : ℕ) (s : List ℕ) (l : List (List ℕ)) → AllBytes s → items (row rs) p s ≡ accept l → (q : ℕ) → items (row rs) q s ≡ accept l
rows-again rs n p s l h e q = ap (items (row rs) q) (sym (rows_exact rs p s l h e)) ∙ rows_back rs n l (rows-fine rs n p s l h e).0 q

pub named_exact : (rs : List Rule) (p : ℕ) (s : List ℕ) (x : Step (Name × List ℕ)) → AllBytes s → named rs p s ≡ accept x → write_text x.value.0.bytes (write_words x.value.1 x.left) ≡ s
unfolding named
named_exact rs p s x h e =
    by_got (text p p s) _ e (λ n en e₁.
    by_got (words p (length rs) n.place n.left) _ e₁ (λ y ey e₂.
    ap (λ (z : Step (Name × List ℕ)). write_text z.value.0.bytes (write_words z.value.1 z.left)) (sym (judged_got rs n.place y.value _ x e₂))
    ∙ ap (write_text n.value) (words_exact p (length rs) n.place n.left y (text-read p p s n h en).bytes ey) ∙ text_exact p p s n en))

-- ---- chunks with nothing to mend

as_read_mends : {A : Type 0} (without_places : A → A) (read : ℕ → List ℕ → Result A)
    → ((p : ℕ) (b : List ℕ) (v : A) → AllBytes b → read p b ≡ accept v → (q : ℕ) → (u : A) × (read q b ≡ accept u) × (without_places u ≡ without_places v)) → Mends without_places read (as_read read)
unfolding as_read before after was becomes
as_read_mends {A} without_places read again p b m h e =
    by_got (read p b) _ e (λ v ev e₁.
    subst (Body without_places read b) (got_inj e₁)
    (record {
      given = append-nil b;
      small = (keep-small b, tt);
      again = λ q. let x = again p b v h ev q in (x.0, ap (read q) (append-nil b) ∙ x.1, x.2);
    }))

abbrev pub bare_textures : List Texture → List Texture
bare_textures l = map (rename_texture bare_name) l

textures_exact : (p : ℕ) (b : List ℕ) (l : List Texture) → AllBytes b → read_textures p b ≡ accept l → write_items write_texture l ≡ b
unfolding read_textures items read_texture
textures_exact p b l h e =
    in_exact read_texture write_texture
    (λ p s x h e. by_got (named texture_row p s) _ e (λ y ey e₁.
    subst (λ (z : Step Texture). AllBytes z.left × (write_texture z.value z.left ≡ s)) (got_inj e₁) ((named-fine texture_row p s y h ey).bytes, named_exact texture_row p s y h ey)))
    (length b) (p + 8) b l h e

pub textures-mend : Mends bare_textures read_textures (as_read read_textures)
textures-mend = as_read_mends bare_textures read_textures (λ p b v h e q.
    let x = textures-back v (textures-fine p b v h e).0 q in
    (x.0, ap (read_textures q) (sym (textures_exact p b v h e)) ∙ x.1, x.2))

pub vertices-mend : Mends plain (read_vertices Lenient) (as_read (read_vertices Lenient))
unfolding read_vertices
vertices-mend = as_read_mends plain (read_vertices Lenient) again
  where
    again : (p : ℕ) (b : List ℕ) (v : Vertices) → AllBytes b → read_vertices Lenient p b ≡ accept v → (q : ℕ) → (u : Vertices) × (read_vertices Lenient q b ≡ accept u) × (u ≡ v)
    again p b v h e q =
        by_got (row vertices_head (p + 8) b) _ e (λ x ex e₁.
        let rs = vertex_row Lenient (number x 0) (number x 1) (number x 2) in
        by_got (items (row rs) x.place x.left) _ e₁ (λ l el e₂.
        let y = row-again vertices_head (p + 8) b x h ex (q + 8) in
        let z = rows-again rs (vertex-some _ _ _) x.place x.left l (row_fine vertices_head (p + 8) b x h ex).bytes el y.0 in
        (v, rw (y.1, z) e₂, refl)))

pub keys-mend : Mends plain read_keys (as_read read_keys)
unfolding read_keys
keys-mend = as_read_mends plain read_keys again
  where
    again : (p : ℕ) (b : List ℕ) (v : Keys) → AllBytes b → read_keys p b ≡ accept v → (q : ℕ) → (u : Keys) × (read_keys q b ≡ accept u) × (u ≡ v)
    again p b v h e q =
        by_got (row keys_head (p + 8) b) _ e (λ x ex e₁.
        let rs = key_row (number x 0) in
        by_got (items (row rs) x.place x.left) _ e₁ (λ l el e₂.
        let y = row-again keys_head (p + 8) b x h ex (q + 8) in
        let z = rows-again rs (key-some _) x.place x.left l (row_fine keys_head (p + 8) b x h ex).bytes el y.0 in
        (v, rw (y.1, z) e₂, refl)))

filled-again : (p q : ℕ) (s ws v : List ℕ) → filled p s ws ≡ accept v → filled q s ws ≡ accept v
unfolding filled
filled-again p q [] ws v e = e
filled-again p q (c ∷ s) ws v e = bad_got e

pub anim-mend : Mends plain read_anim (as_read read_anim)
unfolding read_anim
anim-mend = as_read_mends plain read_anim again
  where
    again : (p : ℕ) (b : List ℕ) (v : List ℕ) → AllBytes b → read_anim p b ≡ accept v → (q : ℕ) → (u : List ℕ) × (read_anim q b ≡ accept u) × (u ≡ v)
    again p b v h e q =
        by_got (row anim_row (p + 8) b) _ e (λ x ex e₁.
        let y = row-again anim_row (p + 8) b x h ex (q + 8) in
        (v, rw y.1 (filled-again (p + 8) (q + 8) x.left x.value v e₁), refl))

-- ---- TRIS and BONE

pub one_is : (r : Rule) (ws : List ℕ) → Fits (r ∷ []) ws → Fits (r ∷ []) (get_or ws 0 0 ∷ []) × (write_words ws [] ≡ bytes (get_or ws 0 0) [])
one_is r [] h = absurd h
one_is r (w ∷ []) h = (h, refl)
one_is r (w ∷ v ∷ ws) h = absurd h.2

pub triangles-mend : (brushes vertices : ℕ) → Mends plain (read_triangles brushes vertices) (mend_triangles brushes vertices)
unfolding mend_triangles read_triangles
triangles-mend brushes vertices p b m h e =
    by_got (mend_row (triangles_head brushes) (p + 8) b) _ e (λ x ex e₁.
    by_got (mend_items (mend_item (triangle_row vertices)) x.place x.left) _ e₁ (λ l el e₂.
    let g = row-good (triangles_head brushes) (p + 8) b x h ex in
    let k = items-good (Fits (triangle_row vertices)) write_words words_append (mend_item (triangle_row vertices)) (item-good (triangle_row vertices) (inl refl)) x.place x.left l g.bytes el in
    let o = one_is (brush_id brushes) x.value.value g.ok in
    let w = get_or x.value.value 0 0 in
    let new : after (x.value.edits ++ l.edits) ≡ write_words (w ∷ []) (write_items write_words l.value) =
    after-append x.value.edits l.edits ∙ ap₂ ◌++◌ (g.mended ∙ o.1) k.mended in
    subst (Body plain (read_triangles brushes vertices) b) (got_inj e₂)
    (record {
      given = before-append x.value.edits l.edits ∙ ap (λ (r : List ℕ). before x.value.edits ++ r) k.given ∙ g.given;
      small = all_both x.value.edits l.edits g.small k.small;
      again = λ q.
          let y = row_back (triangles_head brushes) (w ∷ []) o.0 (q + 8) (write_items write_words l.value) in
          (record { brush = w; triangles = l.value }, rw (new, y.1, rows_back (triangle_row vertices) (omega arith) l.value k.ok y.0), refl);
    })))
  where
    all_both : (x y : List Edit) → All Small x → All Small y → All Small (x ++ y)
    all_both [] y h k = k
    all_both (e ∷ x) y h k = (h.0, all_both x y h.1 k)

pub bone-mend : (vertices : ℕ) → Mends plain (read_bone vertices) (mend_bone vertices)
unfolding mend_bone
bone-mend vertices p b m h e =
    let k = items-good (Fits (weight_row vertices)) write_words words_append (mend_item (weight_row vertices)) (item-good (weight_row vertices) (inr refl)) (p + 8) b m h e in
    record { given = k.given; small = k.small; again = λ q. (m.value, ap (read_bone vertices q) k.mended ∙ bone-back vertices m.value k.ok q, refl) }

-- ---- BRUS

fits-split : (rs qs : List Rule) (ws : List ℕ) → Fits (rs ++ qs) ws → Fits rs (take (length rs) ws) × Fits qs (drop (length rs) ws)
fits-split [] qs ws h = (tt, h)
fits-split (r ∷ rs) qs [] h = absurd h
fits-split (r ∷ rs) qs (w ∷ ws) h = let x = fits-split rs qs ws h.2 in ((h.0, h.1, x.0), x.1)

words_two : (ws vs r : List ℕ) → write_words (ws ++ vs) r ≡ write_words ws (write_words vs r)
words_two [] vs r = refl
words_two (w ∷ ws) vs r = ap (bytes w) (words_two ws vs r)

brush_joins : (x : Brush) (r : List ℕ) → write_brush x r ≡ write_brush x [] ++ r
brush_joins x r =
    ap (write_text x.name.bytes) (ap (write_words x.words) (words_append x.ids r) ∙ words_append x.words (write_words x.ids [] ++ r)
    ∙ sym (append_assoc (write_words x.words []) (write_words x.ids []) r) ∙ ap (λ (l : List ℕ). l ++ r) (sym (words_append x.words (write_words x.ids []))))
    ∙ text-append x.name.bytes (write_words x.words (write_words x.ids []) ++ r)
    ∙ sym (append_assoc (write_text x.name.bytes []) (write_words x.words (write_words x.ids [])) r)
    ∙ ap (λ (l : List ℕ). l ++ r) (sym (text-append x.name.bytes (write_words x.words (write_words x.ids []))))

brush-good : (n textures p : ℕ) (s : List ℕ) (x : Step (Mended (List Brush))) → AllBytes s → mend_brush n textures p s ≡ accept x → GoodStep (All (FitBrush n textures)) (write_items write_brush) s x
unfolding mend_brush one_brush
brush-good n textures p s x h e =
    by_got (mend_named (brush_row Lenient ++ brush_ids n textures) p s) _ e (λ y ey e₁.
    let g = named-good (brush_row Lenient ++ brush_ids n textures) p s y h ey in
    let ws = y.value.value.1 in
    let k = fits-split (brush_row Lenient) (brush_ids n textures) ws g.ok.1 in
    subst (GoodStep (All (FitBrush n textures)) (write_items write_brush) s) (got_inj e₁)
    (record {
      ok = ((g.ok.0, k.0, k.1), tt);
      given = g.given;
      mended = g.mended ∙ ap (write_text y.value.value.0.bytes) (ap (λ (v : List ℕ). write_words v []) (sym (take-append-drop 7 ws)) ∙ words_two (take 7 ws) (drop 7 ws) []);
      small = g.small;
      bytes = g.bytes;
    }))

abbrev pub bare_brushes : ℕ × List Brush → ℕ × List Brush
bare_brushes x = (x.0, map (rename_brush bare_name) x.1)

pub brushes-mend : (textures : ℕ) → Mends bare_brushes (read_brushes Lenient textures) (mend_brushes textures)
unfolding mend_brushes before after was becomes
brushes-mend textures p b m h e =
    by_got (row brushes_head (p + 8) b) _ e (λ x ex e₁.
    let n = number x 0 in
    by_got (mend_items (mend_brush n textures) x.place x.left) _ e₁ (λ l el e₂.
    let f = row_fine brushes_head (p + 8) b x h ex in
    let o = one_is slots x.value f.ok in
    let k = items-good (FitBrush n textures) write_brush brush_joins (mend_brush n textures) (brush-good n textures) x.place x.left l f.bytes el in
    subst (Body bare_brushes (read_brushes Lenient textures) b) (got_inj e₂)
    (record {
      given = ap (λ (r : List ℕ). bytes n [] ++ r) k.given ∙ ap (λ (r : List ℕ). r ++ x.left) (sym o.1) ∙ sym (words_append x.value x.left) ∙ row_exact brushes_head (p + 8) b x h ex;
      small = (keep-small _, k.small);
      again = λ q.
          let y = brushes-back n textures l.value o.0 k.ok q in
          ((n, y.0), ap (λ (r : List ℕ). read_brushes Lenient textures q (bytes n [] ++ r)) k.mended ∙ y.1, ap (λ (z : List Brush). (n, z)) y.2);
    })))
