-- The mender beside the faults: it refuses at the first of another kind than the four, and the entries of its edits are of those that it passed.
use mathlib.Core.Logic.{inl, inr}
use mathlib.Core.Path.{◌≡◌, refl, ap, ap₂, sym, ◌∙◌, subst}
use Prim.Native.Nat.{ℕ, zero, suc, ◌+◌, ◌*◌, ◌≤◌}
use native.Mathlib.Omega.{arith}
use mathlib.Core.Bool.{Bool, true, false, ◌&&◌}
use mathlib.Core.Option.{Option, none}
use mathlib.Core.List.{List, [], ◌∷◌, ◌++◌, append-nil}
use lib.ListN.{length, length-append}
use lib.Dec.{eqb}
use Rattle.wire.specs.Bytes.{bytes}
use Rattle.wire.specs.Test.{if}
use Rattle.layout.specs.Chunks.{done, ended}
use Rattle.layout.specs.Result.{Result, accept, reject, check, ◌>>=◌ as ◌>>>◌}
use Rattle.layout.specs.Parts.{Name, Step, text, words, row, number, named, items}
use Rattle.layout.specs.Rows.{size_fits}
use Rattle.layout.specs.Rules.{Rule, any, up_to, exactly, names, names_or_none, unit, NONE, holds, refusal}
use Rattle.layout.specs.Write.{write_words, write_text}
use Rattle.layout.proofs.HeldLaws.{words_count}
use Rattle.layout.proofs.ResultLaws.{by_got, bad_got}
use Rattle.layout.proofs.PartLaws.{length-words, length-text}
use Rattle.layout.proofs.StepLaws.{judged_got}
use Rattle.b3d_spec.specs.declared.Mode.TheVariants.{Lenient}
use Rattle.b3d_spec.specs.declared.Tag.{Tag}
use Rattle.b3d_spec.specs.declared.Tag.TheVariants.{BB3D, TEXS, BRUS, NODE, MESH, VRTS, BONE, KEYS, ANIM}
use Rattle.b3d_spec.specs.Nesting.{start, order}
use Rattle.b3d_spec.specs.Parse.{read_textures, Vertices, no_vertices, read_vertices, read_keys, read_anim, Inner}
use Rattle.b3d_spec.specs.Rules.{brush_row, brush_ids, node_row, triangle_row, weight_row, animated, bone_limit, bone_limit_from, bone_limit_below, levels, header, file_head, brushes_head, mesh_head, triangles_head}
use Rattle.b3d_spec.specs.Scene.{Texture, Brush, TriangleSet, Mesh, mesh, bone, Anim, no_anim, anim, Forest, no_nodes, Scene}
use Rattle.b3d_spec.specs.Tags.{code, is, Chunks}
use Rattle.b3d_rule_refusal_places.proofs.FixedDataLaws.{text-onward, words-onward, named-onward, words-to}
use Rattle.b3d_mend_spec.specs.Edits.{Edit, keep, follow, mend, after, file_length, id_set}
use Rattle.b3d_mend_spec.specs.Mend.{Mended, may_be_none, mend_word, and_words, mend_words, mend_row, with_name, mend_named, all_hold, stays, mend_item, gathered, mend_items, as_read, one_brush, mend_brush, mend_brushes, mend_triangles, mend_bone, Taken, found, mend_one, mend_sets, mesh_of, mend_mesh, mend_kind, with_keys, with_anim, mend_moves, mend_nodes, data_of, mend_node, mend_root, mend_body, mend_file}
use Rattle.b3d_mend_spec.specs.Pieces.{pieces, chunks_of, woven}
use Rattle.b3d_mend_spec.proofs.ExactLaws.{text_exact}
use Rattle.b3d_mend_spec.proofs.FileTagLaws.{file-end}
use Rattle.b3d_mend_faults.specs.Faults.{Fault, mendable, FaultReading, gives, ends, passes, ◌>>=◌, plainly, number_fault, item_fault, number_faults, row_faults, brush_faults, item_faults, texture_faults, brushes_faults, vertex_faults, triangle_faults, bone_faults, ChunkFaults, finished, refused, spare_at, chunk_at, within, FoundPart, part, one_faults, set_faults, mesh_faults, kind_faults, move_faults, nodes_faults, node_faults, end_faults, body_faults, length_fault, file_faults}
use Rattle.b3d_mend_faults.specs.ReportTells.{bad_ids, Fixes}
use Rattle.b3d_mend_faults.proofs.AgreeLaws.{Agrees, Any, bind_agrees, more_agrees, both_agrees, weak_agrees, same_agrees, if_agrees, moved, At}
use Rattle.b3d_mend_faults.proofs.SharedLaws.{row_words, items_agree, Own, Moving, seen, chunks_seen, end_agrees}
use Rattle.b3d_mend_faults.proofs.ReportTellsLaws.{Made, made_append, made_none, keep_made, follow_made, mend_made, Told, within_made}

-- ---- numbers

-- the number w that stays
stay : (p w : ℕ) → Made p (p + 4) (keep (bytes w []) ∷ []) []
stay p w = keep_made p (p + 4) (bytes w []) refl

word-mend : (r : Rule) (p w : ℕ) → Agrees true (λ (l : List Fault) (u : Unit {0}) (v : Mended ℕ). Made p (p + 4) v.edits l) (number_fault r p w) (mend_word r p w)
unfolding number_fault mend_word if
word-mend r p w = if_agrees true _ (holds r w) _ _ _ _ (stay p w) (broken r)
  where
    broken : (r : Rule) → Agrees true (λ (l : List Fault) (u : Unit {0}) (v : Mended ℕ). Made p (p + 4) v.edits l) (if (may_be_none r) (passes 2 (refusal r) p (gives tt)) (ends (refusal r) p))
        (if (may_be_none r) (accept (record { value = NONE; edits = id_set w NONE ∷ [] })) (reject (refusal r) p))
    broken any = refl
    broken (up_to m) = refl
    broken (exactly m) = refl
    broken (names n) = refl
    broken (names_or_none n) = mend_made p (p + 4) 2 (bytes w []) (bytes NONE []) (mendable 2 7 p ∷ []) refl (inr (inl (refl, refl)))
    broken unit = refl

words-mend : {A : Type 0} (rs : List Rule) (p q : ℕ) (ws : List ℕ) (a : A) → length ws ≡ length rs → q ≡ p + 4 * length rs
    → Agrees true (λ (l : List Fault) (x : A) (v : Mended (List ℕ)). (x ≡ a) × Made p q v.edits l) (number_faults number_fault rs p ws a) (mend_words rs p ws)
unfolding number_faults mend_words and_words
words-mend [] p q ws a n e = (refl, made_none p q (omega arith))
words-mend (r ∷ rs) p q [] a n e = absurd (omega arith)
words-mend (r ∷ rs) p q (w ∷ ws) a n e =
    bind_agrees true _ _ (number_fault r p w) (mend_word r p w) _ _ (word-mend r p w) (λ l u v h.
    more_agrees true (λ g x y. (x ≡ a) × Made (p + 4) q y.edits g) _ (number_faults number_fault rs (p + 4) ws a) (mend_words rs (p + 4) ws) (and_words v)
    (words-mend rs (p + 4) q ws a (omega arith) (omega arith)) (λ g x y k. (k.0, made_append p (p + 4) q v.edits y.edits l g h k.1)))

-- a step from place p of the bytes s whose edits are of the faults l
abbrev Stepped : {A : Type 0} → ℕ → List ℕ → List Fault → Step (Mended A) → Type 0
Stepped p s l y = Made p y.place y.value.edits l × (y.place + length y.left ≡ p + length s)

same_at : {A B : Type 0} (l : List Fault) (z x : Step A) (v : B) → z ≡ x → At l z (record { value = v; place = x.place; left = x.left })
same_at {A} l z x v e = (ap (λ (u : Step A). u.place) (sym e), ap (λ (u : Step A). u.left) (sym e))

row-mend : (rs : List Rule) (p : ℕ) (s : List ℕ) → Agrees true (λ (l : List Fault) (x : Step (List ℕ)) (y : Step (Mended (List ℕ))). At l x y × Stepped p s l y) (row_faults number_fault rs p s) (mend_row rs p s)
unfolding row_faults mend_row
row-mend rs p s =
    same_agrees true _ (words p (length rs) p s) _ _ (λ x ex.
    more_agrees true (λ (l : List Fault) (z : Step (List ℕ)) (v : Mended (List ℕ)). (z ≡ x) × Made p x.place v.edits l) _ (number_faults number_fault rs p x.value x) (mend_words rs p x.value) _
    (words-mend rs p x.place x.value x (words_count p (length rs) p s x ex) (words-to p (length rs) p s x ex)) (λ l z v h.
    (same_at l z x v h.0, (h.1, (words-onward p (length rs) p s x ex).same))))

-- a text stays
text_made : (p : ℕ) (s : List ℕ) (n : Step (List ℕ)) → text p p s ≡ accept n → Made p n.place (keep (write_text n.value []) ∷ []) []
text_made p s n e =
    let w : length (write_text n.value n.left) ≡ length s = ap (λ (z : List ℕ). length z) (text_exact p p s n e) in
    keep_made p n.place (write_text n.value []) (omega (arith, length-text n.value [], length-text n.value n.left, w, (text-onward p p s n e).same))

named-mend : (rs : List Rule) (p : ℕ) (s : List ℕ)
    → Agrees true (λ (l : List Fault) (x : Step (List ℕ)) (y : Step (Mended (Name × List ℕ))). At l x y × Stepped p s l y) (brush_faults rs p s) (mend_named rs p s)
unfolding brush_faults mend_named with_name
named-mend rs p s =
    same_agrees true _ (text p p s) _ _ (λ n en.
    same_agrees true _ (words p (length rs) n.place n.left) _ _ (λ x ex.
    more_agrees true (λ (l : List Fault) (z : Step (List ℕ)) (v : Mended (List ℕ)). (z ≡ x) × Made n.place x.place v.edits l) _ (number_faults number_fault rs n.place x.value x) (mend_words rs n.place x.value) _
    (words-mend rs n.place x.place x.value x (words_count p (length rs) n.place n.left x ex) (words-to p (length rs) n.place n.left x ex)) (λ l z v h. (
      same_at l z x (with_name p n.value v) h.0,
      (
        made_append p n.place x.place (keep (write_text n.value []) ∷ []) v.edits [] l (text_made p s n en) h.1,
        omega (arith, (text-onward p p s n en).same, (words-onward p (length rs) n.place n.left x ex).same),
      ),
    ))))

-- ---- triangles and weights

-- the faults of the words of an item
abbrev item_list : List Rule → ℕ → List ℕ → List Fault
item_list [] p ws = []
item_list (r ∷ rs) p [] = []
item_list (r ∷ rs) p (w ∷ ws) = if (holds r w) (item_list rs (p + 4) ws) (mendable 3 (refusal r) p ∷ item_list rs (p + 4) ws)

ids-mend : {A B : Type 0} (R : List Fault → A → B → Type 0) (rs : List Rule) (p : ℕ) (ws : List ℕ) (a : A) (b : B) → R (item_list rs p ws) a b → Agrees true R (number_faults item_fault rs p ws a) (accept b)
unfolding number_faults item_fault if
ids-mend R [] p ws a b h = h
ids-mend R (r ∷ rs) p [] a b h = h
ids-mend {A} {B} R (r ∷ rs) p (w ∷ ws) a b h = go (holds r w) (λ S k. ids-mend S rs (p + 4) ws a b k) h
  where
    go : (c : Bool) → ((S : List Fault → A → B → Type 0) → S (item_list rs (p + 4) ws) a b → Agrees true S (number_faults item_fault rs (p + 4) ws a) (accept b)) → R (if c (item_list rs (p + 4) ws) (mendable 3 (refusal r) p ∷ item_list rs (p + 4) ws)) a b
        → Agrees true R (if c (gives tt) (passes 3 (refusal r) p (gives tt)) >>= λ (u : Unit {0}). number_faults item_fault rs (p + 4) ws a) (accept b)
    go true on h = on R h
    go false on h = on (λ l. R (mendable 3 (refusal r) p ∷ l)) h

-- no fault where all words keep their rules, else one or more
abbrev Counted : Bool → List Fault → Type 0
Counted true l = l ≡ []
Counted false l = 1 ≤ length l

counted : (rs : List Rule) (p : ℕ) (ws : List ℕ) → Counted (all_hold rs ws) (item_list rs p ws)
unfolding all_hold if
counted [] p ws = refl
counted (r ∷ rs) p [] = refl
counted (r ∷ rs) p (w ∷ ws) = go (holds r w) (all_hold rs ws) (counted rs (p + 4) ws)
  where
    go : (c d : Bool) → Counted d (item_list rs (p + 4) ws) → Counted (c && d) (if c (item_list rs (p + 4) ws) (mendable 3 (refusal r) p ∷ item_list rs (p + 4) ws))
    go true d h = h
    go false d h = omega arith

-- an item of these rules that is taken out has an entry of all its faults
abbrev Item : List Rule → Type 0
Item rs = (p : ℕ) (ws : List ℕ) → length ws ≡ length rs → 1 ≤ length (item_list rs p ws) → Fixes (record { place = p; which = 3; before = write_words ws []; after = [] }) (item_list rs p ws)

triangle-item : (n : ℕ) → Item (triangle_row n)
unfolding bad_ids if
triangle-item n p [] e h = absurd (omega arith)
triangle-item n p (a ∷ []) e h = absurd (omega arith)
triangle-item n p (a ∷ b ∷ []) e h = absurd (omega arith)
triangle-item n p (a ∷ b ∷ c ∷ []) e h =
    inr (inr (inl (record { kind = refl; vertices = n; ids = a ∷ b ∷ c ∷ []; behind = []; item = refl; long = inl (refl, refl); bad = refl; some = h })))
triangle-item n p (a ∷ b ∷ c ∷ d ∷ ws) e h = absurd (omega arith)

weight-item : (n : ℕ) → Item (weight_row n)
unfolding bad_ids if
weight-item n p [] e h = absurd (omega arith)
weight-item n p (a ∷ []) e h = absurd (omega arith)
weight-item n p (a ∷ b ∷ []) e h =
    inr (inr (inl (record { kind = refl; vertices = n; ids = a ∷ []; behind = bytes b []; item = refl; long = inr (refl, refl); bad = refl; some = h })))
weight-item n p (a ∷ b ∷ c ∷ ws) e h = absurd (omega arith)

module _ (rs : List Rule) (ok : Item rs) where
  stays_made : (p q : ℕ) (ws : List ℕ) → length ws ≡ length rs → q ≡ p + 4 * length rs → (c : Bool) → Counted c (item_list rs p ws) → Made p q (stays c ws).edits (item_list rs p ws)
  unfolding stays
  stays_made p q ws n e true h = subst (Made p q (keep (write_words ws []) ∷ [])) (sym h) (keep_made p q (write_words ws []) (omega (arith, length-words ws [])))
  stays_made p q ws n e false h = mend_made p q 3 (write_words ws []) [] (item_list rs p ws) (omega (arith, length-words ws [])) (ok p ws n h)

  item-mend : (p : ℕ) (s : List ℕ) → Agrees true (λ (l : List Fault) (x : Step (List ℕ)) (y : Step (Mended (List (List ℕ)))). At l x y × Stepped p s l y) (row_faults item_fault rs p s) (mend_item rs p s)
  unfolding row_faults mend_item
  item-mend p s =
      same_agrees true _ (words p (length rs) p s) _ _ (λ x ex. ids-mend _ rs p x.value x _ (
        (refl, refl),
        (stays_made p x.place x.value (words_count p (length rs) p s x ex) (words-to p (length rs) p s x ex) (all_hold rs x.value) (counted rs p x.value), (words-onward p (length rs) p s x ex).same),
      ))

-- ---- chunks that hold items only

-- items, of each of which E holds, and N of all their values
module _ {A B : Type 0} (item : ℕ → List ℕ → FaultReading (Step A)) (fix : ℕ → List ℕ → Result (Step (Mended (List B)))) (E : List B → Type 0) (N : ℕ → List B → Type 0) (N-none : N 0 [])
    (N-more : (n : ℕ) (u v : List B) → E u → N n v → N (suc n) (u ++ v))
    (one : (p : ℕ) (s : List ℕ) → Agrees true (λ (l : List Fault) (x : Step A) (y : Step (Mended (List B))). At l x y × (Stepped p s l y × E y.value.value)) (item p s) (fix p s)) where
  items-mend : (p : ℕ) (s : List ℕ) → Agrees true (λ (l : List Fault) (n : ℕ) (m : Mended (List B)). Made p (p + length s) m.edits l × N n m.value) (item_faults item p s) (mend_items fix p s)
  unfolding mend_items gathered
  items-mend p s =
      more_agrees true (λ (l : List Fault) (n : ℕ) (bs : List (Mended (List B))). Made p (p + length s) (gathered bs).edits l × N n (gathered bs).value) _ (item_faults item p s) (items fix p s) gathered
      (items_agree true item fix (λ p s l y. Stepped p s l y × E y.value.value) (λ p s l n bs. Made p (p + length s) (gathered bs).edits l × N n (gathered bs).value)
      (λ p. (made_none p (p + 0) (omega arith), N-none))
      (λ p s f g y n bs h k. (
        made_append p y.place (p + length s) y.value.edits (gathered bs).edits f g h.0.0 (subst (λ (z : ℕ). Made y.place z (gathered bs).edits g) h.0.1 k.0),
        N-more n y.value.value (gathered bs).value h.1 k.1,
      )) one p s) (λ l n bs h. h)

-- the edits of the body b of the chunk whose header is at p are of the faults l
abbrev Body : {A : Type 0} → ℕ → List ℕ → List Fault → Mended A → Type 0
Body p b l m = Made (p + 8) (p + 8 + length b) m.edits l

-- a chunk with nothing to mend, of which `f` is kept
module _ {A C : Type 0} (read : ℕ → List ℕ → Result A) (f : A → C) where
  as-read-mend : (p : ℕ) (b : List ℕ) → Agrees true (λ (l : List Fault) (c : C) (m : Mended A). (c ≡ f m.value) × Body p b l m) (plainly (read p b) >>= λ a. gives (f a)) (as_read read p b)
  unfolding as_read
  as-read-mend p b = same_agrees true _ (read p b) _ _ (λ v e. (refl, keep_made (p + 8) (p + 8 + length b) b refl))

-- n textures, n vertices, n brushes
abbrev Textures : ℕ → List Texture → Type 0
Textures n v = n ≡ length v

abbrev Vertexes : ℕ → Vertices → Type 0
Vertexes n v = n ≡ length v.items

abbrev Brushes : ℕ → ℕ × List Brush → Type 0
Brushes n v = n ≡ length v.1

-- R of a value, and the edits are of the faults
abbrev Fixed : {A B : Type 0} → (A → B → Type 0) → ℕ → List ℕ → List Fault → A → Mended B → Type 0
Fixed R p b l a m = R a m.value × Body p b l m

textures-mend : (p : ℕ) (b : List ℕ) → Agrees true (Fixed Textures p b) (texture_faults p b) (as_read read_textures p b)
unfolding texture_faults
textures-mend p b = as-read-mend read_textures (λ l. length l) p b

vertices-mend : (p : ℕ) (b : List ℕ) → Agrees true (Fixed Vertexes p b) (vertex_faults p b) (as_read (read_vertices Lenient) p b)
unfolding vertex_faults
vertices-mend p b = as-read-mend (read_vertices Lenient) (λ (v : Vertices). length v.items) p b

brushes-mend : (textures p : ℕ) (b : List ℕ) → Agrees true (Fixed Brushes p b) (brushes_faults textures p b) (mend_brushes textures p b)
unfolding brushes_faults mend_brushes mend_brush one_brush
brushes-mend textures p b =
    same_agrees true _ (row brushes_head (p + 8) b) _ _ (λ h eh.
    let ew = row_words brushes_head (p + 8) b h eh in
    let rs = brush_row Lenient ++ brush_ids (number h 0) textures in
    more_agrees true (λ (l : List Fault) (n : ℕ) (m : Mended (List Brush)). Made h.place (h.place + length h.left) m.edits l × (n ≡ length m.value)) _
    (item_faults (brush_faults rs) h.place h.left) (mend_items (mend_brush (number h 0) textures) h.place h.left) _
    (items-mend (brush_faults rs) (mend_brush (number h 0) textures) (λ v. length v ≡ 1) (λ n v. n ≡ length v) refl (λ n u v e k. omega (arith, length-append u v))
    (λ q s. more_agrees true _ _ (brush_faults rs q s) (mend_named rs q s) one_brush (named-mend rs q s) (λ l x y k. (k.0, (k.1, refl)))) h.place h.left)
    (λ l n m k. (
      k.1,
      made_append (p + 8) h.place (p + 8 + length b) (keep (bytes (number h 0) []) ∷ []) m.edits [] l
          (keep_made (p + 8) h.place (bytes (number h 0) []) (sym (words-to (p + 8) 1 (p + 8) b h ew)))
          (subst (λ (z : ℕ). Made h.place z m.edits l) (words-onward (p + 8) 1 (p + 8) b h ew).same k.0),
    )))

-- items that may be taken out
abbrev Whatever : {A : Type 0} → A → Type 0
Whatever a = Unit {0}

module _ (rs : List Rule) (ok : Item rs) where
  outs_mend : (p : ℕ) (s : List ℕ) → Agrees true (λ (l : List Fault) (n : ℕ) (m : Mended (List (List ℕ))). Made p (p + length s) m.edits l) (item_faults (row_faults item_fault rs) p s) (mend_items (mend_item rs) p s)
  outs_mend p s =
      weak_agrees true _ _ (item_faults (row_faults item_fault rs) p s) (mend_items (mend_item rs) p s)
      (items-mend (row_faults item_fault rs) (mend_item rs) Whatever (λ n. Whatever) tt (λ n u v e k. tt)
      (λ q t. weak_agrees true _ _ (row_faults item_fault rs q t) (mend_item rs q t) (item-mend rs ok q t) (λ l x y e h. (h.0, (h.1, tt)))) p s) (λ l n m e h. h.0)

triangles-mend : (brushes vertices p : ℕ) (b : List ℕ) → Agrees true (λ (l : List Fault) (n : ℕ) (m : Mended TriangleSet). Body p b l m) (triangle_faults brushes vertices p b) (mend_triangles brushes vertices p b)
unfolding triangle_faults mend_triangles
triangles-mend brushes vertices p b =
    bind_agrees true _ _ (row_faults number_fault (triangles_head brushes) (p + 8) b) (mend_row (triangles_head brushes) (p + 8) b) _ _ (row-mend (triangles_head brushes) (p + 8) b) (λ l x y h.
    let m = item_faults (row_faults item_fault (triangle_row vertices)) x.place x.left in
    let R : List Fault → ℕ → Mended (List (List ℕ)) → Type 0 = λ g n z. Made y.place (p + 8 + length b) z.edits g in
    more_agrees true R _ m (mend_items (mend_item (triangle_row vertices)) y.place y.left) _
    (moved true R m (mend_items (mend_item (triangle_row vertices))) x.place y.place x.left y.left h.0.0 h.0.1
    (weak_agrees true _ R m (mend_items (mend_item (triangle_row vertices)) x.place x.left) (outs_mend (triangle_row vertices) (triangle-item vertices) x.place x.left)
    (λ g n z e k.
    let last : x.place + length x.left ≡ p + 8 + length b = ap₂ (λ (i : ℕ) (t : List ℕ). i + length t) (sym h.0.0) (sym h.0.1) ∙ h.1.1 in
    subst (λ (i : ℕ). Made i (p + 8 + length b) z.edits g) (sym h.0.0) (subst (λ (i : ℕ). Made x.place i z.edits g) last k))))
    (λ g n z k. made_append (p + 8) y.place (p + 8 + length b) y.value.edits z.edits l g h.1.0 k))

bone-mend : (vertices p : ℕ) (b : List ℕ) → Agrees true (λ (l : List Fault) (n : ℕ) (m : Mended (List (List ℕ))). Body p b l m) (bone_faults vertices p b) (mend_bone vertices p b)
unfolding bone_faults mend_bone
bone-mend vertices p b = outs_mend (weight_row vertices) (weight-item vertices) (p + 8) b

-- ---- chunks among others

-- from the chunks w a value was taken and the chunks after it are left: its edits and those of what is left are of all the faults
abbrev Staged : {A B : Type 0} → (A → B → Type 0) → ChunkFaults → List Fault → FoundPart A → Taken B → Type 0
Staged R w l x y =
    R x.value y.value × ((y.rest ≡ seen true x.rest) × ((ys : List (List Edit)) (g : List Fault) → Told x.rest ys g → Told w (y.bodies ++ ys) (l ++ g)))

module _ {A B : Type 0} (R : A → B → Type 0) where
  -- behind spare bytes
  spare_staged : (p : ℕ) (w : ChunkFaults) (m : FaultReading (FoundPart A)) (o : Result (Taken B)) → Agrees true (Staged R w) m o → Agrees true (λ l. Staged R (spare_at p w) (mendable 4 3 p ∷ l)) m o
  spare_staged p w m o h = weak_agrees true _ _ m o h (λ l x y e k. (k.0, (k.1.0, λ ys g t. (l ++ g, refl, k.1.1 ys g t))))

  -- a chunk, mended as `fix` does
  chunk_staged : {C D : Type 0} (S : C → D → Type 0) (t : Tag) (p : ℕ) (b : List ℕ) (r : ChunkFaults) (m : FaultReading C) (o : Result (Mended D)) (f : C → A) (g : D → B) → Agrees true (Fixed S p b) m o
      → ((c : C) (d : D) → S c d → R (f c) (g d)) → Agrees true (Staged R (chunk_at t p b r)) (m >>= λ c. gives (part (f c) r)) (o >>> λ d. accept (found g d (seen true r)))
  unfolding found
  chunk_staged S t p b r m o f g h k =
      both_agrees true _ _ m o (λ c. part (f c) r) (λ d. found g d (seen true r)) h (λ l c d e. (k c d.value e.0, (refl, λ ys i told. (d.edits, ys, l, i, refl, refl, e.1, told))))

module _ {A B : Type 0} (k : Tag) (a : A) (b : B) (one : ℕ → List ℕ → FaultReading A) (fix : ℕ → List ℕ → Result (Mended B)) (R : A → B → Type 0) (absent : R a b)
    (h : (p : ℕ) (s : List ℕ) → Agrees true (Fixed R p s) (one p s) (fix p s)) where
  one_of : (w : ChunkFaults) → Agrees true (Staged R w) (one_faults k a one w) (mend_one k b fix (seen true w))
  unfolding one_faults mend_one
  one_of finished = (absent, (refl, λ ys g t. t))
  one_of (refused n p) = refl
  one_of (spare_at p w) = spare_staged R p w (one_faults k a one w) (mend_one k b fix (seen true w)) (one_of w)
  one_of (chunk_at t p s r) = if_agrees true _ (is t k) _ _ _ _ (chunk_staged R R t p s r (one p s) (fix p s) (λ x. x) (λ x. x) (h p s) (λ c d e. e)) (absent, (refl, λ ys g told. told))

  one-mend : (w : ChunkFaults) (c : Chunks) → c ≡ seen true w → Agrees true (Staged R w) (one_faults k a one w) (mend_one k b fix c)
  one-mend w c e = subst (λ (z : Chunks). Agrees true (Staged R w) (one_faults k a one w) (mend_one k b fix z)) (sym e) (one_of w)

-- chunks to the end, whose bodies' edits are the second part of what was made
abbrev AllTold : {A B : Type 0} → ChunkFaults → List Fault → A → B × List (List Edit) → Type 0
AllTold w l a y = Told w y.1 l

sets_of : (brushes vertices : ℕ) (w : ChunkFaults) → Agrees true (AllTold w) (set_faults brushes vertices w) (mend_sets brushes vertices (seen true w))
unfolding set_faults mend_sets
sets_of brushes vertices finished = (refl, refl)
sets_of brushes vertices (refused n p) = refl
sets_of brushes vertices (spare_at p w) = weak_agrees true _ _ (set_faults brushes vertices w) (mend_sets brushes vertices (seen true w)) (sets_of brushes vertices w) (λ l x y e h. (l, refl, h))
sets_of brushes vertices (chunk_at t p s r) =
    bind_agrees true _ _ (triangle_faults brushes vertices p s) (mend_triangles brushes vertices p s) _ _ (triangles-mend brushes vertices p s) (λ l x y h.
    more_agrees true _ _ (set_faults brushes vertices r) (mend_sets brushes vertices (seen true r)) _ (sets_of brushes vertices r) (λ g u z k. (y.edits, z.1, l, g, refl, refl, h, k)))

sets-mend : (brushes n m : ℕ) (w : ChunkFaults) (c : Chunks) → n ≡ m → c ≡ seen true w → Agrees true (AllTold w) (set_faults brushes n w) (mend_sets brushes m c)
sets-mend brushes n m w c e f =
    subst (λ (z : Chunks). Agrees true (AllTold w) (set_faults brushes n w) (mend_sets brushes m z)) (sym f)
    (subst (λ (i : ℕ). Agrees true (AllTold w) (set_faults brushes n w) (mend_sets brushes i (seen true w))) e (sets_of brushes n w))

-- a mesh with n vertices
abbrev Corners : ℕ → Mesh → Type 0
Corners n m = n ≡ length m.vertices

mesh-mend : (brushes p : ℕ) (b : List ℕ) → Agrees true (Fixed Corners p b) (mesh_faults brushes p b) (mend_mesh brushes p b)
unfolding mesh_faults mend_mesh mesh_of
mesh-mend brushes p b =
    bind_agrees true _ _ (row_faults number_fault (mesh_head brushes) (p + 8) b) (mend_row (mesh_head brushes) (p + 8) b) _ _ (row-mend (mesh_head brushes) (p + 8) b) (λ lh x y h.
    let w = within MESH p x.place x.left in
    let c = order MESH p start (chunks_of (pieces y.place y.left)) in
    bind_agrees true _ _ (one_faults VRTS 0 vertex_faults w) (mend_one VRTS no_vertices (as_read (read_vertices Lenient)) c) _ _
    (one-mend VRTS 0 no_vertices vertex_faults (as_read (read_vertices Lenient)) Vertexes refl vertices-mend w c
    (ap₂ (λ (q : ℕ) (s : List ℕ). order MESH p start (chunks_of (pieces q s))) h.0.0 h.0.1 ∙ chunks_seen MESH p x.place x.left)) (λ lv v v' g.
    both_agrees true _ _ (set_faults brushes v.value v.rest) (mend_sets brushes (length v'.value.items) v'.rest) _ _
    (sets-mend brushes v.value (length v'.value.items) v.rest v'.rest g.0 g.1.0) (λ ls u z told. (
      g.0,
      made_append (p + 8) y.place (p + 8 + length b) y.value.edits (woven (pieces y.place y.left) (v'.bodies ++ z.1)) lh (lv ++ ls) h.1.0
          (within_made MESH p x.place y.place (p + 8 + length b) x.left y.left (v'.bodies ++ z.1) (lv ++ ls) h.0.0 h.0.1 h.1.1 (g.1.1 z.1 ls told)),
    ))))

kind-of : (brushes vertices : ℕ) (w : ChunkFaults) → Agrees true (Staged Own w) (kind_faults brushes vertices w) (mend_kind brushes vertices (seen true w))
unfolding kind_faults mend_kind
kind-of brushes vertices finished = (refl, (refl, λ ys g t. t))
kind-of brushes vertices (refused n p) = refl
kind-of brushes vertices (spare_at p w) = spare_staged Own p w (kind_faults brushes vertices w) (mend_kind brushes vertices (seen true w)) (kind-of brushes vertices w)
kind-of brushes vertices (chunk_at t p s r) =
    if_agrees true _ (is t MESH) _ _ _ _ (chunk_staged Own Corners t p s r (mesh_faults brushes p s) (mend_mesh brushes p s) (λ n. n) mesh (mesh-mend brushes p s) (λ n m e. e))
    (if_agrees true _ (is t BONE) _ _ _ _ (chunk_staged Own (λ n m. Unit {0}) t p s r (bone_faults vertices p s) (mend_bone vertices p s) (λ n. 0) bone
    (weak_agrees true _ _ (bone_faults vertices p s) (mend_bone vertices p s) (bone-mend vertices p s) (λ l n m e h. (tt, h))) (λ n m e. refl))
    (refl, (refl, λ ys g told. told)))

-- a chunk with nothing to mend, of which nothing is kept
module _ {A C D : Type 0} (S : List Fault → C → D → Type 0) (read : ℕ → List ℕ → Result A) where
  step-mend : (p : ℕ) (b : List ℕ) (m : FaultReading C) (j : Mended A → Result D) → ((v : A) → Agrees true S m (j (record { value = v; edits = keep b ∷ [] })))
      → Agrees true S (plainly (read p b) >>= λ a. m) (as_read read p b >>> j)
  unfolding as_read plainly
  step-mend p b m j h = go (read p b)
    where
      go : (o : Result A) → Agrees true S (plainly o >>= λ a. m) ((o >>> λ v. accept (record { value = v; edits = keep b ∷ [] })) >>> j)
      go (accept a) = h a
      go (reject n q) = refl

-- a chunk as it stands before chunks of which a value was taken
kept_staged : {A B : Type 0} (R : A → B → Type 0) (t : Tag) (p : ℕ) (b : List ℕ) (r : ChunkFaults) (l : List Fault) (x : FoundPart A) (y : Taken B) → Staged R r l x y
    → (ys : List (List Edit)) (g : List Fault) → Told x.rest ys g → Told (chunk_at t p b r) ((keep b ∷ []) ∷ (y.bodies ++ ys)) (l ++ g)
kept_staged R t p b r l x y h ys g told = (keep b ∷ [], y.bodies ++ ys, [], l ++ g, refl, refl, keep_made (p + 8) (p + 8 + length b) b refl, h.1.1 ys g told)

moves_of : (b : Bool) (before : Anim) → b ≡ animated before → (w : ChunkFaults) → Agrees true (Staged Moving w) (move_faults b w) (mend_moves before (seen true w))
unfolding move_faults mend_moves with_keys with_anim
moves_of b before e finished = (e, (refl, λ ys g t. t))
moves_of b before e (refused n p) = refl
moves_of b before e (spare_at p w) = spare_staged Moving p w (move_faults b w) (mend_moves before (seen true w)) (moves_of b before e w)
moves_of b before e (chunk_at t p s r) =
    if_agrees true _ (is t KEYS) _ _ _ _
    (step-mend _ read_keys p s (move_faults b r) _ (λ v. more_agrees true _ _ (move_faults b r) (mend_moves before (seen true r)) _ (moves_of b before e r) (λ l y z h. (h.0, (h.1.0, kept_staged Moving t p s r l y z h)))))
    (if_agrees true _ (is t ANIM) _ _ _ _
    (step-mend _ read_anim p s (move_faults true r) _ (λ v. more_agrees true _ _ (move_faults true r) (mend_moves (anim v) (seen true r)) _ (moves_of true (anim v) refl r) (λ l y z h. (h.0, (h.1.0, kept_staged Moving t p s r l y z h)))))
    (e, (refl, λ ys g told. told)))

-- ---- nodes

module _ (one : ℕ → List ℕ → FaultReading (Unit {0})) (fix : ℕ → List ℕ → Result (Mended Inner)) (h : (p : ℕ) (s : List ℕ) → Agrees true (λ l u m. Body p s l m) (one p s) (fix p s)) where
  nodes-of : (w : ChunkFaults) → Agrees true (AllTold w) (nodes_faults one w) (mend_nodes fix (seen true w))
  unfolding nodes_faults mend_nodes
  nodes-of finished = (refl, refl)
  nodes-of (refused n p) = refl
  nodes-of (spare_at p w) = weak_agrees true _ _ (nodes_faults one w) (mend_nodes fix (seen true w)) (nodes-of w) (λ l x y e h. (l, refl, h))
  nodes-of (chunk_at t p s r) =
      bind_agrees true _ _ (one p s) (fix p s) _ _ (h p s) (λ l x y i. more_agrees true _ _ (nodes_faults one r) (mend_nodes fix (seen true r)) _ (nodes-of r) (λ g u z k. (y.edits, z.1, l, g, refl, refl, i, k)))

-- a text and words stay
named_made : (rs : List Rule) (p : ℕ) (s : List ℕ) (x : Step (Name × List ℕ)) → named rs p s ≡ accept x → Made p x.place (keep (write_text x.value.0.bytes (write_words x.value.1 [])) ∷ []) []
unfolding named
named_made rs p s x e =
    by_got (text p p s) _ e (λ n en e₁.
    by_got (words p (length rs) n.place n.left) _ e₁ (λ y ey e₂.
    let w : length (write_text n.value n.left) ≡ length s = ap (λ (z : List ℕ). length z) (text_exact p p s n en) in
    subst (λ (z : Step (Name × List ℕ)). Made p z.place (keep (write_text z.value.0.bytes (write_words z.value.1 [])) ∷ []) []) (judged_got rs n.place y.value _ x e₂)
    (keep_made p y.place (write_text n.value (write_words y.value []))
    (omega (arith, length-text n.value (write_words y.value []), length-words y.value [], length-text n.value n.left, w, (text-onward p p s n en).same, words-to p (length rs) n.place n.left y ey, words_count p (length rs) n.place n.left y ey)))))

node-mend : (l brushes : ℕ) (above : Option ℕ) (p : ℕ) (b : List ℕ) → Agrees true (λ (f : List Fault) (u : Unit {0}) (m : Mended Inner). Body p b f m) (node_faults l brushes above p b) (mend_node l brushes above p b)
unfolding node_faults mend_node data_of
node-mend zero brushes above p b = refl
node-mend (suc l) brushes above p b =
    same_agrees true _ (named node_row (p + 8) b) _ _ (λ h eh.
    let w = within NODE p h.place h.left in
    let c = order NODE p start (chunks_of (pieces h.place h.left)) in
    bind_agrees true _ _ (kind_faults brushes (bone_limit above) w) (mend_kind brushes (bone_limit above) c) _ _
    (subst (λ (z : Chunks). Agrees true (Staged Own w) (kind_faults brushes (bone_limit above) w) (mend_kind brushes (bone_limit above) z)) (sym (chunks_seen NODE p h.place h.left))
    (kind-of brushes (bone_limit above) w)) (λ lk k k' g.
    bind_agrees true _ _ (move_faults false k.rest) (mend_moves no_anim k'.rest) _ _
    (subst (λ (z : Chunks). Agrees true (Staged Moving k.rest) (move_faults false k.rest) (mend_moves no_anim z)) (sym g.1.0) (moves_of false no_anim refl k.rest)) (λ lm m m' i.
    let told = bone_limit_from above m.value k.value in
    let told' = bone_limit_below above (data_of h.value k'.value m'.value) in
    let et : told ≡ told' = ap₂ (bone_limit_from above) i.0 g.0 in
    more_agrees true (AllTold m.rest) _ (nodes_faults (node_faults l brushes told) m.rest) (mend_nodes (mend_node l brushes told') m'.rest) _
    (subst (λ (z : Chunks). Agrees true (AllTold m.rest) (nodes_faults (node_faults l brushes told) m.rest) (mend_nodes (mend_node l brushes told') z)) (sym i.1.0)
    (subst (λ (o : Option ℕ). Agrees true (AllTold m.rest) (nodes_faults (node_faults l brushes told) m.rest) (mend_nodes (mend_node l brushes o) (seen true m.rest))) et
    (nodes-of (node_faults l brushes told) (mend_node l brushes told) (node-mend l brushes told) m.rest)))
    (λ ln u f t.
    let xs = k'.bodies ++ (m'.bodies ++ f.1) in
    made_append (p + 8) h.place (p + 8 + length b) (keep (write_text h.value.0.bytes (write_words h.value.1 [])) ∷ []) (woven (pieces h.place h.left) xs) [] (lk ++ (lm ++ ln))
    (named_made node_row (p + 8) b h eh)
    (within_made NODE p h.place h.place (p + 8 + length b) h.left h.left xs (lk ++ (lm ++ ln)) refl refl (named-onward node_row (p + 8) b h eh).same
    (g.1.1 (m'.bodies ++ f.1) (lm ++ ln) (i.1.1 f.1 ln t)))))))

-- ---- the file

-- the faults of headers behind the root, where no chunk is left
end-told : {A : Type 0} (w : ChunkFaults) (a : A) → seen true w ≡ done → Agrees true (λ (l : List Fault) (u : Unit {0}) (b : A). Told w [] l × (b ≡ a)) (end_faults w) (ended {Tag = Tag} done a)
unfolding end_faults ended
end-told finished a e = ((refl, refl), refl)
end-told (refused n p) a e = let z : ◌≡◌ {A = ℕ} 0 1 = cc in absurd (omega arith)
end-told (spare_at p w) a e = weak_agrees true _ _ (end_faults w) (ended {Tag = Tag} done a) (end-told w a e) (λ l u b i h. ((l, refl, h.0), h.1))
end-told (chunk_at t p b w) a e = let z : ◌≡◌ {A = ℕ} 0 1 = cc in absurd (omega arith)

ends-told : {A : Type 0} (S : List Fault → Unit {0} → A → Type 0) (w : ChunkFaults) (c : Chunks) (a : A) → c ≡ seen true w → ((d : A) → ended c a ≡ accept d → c ≡ done)
    → ((l : List Fault) → Told w [] l → S l tt a) → Agrees true S (end_faults w) (ended c a)
ends-told {A} S w c a ec last k = go (ended c a) refl
  where
    go : (o : Result A) → ended c a ≡ o → Agrees true S (end_faults w) (ended c a)
    go (accept d) e =
        let ed : c ≡ done = last d e in
        subst (λ (z : Chunks). Agrees true S (end_faults w) (ended z a)) (sym ed)
        (weak_agrees true _ S (end_faults w) (ended {Tag = Tag} done a) (end-told w a (sym ec ∙ ed)) (λ l u b i h. subst (λ (z : A). S l tt z) (sym h.1) (k l h.0)))
    go (reject n p) e = weak_agrees true Any S (end_faults w) (ended c a) (end_agrees true w c a ec) (λ l u b i h. bad_got (sym e ∙ i))

-- with the value of the plain one known
bind_known : {A B C D : Type 0} (R : List Fault → A → B → Type 0) (S : List Fault → C → D → Type 0) (m : FaultReading A) (o : Result B) (k : A → FaultReading C) (j : B → Result D) → Agrees true R m o
    → ((l : List Fault) (a : A) (b : B) → o ≡ accept b → R l a b → Agrees true (λ g. S (l ++ g)) (k a) (j b)) → Agrees true S (m >>= k) (o >>> j)
bind_known R S m o k j h f =
    bind_agrees true (λ l a b. (o ≡ accept b) × R l a b) S m o k j (weak_agrees true R _ m o h (λ l a b e r. (e, r))) (λ l a b h. f l a b h.0 h.1)

root-mend : (brushes p : ℕ) (b : List ℕ) → Agrees true (Fixed (λ u f. Unit {0}) p b) (node_faults levels brushes none p b) (mend_root brushes p b)
unfolding mend_root
root-mend brushes p b = more_agrees true _ _ (node_faults levels brushes none p b) (mend_node levels brushes none p b) _ (node-mend levels brushes none p b) (λ l u m h. (tt, h))

body-mend : (p : ℕ) (b : List ℕ) → Agrees true (λ (l : List Fault) (u : Unit {0}) (m : Mended Scene). Made p (p + length b) m.edits l) (body_faults p b) (mend_body p b)
unfolding body_faults mend_body
body-mend p b =
    same_agrees true _ (row file_head p b) _ _ (λ h eh.
    let ew = row_words file_head p b h eh in
    let w = within BB3D 0 h.place h.left in
    let c = order BB3D 0 start (chunks_of (pieces h.place h.left)) in
    bind_known (Staged Textures w) _ (one_faults TEXS 0 texture_faults w) (mend_one TEXS [] (as_read read_textures) c) _ _
    (one-mend TEXS 0 [] texture_faults (as_read read_textures) Textures refl textures-mend w c (chunks_seen BB3D 0 h.place h.left)) (λ lt t t' et gt.
    bind_known (Staged Brushes t.rest) _ (one_faults BRUS 0 (brushes_faults t.value) t.rest) (mend_one BRUS (0, []) (mend_brushes (length t'.value)) t'.rest) _ _
    (one-mend BRUS 0 (0, []) (brushes_faults t.value) (mend_brushes (length t'.value)) Brushes refl
    (subst (λ (n : ℕ). (q : ℕ) (s : List ℕ) → Agrees true (Fixed Brushes q s) (brushes_faults t.value q s) (mend_brushes n q s)) gt.0 (brushes-mend t.value)) t.rest t'.rest gt.1.0) (λ lu u u' eu gu.
    bind_known (Staged (λ (v : Unit {0}) (f : Forest). Unit {0}) u.rest) _ (one_faults NODE tt (node_faults levels u.value none) u.rest) (mend_one NODE no_nodes (mend_root (length u'.value.1)) u'.rest) _ _
    (one-mend NODE tt no_nodes (node_faults levels u.value none) (mend_root (length u'.value.1)) (λ v f. Unit {0}) tt
    (subst (λ (n : ℕ). (q : ℕ) (s : List ℕ) → Agrees true (Fixed (λ v f. Unit {0}) q s) (node_faults levels u.value none q s) (mend_root n q s)) gu.0 (root-mend u.value)) u.rest u'.rest gu.1.0) (λ ln n n' en gn.
    let xs = t'.bodies ++ (u'.bodies ++ n'.bodies) in
    ends-told _ n.rest n'.rest _ gn.1.0
    (λ d e. file-end [] (0, []) no_nodes (as_read read_textures) (mend_brushes (length t'.value)) (mend_root (length u'.value.1)) (chunks_of (pieces h.place h.left)) t' u' n' et eu en _ d e)
    (λ l told.
    let bodies : n'.bodies ++ [] ≡ n'.bodies = append-nil n'.bodies in
    let rest : Told u.rest n'.bodies (ln ++ l) = subst (λ (z : List (List Edit)). Told u.rest z (ln ++ l)) bodies (gn.1.1 [] l told) in
    made_append p h.place (p + length b) (keep (bytes (number h 0) []) ∷ []) (woven (pieces h.place h.left) xs) [] (lt ++ (lu ++ (ln ++ l)))
    (keep_made p h.place (bytes (number h 0) []) (sym (words-to p 1 p b h ew)))
    (within_made BB3D 0 h.place h.place (p + length b) h.left h.left xs (lt ++ (lu ++ (ln ++ l))) refl refl (words-onward p 1 p b h ew).same
    (gt.1.1 (u'.bodies ++ n'.bodies) (lu ++ (ln ++ l)) (gu.1.1 n'.bodies (ln ++ l) rest))))))))

-- whether BB3D's length was right or not
length-mend : (said is q : ℕ) (c : Bool) (m : FaultReading (Unit {0})) (o : Result (Mended Scene)) → Agrees true (λ (l : List Fault) (u : Unit {0}) (x : Mended Scene). Made 8 q x.edits l) m o
    → Agrees true (λ (l : List Fault) (u : Unit {0}) (x : Mended Scene). Made 0 q x.edits l) (length_fault c >>= λ u. m) (o >>> λ x. accept (record {
      value = x.value;
      edits = keep (bytes (code BB3D) []) ∷ if c (follow is (length (after x.edits))) (mend 1 (bytes said []) (bytes (length (after x.edits)) [])) ∷ x.edits;
    }))
unfolding length_fault if
length-mend said is q true m o h =
    more_agrees true _ _ m o _ h (λ l u x k.
    made_append 0 4 q (keep (bytes (code BB3D) []) ∷ []) (follow is (length (after x.edits)) ∷ x.edits) [] l (keep_made 0 4 (bytes (code BB3D) []) refl)
    (made_append 4 8 q (follow is (length (after x.edits)) ∷ []) x.edits [] l (follow_made 4 8 is (length (after x.edits)) refl) k))
length-mend said is q false m o h =
    more_agrees true _ _ m o _ h (λ l u x k.
    let e : Edit = mend 1 (bytes said []) (bytes (length (after x.edits)) []) in
    made_append 0 4 q (keep (bytes (code BB3D) []) ∷ []) (e ∷ x.edits) [] (mendable 1 2 4 ∷ l) (keep_made 0 4 (bytes (code BB3D) []) refl)
    (made_append 4 8 q (e ∷ []) x.edits (mendable 1 2 4 ∷ []) l (mend_made 4 8 1 (bytes said []) (bytes (length (after x.edits)) []) (mendable 1 2 4 ∷ []) refl (inl ((refl, refl), refl))) k))

pub file-mend : (s : List ℕ) → Agrees true (λ (l : List Fault) (u : Unit {0}) (x : Mended Scene). Made 0 (length s) x.edits l) (file_faults s) (mend_file s)
unfolding file_faults mend_file file_length
file-mend s =
    same_agrees true _ (check (size_fits (length s)) 1 0) _ _ (λ u eu.
    same_agrees true _ (row header 0 s) _ _ (λ h eh.
    let ew = row_words header 0 s h eh in
    let place : h.place ≡ 8 = words-to 0 2 0 s h ew in
    let last : 8 + length h.left ≡ length s = omega (arith, (words-onward 0 2 0 s h ew).same) in
    same_agrees true _ (check (eqb (number h 0) (code BB3D)) 2 0) _ _ (λ v ev.
    length-mend (number h 1) (length h.left) (length s) (eqb (number h 1) (length h.left)) (body_faults h.place h.left) (mend_body h.place h.left)
    (subst (λ (z : ℕ). Agrees true (λ (l : List Fault) (u : Unit {0}) (x : Mended Scene). Made 8 (length s) x.edits l) (body_faults z h.left) (mend_body z h.left)) (sym place)
    (subst (λ (z : ℕ). Agrees true (λ (l : List Fault) (u : Unit {0}) (x : Mended Scene). Made 8 z x.edits l) (body_faults 8 h.left) (mend_body 8 h.left)) last (body-mend 8 h.left))))))
