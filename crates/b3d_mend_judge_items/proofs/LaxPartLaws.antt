-- Items, TRIS, BONE and MESH: the mending read beside what is counted of it.
use mathlib.Core.Path.{◌≡◌, refl, sym, ap, ap₂, ◌∙◌}
use Prim.Native.Nat.{ℕ, zero, suc, ◌+◌}
use mathlib.Core.Bool.{Bool, true, false}
use mathlib.Core.List.{List, [], ◌∷◌, ◌++◌}
use lib.ListN.{length, replicate, length-replicate}
use Rattle.wire.specs.Bytes.{bytes}
use Rattle.wire.specs.Test.{if}
use Rattle.layout.specs.Chunks.{done, stop, chunk}
use Rattle.layout.specs.Result.{Result, accept, reject, ◌>>=◌}
use Rattle.layout.specs.Parts.{Step, words, row, judged, items_in, items}
use Rattle.layout.specs.Lists.{All}
use Rattle.layout.specs.Rules.{Rule, any, up_to, exactly, names, names_or_none, unit, NONE, holds}
use Rattle.layout.proofs.StepLaws.{judged-any}
use Rattle.b3d_spec.specs.declared.Mode.TheVariants.{Lenient}
use Rattle.b3d_spec.specs.declared.Tag.{Tag}
use Rattle.b3d_spec.specs.declared.Tag.TheVariants.{MESH, VRTS}
use Rattle.b3d_spec.specs.Nesting.{start, order}
use Rattle.b3d_spec.specs.Parse.{read_one, Vertices, no_vertices, read_vertices}
use Rattle.b3d_spec.specs.Rules.{triangle_row, weight_row, triangles_head, mesh_head, vertex_words}
use Rattle.b3d_spec.specs.Scene.{TriangleSet, Mesh}
use Rattle.b3d_spec.specs.Tags.{is, Chunks, Found}
use Rattle.b3d_judge_tally.specs.Tally.{plus, triangles_tally, vertices_tally, set_tally, sets_tally, mesh_tally}
use Rattle.b3d_judge_tally.specs.declared.Tally.{Tally}
use Rattle.b3d_mend_spec.specs.Edits.{Edit, keep, id_set}
use Rattle.b3d_mend_spec.specs.Mend.{Mended, mend_word, and_words, mend_words, mend_row, all_hold, stays, mend_item, gathered, mend_items, as_read, mend_triangles, mend_bone, Taken, found, mend_one, mend_sets, mesh_of, mend_mesh}
use Rattle.b3d_mend_spec.specs.Pieces.{pieces, chunks_of}
use Rattle.b3d_mend_judge_items.specs.Lax.{kept, lax_items, lax_triangles, lax_bone, lax_inside, lax_sets, lax_mesh}
use Rattle.b3d_mend_judge_items.proofs.AlikeLaws.{Alike, alike_bind, alike-if}

-- ---- items

-- an item that was read, and the same as it is mended
pub record SameItem (rs : List Rule) (x : Step (List ℕ)) (y : Step (Mended (List (List ℕ)))) : Type 0 where
  pub value : y.value ≡ stays (all_hold rs x.value) x.value
  pub place : x.place ≡ y.place
  pub left : x.left ≡ y.left

row_words : (n p : ℕ) (s : List ℕ) → row (replicate n any) p s ≡ words p n p s
unfolding row
row_words n p s = rw (length-replicate n any) (go (words p n p s))
  where
    go : (o : Result (Step (List ℕ))) → (o >>= λ x. judged (replicate n any) p x.value x) ≡ o
    go (accept x) = judged-any n p x.value x
    go (reject m q) = refl

item-alike : (rs : List Rule) (p : ℕ) (s : List ℕ) → Alike (SameItem rs) (row (replicate (length rs) any) p s) (mend_item rs p s)
unfolding mend_item
item-alike rs p s = rw (row_words (length rs) p s) (go (words p (length rs) p s))
  where
    go : (o : Result (Step (List ℕ))) → Alike (SameItem rs) o (o >>= λ x. accept (record { value = stays (all_hold rs x.value) x.value; place = x.place; left = x.left }))
    go (accept x) = record { value = refl; place = refl; left = refl }
    go (reject m q) = (refl, refl)

kept-one : (rs : List Rule) (ws : List ℕ) (l l' : List (List ℕ)) → kept rs l ≡ l' → kept rs (ws ∷ l) ≡ (stays (all_hold rs ws) ws).value ++ l'
unfolding kept stays if
kept-one rs ws l l' e = go (all_hold rs ws)
  where
    go : (b : Bool) → if b (ws ∷ kept rs l) (kept rs l) ≡ (stays b ws).value ++ l'
    go true = ap (λ (z : List (List ℕ)). ws ∷ z) e
    go false = e

abbrev SameItems : List Rule → List (List ℕ) → List (Mended (List (List ℕ))) → Type 0
SameItems rs l m = kept rs l ≡ (gathered m).value

items-in : (rs : List Rule) (f p : ℕ) (s : List ℕ) → Alike (SameItems rs) (items_in f (row (replicate (length rs) any)) p s) (items_in f (mend_item rs) p s)
unfolding items_in kept gathered
items-in rs zero p [] = refl
items-in rs zero p (c ∷ s) = (refl, refl)
items-in rs (suc f) p [] = refl
items-in rs (suc f) p (c ∷ s) =
    alike_bind (SameItem rs) (SameItems rs) (row (replicate (length rs) any) p (c ∷ s)) (mend_item rs p (c ∷ s)) _ _ (item-alike rs p (c ∷ s)) (λ x y e.
    alike_bind (SameItems rs) (SameItems rs) (items_in f (row (replicate (length rs) any)) x.place x.left) (items_in f (mend_item rs) y.place y.left) _ _
    (rw (e.place, e.left) (items-in rs f y.place y.left))
    (λ l m g. kept-one rs x.value l (gathered m).value g ∙ ap (λ (z : Mended (List (List ℕ))). z.value ++ (gathered m).value) (sym e.value)))

pub items_alike : (rs : List Rule) (p : ℕ) (s : List ℕ) → Alike (λ (l : List (List ℕ)) (m : Mended (List (List ℕ))). l ≡ m.value) (lax_items rs p s) (mend_items (mend_item rs) p s)
unfolding lax_items mend_items items
items_alike rs p s =
    alike_bind (SameItems rs) (λ (l : List (List ℕ)) (m : Mended (List (List ℕ))). l ≡ m.value) (items_in (length s) (row (replicate (length rs) any)) p s) (items_in (length s) (mend_item rs) p s) _ _
    (items-in rs (length s) p s) (λ l m e. e)

-- ---- a head of one id that may be -1

abbrev pub SameStep : {A B : Type 0} → Step A → Step B → Type 0
SameStep x y = (x.place ≡ y.place) × (x.left ≡ y.left)

-- rules that no word is refused by
abbrev pub Mild : Rule → Type 0
Mild any = Unit {0}
Mild (up_to m) = ⊥
Mild (exactly m) = ⊥
Mild (names n) = ⊥
Mild (names_or_none n) = Unit {0}
Mild unit = ⊥

mild_word : (r : Rule) → Mild r → (p w : ℕ) → (v : Mended ℕ) × (mend_word r p w ≡ accept v)
unfolding mend_word if
mild_word any h p w = (_, refl)
mild_word (up_to m) h p w = absurd h
mild_word (exactly m) h p w = absurd h
mild_word (names n) h p w = absurd h
mild_word (names_or_none n) h p w = go (holds (names_or_none n) w)
  where
    go : (b : Bool) → (v : Mended ℕ) × (if b (accept (record { value = w; edits = keep (bytes w []) ∷ [] })) (accept (record { value = NONE; edits = id_set w NONE ∷ [] })) ≡ accept v)
    go true = (_, refl)
    go false = (_, refl)
mild_word unit h p w = absurd h

pub mild_words : (rs : List Rule) → All Mild rs → (p : ℕ) (ws : List ℕ) → (v : Mended (List ℕ)) × (mend_words rs p ws ≡ accept v)
unfolding mend_words
mild_words [] h p ws = (_, refl)
mild_words (r ∷ rs) h p [] = (_, refl)
mild_words (r ∷ rs) h p (w ∷ ws) =
    let a = mild_word r h.0 p w in
    let b = mild_words rs h.1 (p + 4) ws in
    (and_words a.0 b.0, rw (a.1, b.1))

pub head-alike : (n p : ℕ) (s : List ℕ) → Alike (λ (x : Step (List ℕ)) (y : Step (Mended (List ℕ))). SameStep x y) (row (any ∷ []) p s) (mend_row (names_or_none n ∷ []) p s)
unfolding mend_row
head-alike n p s = rw (row_words 1 p s) (go (words p 1 p s))
  where
    go : (o : Result (Step (List ℕ)))
        → Alike (λ (x : Step (List ℕ)) (y : Step (Mended (List ℕ))). SameStep x y) o (o >>= λ x. mend_words (names_or_none n ∷ []) p x.value >>= λ v. accept (record { value = v; place = x.place; left = x.left }))
    go (accept x) = let v = mild_words (names_or_none n ∷ []) (tt, tt) p x.value in rw v.1 (refl, refl)
    go (reject m q) = (refl, refl)

-- ---- TRIS and BONE

pub triangles-alike : (brushes vertices p : ℕ) (b : List ℕ) → Alike (λ (x : TriangleSet) (m : Mended TriangleSet). set_tally x ≡ set_tally m.value) (lax_triangles vertices p b) (mend_triangles brushes vertices p b)
unfolding lax_triangles mend_triangles set_tally
triangles-alike brushes vertices p b =
    alike_bind (λ (x : Step (List ℕ)) (y : Step (Mended (List ℕ))). SameStep x y) (λ (x : TriangleSet) (m : Mended TriangleSet). set_tally x ≡ set_tally m.value) (row (any ∷ []) (p + 8) b) (mend_row (triangles_head brushes) (p + 8) b) _ _
    (head-alike brushes (p + 8) b) (λ h g e.
    alike_bind (λ (l : List (List ℕ)) (m : Mended (List (List ℕ))). l ≡ m.value) (λ (x : TriangleSet) (m : Mended TriangleSet). set_tally x ≡ set_tally m.value)
    (lax_items (triangle_row vertices) h.place h.left) (mend_items (mend_item (triangle_row vertices)) g.place g.left) _ _
    (rw (e.0, e.1) (items_alike (triangle_row vertices) g.place g.left))
    (λ l m q. ap (λ (z : List (List ℕ)). triangles_tally (length z)) q))

pub bone-alike : (vertices p : ℕ) (b : List ℕ) → Alike (λ (l : List (List ℕ)) (m : Mended (List (List ℕ))). l ≡ m.value) (lax_bone vertices p b) (mend_bone vertices p b)
unfolding lax_bone mend_bone
bone-alike vertices p b = items_alike (weight_row vertices) (p + 8) b

-- ---- one chunk

pub read_alike : {A : Type 0} (read : ℕ → List ℕ → Result A) (p : ℕ) (b : List ℕ) → Alike (λ (a : A) (m : Mended A). a ≡ m.value) (read p b) (as_read read p b)
unfolding as_read
read_alike {A} read p b = go (read p b)
  where
    go : (o : Result A) → Alike (λ (a : A) (m : Mended A). a ≡ m.value) o (o >>= λ v. accept (record { value = v; edits = keep b ∷ [] }))
    go (accept a) = refl
    go (reject n q) = (refl, refl)

module _ {A B : Type 0} (R : A → B → Type 0) (k : Tag) (a : A) (a' : B) (h : R a a') (one : ℕ → List ℕ → Result A) (two : ℕ → List ℕ → Result (Mended B))
    (t : (p : ℕ) (b : List ℕ) → Alike (λ (x : A) (m : Mended B). R x m.value) (one p b) (two p b)) where
  abbrev pub SameFound : Found A → Taken B → Type 0
  SameFound x y = R x.value y.value × (x.rest ≡ y.rest)

  pub one_alike : (cs : Chunks) → Alike SameFound (read_one k a one cs) (mend_one k a' two cs)
  unfolding read_one mend_one found
  one_alike done = (h, refl)
  one_alike (stop n p) = (refl, refl)
  one_alike (chunk u p b r) =
      alike-if SameFound (is u k) _ _ _ _
      (alike_bind (λ (x : A) (m : Mended B). R x m.value) SameFound (one p b) (two p b) _ _ (t p b) (λ x m e. (e, refl)))
      (h, refl)

-- ---- MESH

pub sets-alike : (brushes vertices : ℕ) (cs : Chunks) → Alike (λ (l : List TriangleSet) (m : List TriangleSet × List (List Edit)). sets_tally l ≡ sets_tally m.0) (lax_sets vertices cs) (mend_sets brushes vertices cs)
unfolding lax_sets mend_sets sets_tally
sets-alike brushes vertices done = refl
sets-alike brushes vertices (stop n p) = (refl, refl)
sets-alike brushes vertices (chunk t p b r) =
    alike_bind (λ (x : TriangleSet) (m : Mended TriangleSet). set_tally x ≡ set_tally m.value) (λ (l : List TriangleSet) (m : List TriangleSet × List (List Edit)). sets_tally l ≡ sets_tally m.0)
    (lax_triangles vertices p b) (mend_triangles brushes vertices p b) _ _ (triangles-alike brushes vertices p b) (λ x y e.
    alike_bind (λ (l : List TriangleSet) (m : List TriangleSet × List (List Edit)). sets_tally l ≡ sets_tally m.0) (λ (l : List TriangleSet) (m : List TriangleSet × List (List Edit)). sets_tally l ≡ sets_tally m.0)
    (lax_sets vertices r) (mend_sets brushes vertices r) _ _ (sets-alike brushes vertices r) (λ l m g. ap₂ plus e g))

pub record SameMesh (x : Mesh) (m : Mended Mesh) : Type 0 where
  pub tally : mesh_tally x ≡ mesh_tally m.value
  pub own : length x.vertices ≡ length m.value.vertices

pub mesh-alike : (brushes p : ℕ) (b : List ℕ) → Alike SameMesh (lax_mesh p b) (mend_mesh brushes p b)
unfolding lax_mesh mend_mesh lax_inside mesh_tally mesh_of
mesh-alike brushes p b =
    alike_bind (λ (x : Step (List ℕ)) (y : Step (Mended (List ℕ))). SameStep x y) SameMesh (row (any ∷ []) (p + 8) b) (mend_row (mesh_head brushes) (p + 8) b) _ _ (head-alike brushes (p + 8) b) (λ h g e.
    alike_bind (SameFound (λ (x y : Vertices). x ≡ y) VRTS no_vertices no_vertices refl (read_vertices Lenient) (as_read (read_vertices Lenient)) (read_alike (read_vertices Lenient))) SameMesh
    (read_one VRTS no_vertices (read_vertices Lenient) (order MESH p start (chunks_of (pieces h.place h.left))))
    (mend_one VRTS no_vertices (as_read (read_vertices Lenient)) (order MESH p start (chunks_of (pieces g.place g.left)))) _ _
    (rw (e.0, e.1) (one_alike (λ (x y : Vertices). x ≡ y) VRTS no_vertices no_vertices refl (read_vertices Lenient) (as_read (read_vertices Lenient)) (read_alike (read_vertices Lenient)) (order MESH p start (chunks_of (pieces g.place g.left)))))
    (λ v w q.
    alike_bind (λ (l : List TriangleSet) (m : List TriangleSet × List (List Edit)). sets_tally l ≡ sets_tally m.0) SameMesh (lax_sets (length v.value.items) v.rest) (mend_sets brushes (length w.value.items) w.rest) _ _
    (rw (q.0, q.1) (sets-alike brushes (length w.value.items) w.rest))
    (λ l m t. record {
      tally = ap₂ (λ (z : Vertices) (y : Tally). plus (vertices_tally (length z.items) (vertex_words z.flags z.sets z.size)) y) q.0 t;
      own = ap (λ (z : Vertices). length z.items) q.0;
    })))
