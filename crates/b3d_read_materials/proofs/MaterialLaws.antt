-- Tables 1 and 2 are rows of texts: the first TEXS and the first BRUS of a file.
use Rattle.std.specs.Prelude.{Some, None}
use Rattle.std.specs.Prelude as std
use Rattle.b3d_chunk_walk.specs.declared.Sought.{Sought}
use mathlib.Core.Path.{◌≡◌, refl, ap, ap₂, sym, ◌∙◌}
use Prim.Native.Nat.{ℕ, zero, suc, ◌+◌, ◌-◌, ◌*◌, ◌<◌, ◌≤◌}
use native.Mathlib.Omega.{arith}
use mathlib.Core.List.{List, [], ◌∷◌, ◌++◌, map, append-nil, append_assoc}
use lib.ListN.{length, take, drop, replicate, length-drop, length-replicate, take-append-drop, drop_of_length-le}
use lib.Seq.{sets}
use lib.Dec.{leb, leb→le, nleb→lt, eqb_refl}
use borrow.Author.Tests.{le-leb, lt-leb}
use Rattle.wire.specs.Test.{if}
use Rattle.wire.specs.Cursors.{Inside, left}
use Rattle.wire.specs.declared.Cursor.{Cursor}
use Rattle.wire.proofs.LeftLaws.{span}
use Rattle.layout.specs.Result.{Result, accept, reject}
use Rattle.layout.specs.Parts.{Name, Step, text, words as words_in, named}
use Rattle.layout.specs.Rules.{any, NONE}
use Rattle.layout.proofs.ChunkLaws.{split-none}
use Rattle.layout.proofs.ResultLaws.{by_got, bad_got, got_inj, by_test, if_yes, if_no}
use Rattle.layout.proofs.StepLaws.{judged_got, words-enough, words-short, length-words-of}
use Rattle.layout.specs.Rows.{name_cells, joined}
use Rattle.b3d_spec.specs.declared.Tag.{Tag}
use Rattle.b3d_spec.specs.declared.Tag.TheVariants.{TEXS, BRUS}
use Rattle.b3d_spec.specs.Tables.{texture_row, brush_row}
use Rattle.b3d_spec.specs.Tags.{Chunks, code, split, tag_of, is}
use Rattle.b3d_spec.specs.Parse.{texture_of, brush_of}
use Rattle.b3d_spec_plain_rows.specs.Flat.{rest}
use Rattle.b3d_spec_plain_rows.specs.Plain.{next_item, named_in, named_items}
use Rattle.b3d_spec_plain_rows.specs.Rows.{first_of, texture_rows, brushes_of, brush_rows, file_rows}
use Rattle.b3d_chunk_walk.specs.Seeks.{seek_of, sought_of, Seeks, FirstWord}
use Rattle.b3d_chunk_walk.specs.declared.Headed.{Headed}
use Rattle.b3d_chunk_walk.proofs.SeekLaws.{by_seek, sought_among, sought_body}
use Rattle.b3d_chunk_walk.proofs.FlatLaws.{from-left}
use Rattle.b3d_read_materials.specs.Texts.{named_row, FirstIs}

-- ---- rows of textures and brushes as rows of texts

words_long : (start n p : ℕ) (s : List ℕ) (x : Step (List ℕ)) → words_in start n p s ≡ accept x → length x.value ≡ n
words_long start n p s x e =
    by_test (leb (4 * n) (length s))
    (λ t. let h = leb→le (4 * n) (length s) t in ap (λ (y : Step (List ℕ)). length y.value) (got_inj (sym e ∙ words-enough start n p s h)) ∙ length-words-of n s h)
    (λ t. bad_got (sym (words-short start n p s (nleb→lt (4 * n) (length s) t)) ∙ e))

named-long : (n p : ℕ) (s : List ℕ) (x : Step (Name × List ℕ)) → named (replicate n any) p s ≡ accept x → length x.value.1 ≡ n
unfolding named
named-long n p s x e =
    by_got (text p p s) _ e (λ t et e₁.
    by_got (words_in p (length (replicate n any)) t.place t.left) _ e₁ (λ y ey e₂.
    ap (λ (v : Step (Name × List ℕ)). length v.value.1) (sym (judged_got (replicate n any) t.place y.value _ x e₂))
    ∙ words_long p (length (replicate n any)) t.place t.left y ey ∙ length-replicate n any))

module _ (n : ℕ) (row : Name × List ℕ → List ℕ) (free : ℕ) (same : (x : Name × List ℕ) → length x.1 ≡ n → row x ≡ named_row free x) where
  each_next : (f : ℕ → List ℕ → List (Name × List ℕ)) → ((p : ℕ) (s : List ℕ) → map row (f p s) ≡ map (named_row free) (f p s)) → (p : ℕ) (s : List ℕ)
      → (o : Result (Step (Name × List ℕ))) → named (replicate n any) p s ≡ o → map row (next_item f o) ≡ map (named_row free) (next_item f o)
  unfolding next_item
  each_next f h p s (accept x) e = ap₂ ◌∷◌ (same x.value (named-long n p s x e)) (h x.place x.left)
  each_next f h p s (reject i q) e = refl

  each_in : (f p : ℕ) (s : List ℕ) → map row (named_in f n p s) ≡ map (named_row free) (named_in f n p s)
  unfolding named_in
  each_in zero p s = refl
  each_in (suc f) p s = each_next (named_in f n) (each_in f) p s (named (replicate n any) p s) refl

  pub each_item : (p : ℕ) (s : List ℕ) → map row (named_items n p s) ≡ map (named_row free) (named_items n p s)
  unfolding named_items
  each_item p s = each_in (length s) p s

map_two : {A B C : Type 0} (f : B → C) (g : A → B) (l : List A) → map f (map g l) ≡ map (λ x. f (g x)) l
map_two f g [] = refl
map_two f g (x ∷ l) = ap (λ y. f (g x) ∷ y) (map_two f g l)

texture-row : (x : Name × List ℕ) → length x.1 ≡ 7 → texture_row (texture_of x) ≡ named_row 0 x
unfolding texture_row named_row
texture-row x h = ap (λ (l : List ℕ). name_cells x.0 ++ l) (sym (append-nil x.1))

brush-row : (k : ℕ) (x : Name × List ℕ) → length x.1 ≡ 7 + k → brush_row (brush_of x) ≡ named_row (8 - k) x
unfolding brush_row named_row
brush-row k x h =
    let n : length (drop 7 x.1) ≡ k = omega (arith, length-drop 7 x.1) in
    let e : take 7 x.1 ++ (drop 7 x.1 ++ replicate (8 - k) NONE) ≡ x.1 ++ replicate (8 - k) NONE =
    sym (append_assoc (take 7 x.1) (drop 7 x.1) (replicate (8 - k) NONE)) ∙ ap (λ (l : List ℕ). l ++ replicate (8 - k) NONE) (take-append-drop 7 x.1) in
    rw n (ap (λ (l : List ℕ). name_cells x.0 ++ l) e)

textures_are : (p : ℕ) (b : List ℕ) → texture_rows p b ≡ map (named_row 0) (named_items 7 (p + 8) b)
unfolding texture_rows
textures_are p b = map_two texture_row texture_of (named_items 7 (p + 8) b) ∙ each_item 7 (λ x. texture_row (texture_of x)) 0 texture-row (p + 8) b

brushes_are : (k p : ℕ) (s : List ℕ) → k ≤ 8 → brushes_of k p s ≡ map (named_row (8 - k)) (named_items (7 + k) p s)
unfolding brushes_of if
brushes_are k p s h = rw (le-leb k 8 h) (map_two brush_row brush_of (named_items (7 + k) p s) ∙ each_item (7 + k) (λ x. brush_row (brush_of x)) (8 - k) (brush-row k) p s)

pub no-brushes : (k p : ℕ) (s : List ℕ) → 8 < k → brushes_of k p s ≡ []
unfolding brushes_of if
no-brushes k p s h = rw (lt-leb k 8 h)

-- ---- the first chunk of a tag

first_seek : (k : Tag) (one : ℕ → List ℕ → List (List ℕ)) (cs : Chunks) → first_of k one cs ≡ first_of k one (seek_of k cs)
unfolding first_of
first_seek k one cs =
    by_seek k (first_of k one) (λ n p. refl)
    (λ t p b r y. if_no (is t k) (one p b) (first_of k one r) y)
    cs

pub file-inside : (s : List ℕ) → 12 ≤ length s → Inside (span 12 (length s)) (length s)
file-inside s h = record { before = h; within = omega arith }

module _ (s : List ℕ) (k : Tag) where
  pub first_small : length s < 12 → FirstIs s k None
  unfolding rest seek_of
  first_small h = record { says = ap (seek_of k) (ap (split 12) (drop_of_length-le s {i = 12} (omega arith)) ∙ split-none tag_of 12); body = λ f w. let z : ◌≡◌ {A = ℕ} 0 1 = cc in absurd (omega arith) }

  pub first_sought : 12 ≤ length s → (r : std.Option Sought) → Seeks s (span 12 (length s)) k r → FirstIs s k r
  unfolding rest
  first_sought le r x = record {
    says = ap (λ (l : List ℕ). seek_of k (split 12 l)) (sym (from-left s 12)) ∙ x.says;
    body = λ g w.
        let f = sought_among s (span 12 (length s)) k r x g w in
        let i = sought_body s (span 12 (length s)) k r x g w (length s) (file-inside s le) in
        record { head = f.body; room = i.before; within = i.within };
  }

pub ruleset chunk_laws = (file-inside, first_small, first_sought)

module _ (s : List ℕ) (k : Tag) (one : ℕ → List ℕ → List (List ℕ)) (r : std.Option Sought) (x : FirstIs s k r) where
  found : (y : std.Option Sought) → r ≡ y → first_of k one (rest s 12) ≡ first_of k one (sought_of s k y)
  found y w = first_seek k one (rest s 12) ∙ ap (first_of k one) (x.says ∙ ap (sought_of s k) w)

  pub first-none : r ≡ None → first_of k one (rest s 12) ≡ []
  unfolding first_of
  first-none w = found None w

  first_is : (f : Sought) → r ≡ Some f → first_of k one (rest s 12) ≡ one f.at (left f.body s)
  unfolding first_of
  first_is f w = found (Some f) w ∙ if_yes (is k k) _ _ (eqb_refl (code k))

-- ---- the tables

none-put : (l : List (List ℕ)) → l ≡ [] → (out : List ℕ) → out ≡ sets out 0 (joined l)
unfolding joined
none-put l e out = sym (ap (λ y. sets out 0 (joined y)) e)

module _ (s out : List ℕ) where
  pub file-one : file_rows 1 s ≡ first_of TEXS texture_rows (rest s 12)
  unfolding file_rows if
  file-one = refl

  pub file_two : file_rows 2 s ≡ first_of BRUS brush_rows (rest s 12)
  unfolding file_rows if
  file_two = refl

  module _ (r : std.Option Sought) where
    module _ (x : FirstIs s TEXS r) where
      pub textures-none : r ≡ None → out ≡ sets out 0 (joined (file_rows 1 s))
      textures-none w = none-put (file_rows 1 s) (file-one ∙ first-none s TEXS texture_rows r x w) out

      module _ (f : Sought) (w : r ≡ Some f) where
        pub textures-body : Inside f.body (length s)
        textures-body = let y = x.body f w in record { before = y.room; within = y.within }

        pub rows_are : file_rows 1 s ≡ map (named_row 0) (named_items 7 f.body.at (left f.body s))
        rows_are =
            let y = x.body f w in
            file-one ∙ first_is s TEXS texture_rows r x f w ∙ textures_are f.at (left f.body s) ∙ ap (λ (k : ℕ). map (named_row 0) (named_items 7 k (left f.body s))) (sym y.head)

        pub textures-room : length (joined (file_rows 1 s)) ≤ length out → length (joined (map (named_row 0) (named_items 7 f.body.at (left f.body s)))) ≤ length out
        textures-room h = rw (← rows_are) h

        pub textures-put : (put : List ℕ) → put ≡ sets out 0 (joined (map (named_row 0) (named_items 7 f.body.at (left f.body s)))) → put ≡ sets out 0 (joined (file_rows 1 s))
        textures-put put e = rw rows_are e

    module _ (x : FirstIs s BRUS r) where
      pub brushes-none : r ≡ None → out ≡ sets out 0 (joined (file_rows 2 s))
      brushes-none w = none-put (file_rows 2 s) (file_two ∙ first-none s BRUS brush_rows r x w) out

      module _ (g : Sought) (w : r ≡ Some g) where
        pub brushes-body : Inside g.body (length s)
        brushes-body = let y = x.body g w in record { before = y.room; within = y.within }

        module _ (h : Headed) (f : FirstWord s g.body h) where
          pub brushes-rest : Inside h.rest (length s)
          brushes-rest = f.inside

          pub head-is : file_rows 2 s ≡ brushes_of h.word (g.at + 12) (drop 4 (left g.body s))
          unfolding brush_rows
          head-is = file_two ∙ first_is s BRUS brush_rows r x g w ∙ ap (λ (k : ℕ). brushes_of k (g.at + 12) (drop 4 (left g.body s))) (sym f.number)

          pub brushes-over : 8 < h.word → out ≡ sets out 0 (joined (file_rows 2 s))
          brushes-over k = none-put (file_rows 2 s) (head-is ∙ no-brushes h.word (g.at + 12) (drop 4 (left g.body s)) k) out

          module _ (k : h.word ≤ 8) (ids : ℕ) (ei : ids ≡ h.word) where
            pub texts_are : file_rows 2 s ≡ map (named_row (8 - ids)) (named_items (7 + ids) h.rest.at (left h.rest s))
            texts_are =
                let y = x.body g w in
                let q : g.body.at + 4 ≡ g.at + 12 = omega (arith, y.head) in
                head-is ∙ ap (λ (i : ℕ). brushes_of i (g.at + 12) (drop 4 (left g.body s))) (sym ei) ∙ brushes_are ids (g.at + 12) (drop 4 (left g.body s)) (omega (arith, ei))
                ∙ ap (λ (i : ℕ). map (named_row (8 - ids)) (named_items (7 + ids) i (drop 4 (left g.body s)))) (sym q) ∙ ap (map (named_row (8 - ids))) (sym (f.items (7 + ids)))

            pub brushes-ids : 7 + ids ≤ 64
            brushes-ids = omega (arith, ei)

            pub brushes-few : ids ≤ 8
            brushes-few = omega (arith, ei)

            pub brushes-room : length (joined (file_rows 2 s)) ≤ length out → length (joined (map (named_row (8 - ids)) (named_items (7 + ids) h.rest.at (left h.rest s)))) ≤ length out
            brushes-room m = rw (← texts_are) m

            pub brushes-put : (put : List ℕ) → put ≡ sets out 0 (joined (map (named_row (8 - ids)) (named_items (7 + ids) h.rest.at (left h.rest s)))) → put ≡ sets out 0 (joined (file_rows 2 s))
            brushes-put put e = rw texts_are e

pub ruleset textures_laws = (textures-none, textures-body, textures-room, textures-put)

pub ruleset brushes_laws = (brushes-none, brushes-body, brushes-rest, brushes-over, brushes-ids, brushes-few, brushes-room, brushes-put)
