-- The refusals of texts, rows, items and of bodies that hold no chunks: 5, or that of a rule, at a place before the end of the bytes; a 5 at most there.
use mathlib.Core.Path.{◌≡◌}
use Prim.Native.Nat.{ℕ, zero, suc, ◌+◌, ◌*◌, ◌≤◌, ◌<◌}
use native.Mathlib.Omega.{arith}
use mathlib.Core.Bool.{Bool, true, false}
use mathlib.Core.List.{List, [], ◌∷◌, ◌++◌}
use lib.ListN.{length}
use Rattle.wire.specs.Test.{if}
use Rattle.layout.specs.Result.{Result, accept, reject, check, ◌>>=◌}
use Rattle.layout.specs.Parts.{Step, text, words, judged, row, number, named, items_in, items}
use Rattle.layout.specs.Rules.{Rule, holds, refusal}
use Rattle.b3d_spec.specs.declared.Mode.{Mode}
use Rattle.b3d_spec.specs.Parse.{read_texture, read_textures, read_brush, read_brushes, read_vertices, read_triangles, read_bone, read_keys, filled, read_anim}
use Rattle.b3d_spec.specs.Rules.{texture_row, brushes_head, brush_row, brush_ids, vertices_head, vertex_row, triangles_head, triangle_row, weight_row, keys_head, key_row, anim_row}

abbrev pub Any : {A : Type 0} → A → Type 0
Any a = Unit {0}

-- ---- `Told`: what is said of a refusal

module _ (Told : ℕ → ℕ → Type 0) where
  -- a value with P, or a refusal of which that is said
  abbrev pub Low : {A : Type 0} → (A → Type 0) → Result A → Type 0
  Low P (accept a) = P a
  Low P (reject n p) = Told n p

  pub bind_low : {A B : Type 0} (P : A → Type 0) (Q : B → Type 0) (m : Result A) (k : A → Result B) → Low P m → ((a : A) → P a → Low Q (k a)) → Low Q (m >>= k)
  bind_low P Q (accept a) k h f = f a h
  bind_low P Q (reject n p) k h f = h

  pub if-low : {A : Type 0} (P : A → Type 0) (b : Bool) (x y : Result A) → Low P x → Low P y → Low P (if b x y)
  unfolding if
  if-low P true x y h k = h
  if-low P false x y h k = k

  pub check-low : (b : Bool) (n p : ℕ) → Told n p → Low Any (check b n p)
  unfolding check
  check-low true n p h = tt
  check-low false n p h = h

-- ---- the bytes end at `most`, or before

module _ (most : ℕ) (Told : ℕ → ℕ → Type 0) (five : (p : ℕ) → p ≤ most → Told 5 p) (ruled : (r : Rule) (p : ℕ) → p < most → Told (refusal r) p) where
  -- what is left ends there or before
  abbrev pub Left : {A : Type 0} → Step A → Type 0
  Left x = x.place + length x.left ≤ most

  pub text-low : (first p : ℕ) (s : List ℕ) → first ≤ most → p + length s ≤ most → Low Told Left (text first p s)
  unfolding text
  text-low first p [] h k = five first h
  text-low first p (zero ∷ s) h k = omega arith
  text-low first p (suc c ∷ s) h k = bind_low Told Left _ (text first (p + 1) s) _ (text-low first (p + 1) s h (omega arith)) (λ x hx. hx)

  -- the words too
  abbrev pub Words : ℕ → Step (List ℕ) → Type 0
  Words p x = (x.place ≡ p + 4 * length x.value) × Left x

  pub words_low : (first n p : ℕ) (s : List ℕ) → first ≤ most → p + length s ≤ most → Low Told (Words p) (words first n p s)
  unfolding words
  words_low first zero p s h k = (omega arith, k)
  words_low first (suc n) p [] h k = five first h
  words_low first (suc n) p (a ∷ []) h k = five first h
  words_low first (suc n) p (a ∷ b ∷ []) h k = five first h
  words_low first (suc n) p (a ∷ b ∷ c ∷ []) h k = five first h
  words_low first (suc n) p (a ∷ b ∷ c ∷ d ∷ s) h k =
      bind_low Told (Words (p + 4)) _ (words first n (p + 4) s) _ (words_low first n (p + 4) s h (omega arith)) (λ x hx. (omega (arith, hx.0), hx.1))

  pub judged-low : {A : Type 0} (P : A → Type 0) (rs : List Rule) (p : ℕ) (ws : List ℕ) (a : A) → p + 4 * length ws ≤ most → P a → Low Told P (judged rs p ws a)
  unfolding judged
  judged-low P [] p ws a h k = k
  judged-low P (r ∷ rs) p [] a h k = k
  judged-low P (r ∷ rs) p (w ∷ ws) a h k =
      bind_low Told Any P (check (holds r w) (refusal r) p) _ (check-low Told (holds r w) (refusal r) p (ruled r p (omega arith))) (λ u _. judged-low P rs (p + 4) ws a (omega arith) k)

  pub row_low : (rs : List Rule) (p : ℕ) (s : List ℕ) → p + length s ≤ most → Low Told Left (row rs p s)
  unfolding row
  row_low rs p s h =
      bind_low Told (Words p) Left (words p (length rs) p s) _ (words_low p (length rs) p s (omega arith) h) (λ x hx.
      judged-low Left rs p x.value x (omega (arith, hx.0, hx.1)) hx.1)

  pub named-low : (rs : List Rule) (p : ℕ) (s : List ℕ) → p + length s ≤ most → Low Told Left (named rs p s)
  unfolding named
  named-low rs p s h =
      bind_low Told Left Left (text p p s) _ (text-low p p s (omega arith) h) (λ n hn.
      bind_low Told (Words n.place) Left (words p (length rs) n.place n.left) _ (words_low p (length rs) n.place n.left (omega arith) hn) (λ x hx.
      judged-low Left rs n.place x.value _ (omega (arith, hx.0, hx.1)) hx.1))

  module _ {A : Type 0} (one : ℕ → List ℕ → Result (Step A)) (low : (p : ℕ) (s : List ℕ) → p + length s ≤ most → Low Told Left (one p s)) where
    in_low : (f p : ℕ) (s : List ℕ) → p + length s ≤ most → Low Told Any (items_in f one p s)
    unfolding items_in
    in_low zero p [] h = tt
    in_low zero p (c ∷ s) h = five p (omega arith)
    in_low (suc f) p [] h = tt
    in_low (suc f) p (c ∷ s) h =
        bind_low Told Left Any (one p (c ∷ s)) _ (low p (c ∷ s) h) (λ x hx. bind_low Told Any Any (items_in f one x.place x.left) _ (in_low f x.place x.left hx) (λ l _. tt))

    pub items-low : (p : ℕ) (s : List ℕ) → p + length s ≤ most → Low Told Any (items one p s)
    unfolding items
    items-low p s h = in_low (length s) p s h

  -- a reader of a chunk's body
  abbrev pub Body : {A : Type 0} → (ℕ → List ℕ → Result A) → Type 0
  Body one = (p : ℕ) (b : List ℕ) → p + 8 + length b ≤ most → Low Told Any (one p b)

  -- bodies

  pub rows-low : (rs : List Rule) (p : ℕ) (b : List ℕ) → p + length b ≤ most → Low Told Any (items (row rs) p b)
  rows-low rs p b h = items-low (row rs) (row_low rs) p b h

  pub texture_low : (p : ℕ) (s : List ℕ) → p + length s ≤ most → Low Told Left (read_texture p s)
  unfolding read_texture
  texture_low p s h = bind_low Told Left Left (named texture_row p s) _ (named-low texture_row p s h) (λ x hx. hx)

  pub textures-low : Body read_textures
  unfolding read_textures
  textures-low p b h = items-low read_texture texture_low (p + 8) b h

  pub brush-low : (mode : Mode) (n textures p : ℕ) (s : List ℕ) → p + length s ≤ most → Low Told Left (read_brush mode n textures p s)
  unfolding read_brush
  brush-low mode n textures p s h = bind_low Told Left Left (named (brush_row mode ++ brush_ids n textures) p s) _ (named-low (brush_row mode ++ brush_ids n textures) p s h) (λ x hx. hx)

  pub brushes-low : (mode : Mode) (textures : ℕ) → Body (read_brushes mode textures)
  unfolding read_brushes
  brushes-low mode textures p b h =
      bind_low Told Left Any (row brushes_head (p + 8) b) _ (row_low brushes_head (p + 8) b h) (λ x hx.
      bind_low Told Any Any (items (read_brush mode (number x 0) textures) x.place x.left) _ (items-low (read_brush mode (number x 0) textures) (brush-low mode (number x 0) textures) x.place x.left hx) (λ l _. tt))

  pub vertices-low : (mode : Mode) → Body (read_vertices mode)
  unfolding read_vertices
  vertices-low mode p b h =
      bind_low Told Left Any (row vertices_head (p + 8) b) _ (row_low vertices_head (p + 8) b h) (λ x hx.
      bind_low Told Any Any (items (row (vertex_row mode (number x 0) (number x 1) (number x 2))) x.place x.left) _ (rows-low (vertex_row mode (number x 0) (number x 1) (number x 2)) x.place x.left hx) (λ l _. tt))

  pub triangles-low : (brushes n : ℕ) → Body (read_triangles brushes n)
  unfolding read_triangles
  triangles-low brushes n p b h =
      bind_low Told Left Any (row (triangles_head brushes) (p + 8) b) _ (row_low (triangles_head brushes) (p + 8) b h) (λ x hx.
      bind_low Told Any Any (items (row (triangle_row n)) x.place x.left) _ (rows-low (triangle_row n) x.place x.left hx) (λ l _. tt))

  pub bone-low : (n : ℕ) → Body (read_bone n)
  unfolding read_bone
  bone-low n p b h = rows-low (weight_row n) (p + 8) b h

  pub keys-low : Body read_keys
  unfolding read_keys
  keys-low p b h =
      bind_low Told Left Any (row keys_head (p + 8) b) _ (row_low keys_head (p + 8) b h) (λ x hx.
      bind_low Told Any Any (items (row (key_row (number x 0))) x.place x.left) _ (rows-low (key_row (number x 0)) x.place x.left hx) (λ l _. tt))

  pub filled-low : (p : ℕ) (s ws : List ℕ) → p ≤ most → Low Told Any (filled p s ws)
  unfolding filled
  filled-low p [] ws h = tt
  filled-low p (c ∷ s) ws h = five p h

  pub anim-low : Body read_anim
  unfolding read_anim
  anim-low p b h = bind_low Told Left Any (row anim_row (p + 8) b) _ (row_low anim_row (p + 8) b h) (λ x hx. filled-low (p + 8) x.left x.value (omega arith))
