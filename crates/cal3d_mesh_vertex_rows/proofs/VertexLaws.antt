-- The row of one vertex: what `put_vertex` stores.
use Prim.Native.Nat.{ℕ, zero, suc, ◌+◌, ◌*◌, ◌≤◌}
use native.Mathlib.Omega.{arith}
use mathlib.Core.Path.{◌≡◌, refl, ap, sym, ◌∙◌}
use mathlib.Core.List.{List, [], ◌∷◌, ◌++◌, append-nil}
use lib.ListN.{length, length-append}
use lib.Seq.{sets}
use Rattle.wire.specs.Bytes.{word_at}
use Rattle.wire.specs.Cursors.{left}
use Rattle.wire.proofs.LeftLaws.{span}
use Rattle.layout.specs.Parts.{words_of}
use Rattle.layout.specs.Rows.{joined}
use Rattle.shared_table_words.specs.Words.{words_at}
use Rattle.shared_table_words.proofs.CopyLaws.{words-at, length-words}
use Rattle.shared_table_words.proofs.StoreLaws.{sets-append}
use Rattle.cal3d_spec.specs.Tables.{vertex_rows}
use Rattle.cal3d_mesh_plain_spec.specs.Plain.{word_rows, influences_of, cloth_at, cloth_bytes, cloth_place, vertex_at}
use Rattle.cal3d_mesh_vertex_rows.specs.declared.VertexMarks.{VertexMarks}
use Rattle.cal3d_mesh_plain_spec.proofs.WidthLaws.{rows-length, rows-joined}

-- ---- words and rows as they stand

pub words-put : (s : List ℕ) (at n base : ℕ) (out new : List ℕ) → at + 4 * n ≤ length s → new ≡ sets out base (words_of n (left (span at (length s)) s)) → new ≡ sets out base (words_at n s at)
words-put s at n base out new h f = f ∙ ap (λ (z : List ℕ). sets out base z) (words-at n s (span at (length s)) (record { before = omega arith; within = omega arith }) h)

pub rows-put : (s : List ℕ) (at n width base : ℕ) (out new : List ℕ) → new ≡ sets out base (words_at (width * n) s at) → new ≡ sets out base (joined (word_rows width s n at))
rows-put s at n width base out new f = f ∙ ap (λ (z : List ℕ). sets out base z) (sym (rows-joined width s n at))

-- words, and then cells at hand
pub cells-behind : (s : List ℕ) (p n base : ℕ) (cs out one new : List ℕ) → one ≡ sets out base (words_at n s p) → new ≡ sets one (base + n) cs → new ≡ sets out base (words_at n s p ++ cs)
cells-behind s p n base cs out one new e f =
    let q : base + length (words_at n s p) ≡ base + n = omega (arith, length-words n s p) in
    f ∙ ap (λ (z : List ℕ). sets z (base + n) cs) e ∙ ap (λ (z : ℕ). sets (sets out base (words_at n s p)) z cs) (sym q) ∙ sym (sets-append (words_at n s p) cs out base)

-- ---- the cloth weight

pub cloth-none : (s : List ℕ) (springs at : ℕ) → springs ≡ 0 → 0 ≡ cloth_at s springs at
unfolding cloth_at
cloth-none s springs at e = rw e

pub cloth-some : (s : List ℕ) (springs at : ℕ) → (springs ≡ 0 → ⊥) → (r : ℕ) → r ≡ word_at s at → r ≡ cloth_at s springs at
unfolding cloth_at
cloth-some s zero at d r e = absurd (d refl)
cloth-some s (suc springs) at d r e = e

pub bytes-none : (springs : ℕ) → springs ≡ 0 → 0 ≡ cloth_bytes springs
unfolding cloth_bytes
bytes-none springs e = rw e

pub bytes-some : (springs : ℕ) → (springs ≡ 0 → ⊥) → 4 ≡ cloth_bytes springs
unfolding cloth_bytes
bytes-some zero d = absurd (d refl)
bytes-some (suc springs) d = refl

pub cloth-room : (s : List ℕ) (springs at : ℕ) → (springs ≡ 0 → ⊥) → at + cloth_bytes springs ≤ length s → at + 4 ≤ length s
cloth-room s springs at d h = omega (arith, bytes-some springs d)

pub ruleset cloth = (cloth-none, cloth-some, bytes-none, bytes-some, cloth-room)

-- ---- a row

-- the row of one vertex is its eight numbers and four cells
row_is : (s : List ℕ) (springs maps m i p : ℕ)
    → joined (vertex_rows m i (vertex_at s springs maps p ∷ [])) ≡ words_at 8 s p ++ (influences_of s maps p ∷ cloth_at s springs (cloth_place s maps p) ∷ m ∷ i ∷ [])
unfolding joined vertex_rows vertex_at
row_is s springs maps m i p =
    let n = rows-length 2 s (influences_of s maps p) (p + 32 + 8 * maps + 4) in
    rw n (append-nil (words_at 8 s p ++ (influences_of s maps p ∷ cloth_at s springs (cloth_place s maps p) ∷ m ∷ i ∷ [])))

pub row_long : (s : List ℕ) (springs maps m i p : ℕ) → length (joined (vertex_rows m i (vertex_at s springs maps p ∷ []))) ≡ 12
row_long s springs maps m i p = ap length (row_is s springs maps m i p) ∙ length-append (words_at 8 s p) _ ∙ omega (arith, length-words 8 s p)

module _ (s : List ℕ) (springs maps m i p base n k w : ℕ) (out one new : List ℕ) where
  pub vertex-put : n ≡ influences_of s maps p → k ≡ n → w ≡ cloth_at s springs (p + 32 + 8 * maps + 4 + 8 * k)
      → one ≡ sets out base (words_at 8 s p) → new ≡ sets one (base + 8) (n ∷ w ∷ m ∷ i ∷ [])
      → new ≡ sets out base (joined (vertex_rows m i (vertex_at s springs maps p ∷ [])))
  vertex-put en ek ew e f =
      let c : w ≡ cloth_at s springs (cloth_place s maps p) = ew ∙ ap (λ (z : ℕ). cloth_at s springs (p + 32 + 8 * maps + 4 + 8 * z)) (ek ∙ en) in
      let r : words_at 8 s p ++ (n ∷ w ∷ m ∷ i ∷ []) ≡ joined (vertex_rows m i (vertex_at s springs maps p ∷ [])) = rw (en, c) (sym (row_is s springs maps m i p)) in
      cells-behind s p 8 base (n ∷ w ∷ m ∷ i ∷ []) out one new e f ∙ ap (λ (z : List ℕ). sets out base z) r

-- the marks behind a vertex
pub vertex-passed : (a b c e springs : ℕ) → e ≡ cloth_bytes springs → ◌≡◌ {A = VertexMarks} (record { at = a + e; maps = b; influences = c }) (record { at = a + cloth_bytes springs; maps = b; influences = c })
vertex-passed a b c e springs h = rw h
